-- What is known of rows whose services are probed, and when a condition is to change.
use Rattle.std.specs.Prelude.{ℕ, ◌-◌, Bool, true, false, not, if◌then◌else◌, nat_le, List, [], ◌∷◌, ◌++◌, map, length, drop, Option, Some, None, option_and_then, slice_get, slice_set}
use Rattle.std.specs.List.{list_all, list_any}
use Rattle.apiservice_rows.specs.Row.{Row}
use Rattle.avail_probe.specs.Status.{told_of}
use Rattle.avail_probe.specs.declared.watcher.TheConstants.{MOST_PROBES}

-- a row's condition, up or down, if it has one; whether what was told of it last wasn't taken; and its last probes in their order, each of
-- them good or bad
pub record Watched : Type 0 where
  pub told : Option Bool
  pub refused : Bool
  pub probes : List Bool

-- the last elements of a list, so many at most
abbrev pub last : {T : Type 0} → ℕ → List T → List T
last n xs = drop (length xs - n) xs

-- a probe is good, or bad
abbrev pub is_so : Bool → Bool → Bool
is_so true probe = probe
is_so false probe = not probe

-- all probes are good, or all bad
abbrev pub are_so : Bool → List Bool → Bool
are_so good probes = list_all (is_so good) probes

-- so many last probes are there, and all of them are good, or all bad
abbrev pub are_last : ℕ → Bool → List Bool → Bool
are_last n good probes = if nat_le n (length probes) then are_so good (last n probes) else false

-- up, or down, where so many last probes are there and all good, or all bad
abbrev pub wish_for : ℕ → Bool → List Bool → Option Bool
wish_for threshold up probes = if are_last threshold up probes then Some up else None

abbrev pub either : Option Bool → Option Bool → Option Bool
either None b = b
either (Some up) b = Some up

-- the condition that is wished: another one than it has, or any where it has none
abbrev pub wish_by : ℕ → Option Bool → List Bool → Option Bool
wish_by threshold None probes = either (wish_for threshold true probes) (wish_for threshold false probes)
wish_by threshold (Some up) probes = wish_for threshold (not up) probes

abbrev pub wish : ℕ → Watched → Option Bool
wish threshold w = wish_by threshold w.told w.probes

-- a probe more, the last ones being kept
abbrev pub probed : Bool → Watched → Watched
probed good w = record { told = w.told; refused = w.refused; probes = last MOST_PROBES (w.probes ++ good ∷ []) }

-- what was told was taken: another condition; the probes stay
abbrev pub put : Bool → Watched → Watched
put up w = record { told = Some up; refused = false; probes = w.probes }

-- it wasn't
abbrev pub refuse : Watched → Watched
refuse w = record { told = w.told; refused = true; probes = w.probes }

-- what was told of some row last wasn't taken
abbrev pub any_refused : List Watched → Bool
any_refused rows = list_any (λ (w : Watched). w.refused) rows

-- the rows that are watched, and how many probes decide
pub record Watch : Type 0 where
  pub threshold : ℕ
  pub rows : List Watched

-- as rows are found: none was probed yet
abbrev pub opened : List Row → List Watched
opened rows = map (λ (row : Row). record { told = told_of row; refused = false; probes = [] }) rows

-- the row at that place changed so; the others stay
abbrev pub changed_at : Option Watched → ℕ → (Watched → Watched) → List Watched → List Watched
changed_at None at change rows = rows
changed_at (Some w) at change rows = slice_set rows at (change w)

abbrev pub changed : ℕ → (Watched → Watched) → List Watched → List Watched
changed at change rows = changed_at (slice_get rows at) at change rows

-- the condition that is wished for the row at that place
abbrev pub wish_at : ℕ → ℕ → List Watched → Option Bool
wish_at threshold at rows = option_and_then (wish threshold) (slice_get rows at)

-- ---- all probes

-- what is kept of a row by all of its probes
abbrev pub kept : Watched → Watched
kept w = record { told = w.told; refused = w.refused; probes = last MOST_PROBES w.probes }
