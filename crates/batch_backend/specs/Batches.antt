-- Batches of lines: which lines are put together, and when.
use Rattle.std.specs.Prelude.{◌<◌, ◌≤◌, ◌+◌, ◌-◌, ℕ, List, [], ◌∷◌, ◌++◌, length, Option, Some, None, ⊤, Bool, true, false, ◌&&◌, ◌||◌, nat_le, nat_lt, if◌then◌else◌}
use Rattle.front_base.specs.Line.{Line}
use Rattle.truncate_backend.specs.Tries.{bytes_of}
use Rattle.batch_backend.specs.declared.limits.Limits.{Limits}

-- the lines that wait to be put, and when the first of them was taken
pub record Pending : Type 0 where
  pub lines : List Line
  pub since : ℕ

-- what contracts see of a drainer
pub record Drained : Type 0 where
  pub limits : Limits
  pub pending : Pending

abbrev pub is_any : List Line → Bool
is_any [] = false
is_any (l ∷ ls) = true

-- the first line of them has waited long enough
abbrev pub is_due : Limits → ℕ → Pending → Bool
is_due limits now p = is_any p.lines && nat_le limits.wait (now - p.since)

-- one line more would carry their bytes over the limit
abbrev pub is_over : Limits → Pending → Line → Bool
is_over limits p x = is_any p.lines && nat_lt limits.bytes (bytes_of p.lines + length x.bytes)

-- they are as many as a batch may have, or have at least its bytes
abbrev pub is_whole : Limits → List Line → Bool
is_whole limits lines = nat_le limits.lines (length lines) || nat_le limits.bytes (bytes_of lines)

abbrev pub since_of : ℕ → Pending → ℕ
since_of now p = (if is_any p.lines then p.since else now)

-- what is put, no lines where there is no put, and what waits afterwards
pub record Move : Type 0 where
  pub put : List Line
  pub left : Pending

-- a line that is added completes a batch, or waits with the others
abbrev pub add_line : Limits → ℕ → Pending → Line → Move
add_line limits now p x =
    (if is_whole limits (p.lines ++ x ∷ [])
    then record { put = p.lines ++ x ∷ []; left = record { lines = []; since = since_of now p } }
    else record { put = []; left = record { lines = p.lines ++ x ∷ []; since = since_of now p } })

-- what becomes of a pop: a line that would carry the bytes over the limit waits alone, and those before it are put
abbrev pub after_pop : Limits → ℕ → Pending → Option Line → Move
after_pop limits now p None = record { put = []; left = p }
after_pop limits now p (Some x) =
    (if is_over limits p x
    then record { put = p.lines; left = record { lines = x ∷ []; since = now } }
    else add_line limits now p x)

-- the lines of a try: one to so many, and either one line or at most so many bytes
pub record WithinLimits (limits : Limits) (lines : List Line) : Type 0 where
  pub some : 0 < length lines
  pub lines_fit : length lines ≤ limits.lines
  pub bytes_fit : 1 < length lines → bytes_of lines ≤ limits.bytes

-- what is put, if anything is
abbrev pub IsBatch : Limits → List Line → Type 0
IsBatch limits [] = ⊤
IsBatch limits (l ∷ ls) = WithinLimits limits (l ∷ ls)

-- what waits: fewer lines than a batch may have, and either one line or at most so many bytes
pub record PendsWithin (limits : Limits) (lines : List Line) : Type 0 where
  pub lines_fit : length lines < limits.lines
  pub bytes_fit : 1 < length lines → bytes_of lines ≤ limits.bytes
