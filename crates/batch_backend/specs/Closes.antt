-- Why a batch ends before others: it is whole, or the next line would carry its bytes over the limit, or its first line has
-- waited.
use Rattle.std.specs.Prelude.{◌≡◌, ◌<◌, ◌≤◌, ◌+◌, ◌-◌, ◌⊎◌, max, ℕ, List, [], ◌∷◌, ◌++◌, length, Bool, true, false, ◌||◌, nat_lt, ⊤, All}
use Rattle.front_base.specs.Line.{Line}
use Rattle.truncate_backend.specs.Tries.{Try, bytes_of}
use Rattle.batch_backend.specs.Batches.{Pending, is_any, is_whole}
use Rattle.batch_backend.specs.declared.limits.Limits.{Limits}

-- the first of the next lines would carry the bytes of these over the limit
abbrev pub carries_over : Limits → List Line → List Line → Bool
carries_over limits lines [] = false
carries_over limits lines (x ∷ next) = nat_lt limits.bytes (bytes_of lines + length x.bytes)

-- a batch of these lines ends for their number or their bytes
abbrev pub is_full_before : Limits → List Line → List Line → Bool
is_full_before limits lines next = is_whole limits lines || carries_over limits lines next

-- the lines of the first try, and these where there is none
abbrev pub first_lines : List Try → List Line → List Line
first_lines [] lines = lines
first_lines (t ∷ ts) lines = t.lines

-- when the first line of a batch was taken, and when the batch was put
pub record Times : Type 0 where
  pub since : ℕ
  pub put : ℕ

-- a batch of these lines ended for its number or its bytes, or for its age: its first line had waited as long as a line may
abbrev pub EndsFor : Limits → List Line → Times → List Line → Type 0
EndsFor limits lines t next = (is_full_before limits lines next ≡ true) ⊎ (limits.wait ≤ t.put - t.since)

-- each try ended so, the last of them before these lines
abbrev pub AllEnd : Limits → List Try → List Times → List Line → Type 0
AllEnd limits [] [] next = ⊤
AllEnd limits [] (m ∷ ms) next = ⊥
AllEnd limits (t ∷ ts) [] next = ⊥
AllEnd limits (t ∷ ts) (m ∷ ms) next = EndsFor limits t.lines m (first_lines ts next) × AllEnd limits ts ms next

-- each try but the last one ended so
abbrev pub AllButLastEnd : Limits → List Try → List Times → Type 0
AllButLastEnd limits [] [] = ⊤
AllButLastEnd limits [] (m ∷ ms) = ⊥
AllButLastEnd limits (t ∷ ts) [] = ⊥
AllButLastEnd limits (t ∷ []) (m ∷ []) = ⊤
AllButLastEnd limits (t ∷ []) (m ∷ n ∷ ms) = ⊥
AllButLastEnd limits (t ∷ u ∷ us) (m ∷ []) = ⊥
AllButLastEnd limits (t ∷ u ∷ us) (m ∷ n ∷ ms) = EndsFor limits t.lines m u.lines × AllButLastEnd limits (u ∷ us) (n ∷ ms)

-- ---- moments

-- a line was taken at this moment, or is the first of those that waited before
abbrev pub IsSince : ℕ → Pending → ℕ → Type 0
IsSince now p since = (since ≡ now) ⊎ ((is_any p.lines ≡ true) × (since ≡ p.since))

-- a batch was put at this moment, and its first line was taken then or waited before
abbrev pub IsPutAt : ℕ → Pending → Times → Type 0
IsPutAt now p t = (t.put ≡ now) × IsSince now p t.since

-- of what waits, the first line has waited for less time than a line may, or was taken at this very moment
abbrev pub IsYoung : Limits → ℕ → Pending → Type 0
IsYoung limits now p = is_any p.lines ≡ true → now - p.since < max limits.wait 1

-- calls at one moment made these tries. They ended as tries do, and what waits then was taken at that moment or waited before
pub record EndsAt (limits : Limits) (now : ℕ) (p : Pending) (tries : List Try) (q : Pending) : Type 0 where
  pub times : List Times
  pub put : All (IsPutAt now p) times
  pub ends : (before : List Try) (earlier : List Times) → AllEnd limits before earlier p.lines
      → AllEnd limits (before ++ tries) (earlier ++ times) q.lines
  pub since : is_any q.lines ≡ true → IsSince now p q.since
