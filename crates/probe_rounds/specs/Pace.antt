-- When rounds of probes begin, by the moments that a clock gives.
use Rattle.std.specs.Prelude.{ℕ, zero, suc, ◌+◌, ◌-◌, ◌*◌, ◌^◌, ◌==◌, min, nat_le, Bool, true, if◌then◌else◌, List, [], ◌∷◌, Option, Some, None}
use Rattle.probe_rounds.specs.declared.pace.Pace.{Pace}
use Rattle.probe_rounds.specs.declared.plan.ProbePlan.{ProbePlan}

-- so many seconds or more have passed, where a time is told
abbrev pub is_past : ℕ → ℕ → ℕ → Bool
is_past every began now = if every == 0 then true else nat_le (began + every * 1000000) now

-- the first round begins at once, and each other one so many seconds or more after the one before
abbrev pub is_due : ℕ → Option ℕ → ℕ → Bool
is_due every None now = true
is_due every (Some began) now = is_past every began now

abbrev pub start : Pace
start = record { done = 0; began = None }

-- a moment was given, at which a round begins if one is due
abbrev pub after : ProbePlan → Pace → ℕ → Pace
after plan pace now = if is_due plan.every pace.began now then (record { done = pace.done + 1; began = Some now }) else pace

-- these moments were given, one after another
unfoldable pub paced : ProbePlan → Pace → List ℕ → Pace
paced plan pace [] = pace
paced plan pace (now ∷ later) = paced plan (after plan pace now) later

-- a count that rises by one, and stands at the last value of its type
abbrev pub once_more : ℕ → ℕ
once_more count = min (count + 1) (2 ^ 64 - 1)

-- nobody is asked whether rounds go on where no time was told
abbrev pub asked_once : ℕ → ℕ → ℕ
asked_once every count = if every == 0 then count else once_more count

-- a clock that has rested so often since its count was that
abbrev pub rested : ℕ → ℕ → ℕ
rested zero count = count
rested (suc n) count = once_more (rested n count)

-- the same of who was asked, once at each rest
abbrev pub asked_so : ℕ → ℕ → ℕ → ℕ
asked_so every zero count = count
asked_so every (suc n) count = asked_once every (asked_so every n count)
