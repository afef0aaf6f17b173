-- What clocks tell.
use Rattle.std.specs.Prelude.{ℕ, ◌+◌, ◌-◌, ◌*◌, ◌^◌, ◌≤◌, min, nat_lt, if◌then◌else◌, List, map, length, Option, None, Some, ⊤}
use Rattle.std.specs.List.{range_with_len}
use Rattle.front_base.specs.declared.moment.TheConstants.{MOMENT_END}

-- the moments given are told no longer only where they would be 2^64 - 1 or more
abbrev pub LosesAtEnd : Option (List ℕ) → Option (List ℕ) → Type 0
LosesAtEnd None new = ⊤
LosesAtEnd (Some moments) None = 2 ^ 64 - 1 ≤ length moments + 1
LosesAtEnd (Some moments) (Some more) = ⊤

-- the k-th moment of a clock in steps, counted from 0, which is the greatest one at most
abbrev pub moment_at : ℕ → ℕ → ℕ → ℕ
moment_at start step k = min (start + k * step) (MOMENT_END - 1)

-- its first n moments
abbrev pub first_moments : ℕ → ℕ → ℕ → List ℕ
first_moments start step n = map (moment_at start step) (range_with_len 0 n)

-- the same, which are told while their count is below the end of its type
abbrev pub told_moments : ℕ → ℕ → ℕ → Option (List ℕ)
told_moments start step n = if nat_lt n (2 ^ 64 - 1) then Some (first_moments start step n) else None
