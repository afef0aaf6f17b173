-- What the forms in memory are told when they are made: the numbers of the calls that fail, and the sizes of reads.
use Rattle.std.specs.Prelude.{ℕ, ◌+◌, ◌-◌, ◌^◌, min, max, Bool, nat_eq, List, Option, None, Some}
use Rattle.std.specs.List.{list_any}

-- a count after one call more, which stands at the last value of its type
abbrev pub next_count : ℕ → ℕ
next_count n = min (n + 1) (2 ^ 64 - 1)

-- whether the call after so many others is listed, the first one having the number 1
abbrev pub next_is_listed : List ℕ → ℕ → Bool
next_is_listed fails calls = list_any (λ number. nat_eq number (next_count calls)) fails

-- as many of so many bytes as a size allows, 0 counting as 1, and all of them where there is no size
abbrev pub cut_to : Option ℕ → ℕ → ℕ
cut_to None n = n
cut_to (Some size) n = min (max size 1) n
