-- How long ago something was, for people: whole units, and where the unit is coarse beside the number, the next smaller one too
-- (Kubernetes, `k8s.io/apimachinery`: `duration.HumanDuration`).
use Rattle.std.specs.Prelude.{ℕ, ◌/◌, ◌%◌, ◌==◌, nat_lt, List, ◌++◌, codes, decimal, if◌then◌else◌}

abbrev pub in_one : ℕ → List ℕ → List ℕ
in_one n unit = decimal n ++ unit

abbrev pub in_both : ℕ → List ℕ → ℕ → List ℕ → List ℕ
in_both whole large rest small = decimal whole ++ (large ++ (decimal rest ++ small))

-- so many small units, of which `each` make a large one; none of them is left out
unfoldable pub in_two : ℕ → ℕ → List ℕ → List ℕ → List ℕ
in_two n each large small =
    if n % each == 0 then in_one (n / each) large else in_both (n / each) large (n % each) small

-- below three hours
unfoldable pub minutes_text : ℕ → List ℕ
minutes_text s =
    if nat_lt s 120 then in_one s (codes "s")
    else if nat_lt s 600 then in_two s 60 (codes "m") (codes "s")
    else in_one (s / 60) (codes "m")

-- from three hours up to eight days
unfoldable pub hours_text : ℕ → List ℕ
hours_text s =
    if nat_lt s 28_800 then in_two (s / 60) 60 (codes "h") (codes "m")
    else if nat_lt s 172_800 then in_one (s / 3600) (codes "h")
    else in_two (s / 3600) 24 (codes "d") (codes "h")

-- from eight days on; a year has 365 days
unfoldable pub days_text : ℕ → List ℕ
days_text s =
    if nat_lt s 63_072_000 then in_one (s / 86_400) (codes "d")
    else if nat_lt s 252_288_000 then in_two (s / 86_400) 365 (codes "y") (codes "d")
    else in_one (s / 31_536_000) (codes "y")

-- so many seconds
unfoldable pub duration_text : ℕ → List ℕ
duration_text s =
    if nat_lt s 10_800 then minutes_text s else if nat_lt s 691_200 then hours_text s else days_text s
