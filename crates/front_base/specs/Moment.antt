-- The text of a moment in UTC (RFC 3339, section 5.6, with six digits of a second's fraction).
use Rattle.std.specs.Prelude.{ℕ, ◌+◌, ◌-◌, ◌/◌, ◌%◌, List, ◌++◌, codes, replicate, length, decimal}
use Rattle.front_base.specs.Civil.{year_of_day, month_of_day}

-- microseconds of a day
abbrev pub day_micros : ℕ
day_micros = 86_400_000_000

-- the number in decimal, with zeros in front up to the width
abbrev pub padded : ℕ → ℕ → List ℕ
padded width n = replicate (width - length (decimal n)) 48 ++ decimal n

-- `2024-06-19`
unfoldable pub date_text : ℕ → ℕ → ℕ → List ℕ
date_text year month day = padded 4 year ++ (codes "-" ++ (padded 2 month ++ (codes "-" ++ padded 2 day)))

-- `17:30:05.000001`
unfoldable pub time_text : ℕ → ℕ → ℕ → ℕ → List ℕ
time_text hour minute second fraction =
    padded 2 hour
    ++ (codes ":" ++ (padded 2 minute
    ++ (codes ":" ++ (padded 2 second
    ++ (codes "." ++ padded 6 fraction)))))

-- the same, from the microseconds since midnight
abbrev pub clock_text : ℕ → List ℕ
clock_text micros =
    time_text (micros / 3_600_000_000) (micros / 60_000_000 % 60) (micros / 1_000_000 % 60) (micros % 1_000_000)

-- the date of a day since the start of 1970
abbrev pub day_text : ℕ → List ℕ
day_text day = date_text (year_of_day day).0 (month_of_day day).0 ((month_of_day day).1 + 1)

-- `2024-06-19T17:30:05.000001Z`, from the microseconds since the start of 1970
unfoldable pub moment_text : ℕ → List ℕ
moment_text micros =
    day_text (micros / day_micros) ++ (codes "T" ++ (clock_text (micros % day_micros) ++ codes "Z"))
