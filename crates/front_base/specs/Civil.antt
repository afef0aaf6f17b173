-- The civil date of a day since 1970, by counting off years and then months of the Gregorian calendar.
use Rattle.std.specs.Prelude.{ℕ, zero, suc, ◌+◌, ◌-◌, nat_lt, if◌then◌else◌, pos}
use Rattle.jiff_core.specs.Calendar.{days_in_year, days_in_month}

-- a year, and the place of a day in it from 0, given a year and the place of the day counted from the start of that
-- year; the first argument says how many years may be counted off
unfoldable pub year_from : ℕ → ℕ → ℕ → ℕ × ℕ
year_from zero year day = (year, day)
year_from (suc more) year day =
    if nat_lt day (days_in_year (pos year)) then (year, day)
    else year_from more (year + 1) (day - days_in_year (pos year))

-- the same for the months of a year
unfoldable pub month_from : ℕ → ℕ → ℕ → ℕ → ℕ × ℕ
month_from zero year month day = (month, day)
month_from (suc more) year month day =
    if nat_lt day (days_in_month (pos year) month) then (month, day)
    else month_from more year (month + 1) (day - days_in_month (pos year) month)

-- the year of a day since 1970, which is at most 9999, and the place of the day in it
unfoldable pub year_of_day : ℕ → ℕ × ℕ
year_of_day day = year_from 8029 1970 day

-- the month, and the place of the day in it
abbrev pub month_of_day : ℕ → ℕ × ℕ
month_of_day day = month_from 11 (year_of_day day).0 1 (year_of_day day).1
