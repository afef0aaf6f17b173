-- The moment that a text of 27 characters says, by counting days from 1970 (RFC 3339, section 5.6).
use Rattle.std.specs.Prelude.{ℕ, zero, suc, ◌+◌, ◌-◌, ◌*◌, ◌==◌, ◌&&◌, pos, nat_lt, length, slice_index, Bool, List, Option, Some, None, if◌then◌else◌}
use Rattle.front_base.specs.declared.moment.TheConstants.{MOMENT_END}
use Rattle.jiff_core.specs.Calendar.{days_in_year, days_of_months}

abbrev pub digit : List ℕ → ℕ → ℕ
digit text i = slice_index text i - 48

abbrev pub two : List ℕ → ℕ → ℕ
two text i = digit text i * 10 + digit text (i + 1)

abbrev pub four : List ℕ → ℕ → ℕ
four text i = two text i * 100 + two text (i + 2)

-- the days of so many years from a year on
unfoldable pub days_of : ℕ → ℕ → ℕ
days_of zero year = 0
days_of (suc more) year = days_of more year + days_in_year (pos (year + more))

unfoldable pub years_before : ℕ → ℕ
years_before year = days_of (year - 1970) 1970

unfoldable pub months_before : ℕ → ℕ → ℕ
months_before year month = days_of_months (pos year) (month - 1)

-- the microseconds that the parts of a text say
unfoldable pub micros_of : List ℕ → ℕ
micros_of text =
    (years_before (four text 0) + months_before (four text 0) (two text 5) + (two text 8 - 1)) * 86_400_000_000
    + (two text 11 * 3_600_000_000 + two text 14 * 60_000_000 + two text 17 * 1_000_000) + (two text 20 * 10000 + four text 22)

-- the year is one of a moment, and the month is small
abbrev pub has_date : List ℕ → Bool
has_date text = nat_lt 1969 (four text 0) && (nat_lt (four text 0) 10000 && (nat_lt 0 (two text 5) && nat_lt (two text 5) 100))

abbrev pub if_moment : ℕ → Option ℕ
if_moment micros = if nat_lt micros MOMENT_END then Some micros else None

unfoldable pub moment_of : List ℕ → Option ℕ
moment_of text = if (length text == 27) && has_date text then if_moment (micros_of text) else None
