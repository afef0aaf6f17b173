-- The age of an object at a moment (kube-aggregator's column Age: `metatable.ConvertToHumanReadableDateType`).
use Rattle.std.specs.Prelude.{ℕ, ◌/◌, ◌-◌, ◌&&◌, nat_eq, nat_lt, int_div, ℤ, pos, negsuc, Bool, true, false, not, List, codes, Option, Some, None, Result, Ok, Err, if◌then◌else◌}
use Rattle.std.specs.List.{starts_with}
use Rattle.jiff.specs.Words.{parse_timestamp}
use Rattle.jiff_core.specs.declared.error.Bound.{Bound}
use Rattle.jiff_core.specs.declared.error.Bound.TheVariants.{UnixEpochSeconds}
use Rattle.jiff_core.specs.declared.error.Error.{Error}
use Rattle.jiff_core.specs.declared.error.Error.TheVariants.{Range}
use Rattle.serde_json.specs.Data.{Data}
use Rattle.json_value.specs.Members.{inner, text_in}
use Rattle.apiservice_columns.specs.Age.{duration_text}

-- a number that isn't below zero
abbrev pub natural : ℤ → Option ℕ
natural (pos n) = Some n
natural (negsuc n) = None

-- whole microseconds since the start of 1970, of an instant in nanoseconds; instants before have none
abbrev pub micros_of : ℤ → Option ℕ
micros_of nanos = natural (int_div nanos (pos 1000))

-- so many microseconds ahead: less than two seconds are none, as clocks differ
abbrev pub ahead : ℕ → List ℕ
ahead micros = if nat_lt micros 2_000_000 then codes "0s" else codes "<invalid>"

-- from one moment to another, which is named first
unfoldable pub since : ℕ → ℕ → List ℕ
since now created =
    if nat_lt now created then ahead (created - now) else duration_text ((now - created) / 1_000_000)

abbrev pub since_any : ℕ → Option ℕ → List ℕ
since_any now None = codes "<unknown>"
since_any now (Some created) = since now created

abbrev pub is_instant : Bound → Bool
is_instant UnixEpochSeconds = true
is_instant bound = false

-- the text is a time, and past one end of the instants that there are
abbrev pub is_past_an_end : Error → Bool
is_past_an_end (Range bound) = is_instant bound
is_past_an_end e = false

abbrev pub has_minus : List ℕ → Bool
has_minus text = starts_with nat_eq text (codes "-")

-- a time after the last instant is later than every moment; one before the first has a year below zero
abbrev pub unread : List ℕ → Error → List ℕ
unread text e = if is_past_an_end e && not (has_minus text) then codes "<invalid>" else codes "<unknown>"

-- since an instant in nanoseconds, of which whole microseconds count, that a text gives
unfoldable pub age_at : ℕ → List ℕ → Result ℤ Error → List ℕ
age_at now text (Ok created) = since_any now (micros_of created)
age_at now text (Err e) = unread text e

-- since a time in the form of RFC 3339, where it is one
abbrev pub age_of : ℕ → Option (List ℕ) → List ℕ
age_of now None = codes "<unknown>"
age_of now (Some text) = age_at now text (parse_timestamp text)

-- since the object was created
unfoldable pub age_cell : ℕ → Data → List ℕ
age_cell now d = age_of now (text_in (inner (codes "metadata") (codes "creationTimestamp") d))
