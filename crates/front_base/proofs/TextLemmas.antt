-- The text of a moment is ASCII.
use Rattle.std.proofs.Common.{◌<◌, ◌≤◌, ◌+◌, ◌-◌, ◌/◌, ◌%◌, ◌^◌, ℕ, zero, suc, List, [], ◌∷◌, ◌++◌, replicate, length, arith, IsUtf8, Bool, true, false}
use Rattle.std.specs.Prelude.{nat_lt, if◌then◌else◌, pos}
use Rattle.std.specs.Str.{IsAscii}
use Rattle.std.specs.Fmt.{decimal}
use Rattle.std.proofs.lemmas.Fmt.{IsAscii-decimal}
use Rattle.std.proofs.lemmas.Str.{IsAscii-append, IsUtf8-from_ascii}
use Rattle.std.proofs.lemmas.Str.Ascii.{IsAscii-cons, IsAscii-nil, IsAscii-from_all}
use Rattle.std.proofs.lemmas.List.Elements.{All-replicate}
use Rattle.front_base.specs.Civil.{year_from, month_from, year_of_day, month_of_day}
use Rattle.front_base.specs.Moment.{padded, date_text, time_text, clock_text, moment_text, day_micros}
use Rattle.jiff_core.specs.Calendar.{days_in_year, days_in_month}

padded_ascii : (w n : ℕ) → n < 2 ^ 64 → IsAscii (padded w n)
padded_ascii w n h = IsAscii-append (replicate (w - length (decimal n)) 48) (decimal n)
    (IsAscii-from_all _ (All-replicate (λ b. b < 128) (w - length (decimal n)) 48 (omega arith))) (IsAscii-decimal n h)

-- a number, a byte and a text
joined : (w n b : ℕ) (rest : List ℕ) → n < 2 ^ 64 → b < 128 → IsAscii rest → IsAscii (padded w n ++ b ∷ rest)
joined w n b rest h k r = IsAscii-append (padded w n) (b ∷ rest) (padded_ascii w n h) (IsAscii-cons b rest k r)

date_ascii : (year month day : ℕ) → year < 2 ^ 64 → month < 2 ^ 64 → day < 2 ^ 64 → IsAscii (date_text year month day)
unfolding date_text
date_ascii year month day y m d =
    joined 4 year 45 (padded 2 month ++ 45 ∷ padded 2 day) y (omega arith)
    (joined 2 month 45 (padded 2 day) m (omega arith) (padded_ascii 2 day d))

time_ascii : (h m s f : ℕ) → h < 2 ^ 64 → m < 2 ^ 64 → s < 2 ^ 64 → f < 2 ^ 64 → IsAscii (time_text h m s f)
unfolding time_text
time_ascii h m s f a b c d =
    joined 2 h 58 (padded 2 m ++ 58 ∷ (padded 2 s ++ 46 ∷ padded 6 f)) a (omega arith)
    (joined 2 m 58 (padded 2 s ++ 46 ∷ padded 6 f) b (omega arith)
    (joined 2 s 46 (padded 6 f) c (omega arith) (padded_ascii 6 f d)))

-- a date that is counted off is no greater than the count
year_most : (more year day : ℕ) → ((year_from more year day).0 ≤ year + more) × ((year_from more year day).1 ≤ day)
unfolding year_from
year_most zero year day = (omega arith, omega arith)
year_most (suc more) year day = cases (year_most more (year + 1) (day - days_in_year (pos year))) (nat_lt day (days_in_year (pos year)))
  where
    Most : ℕ × ℕ → Type 0
    Most p = (p.0 ≤ year + 1 + more) × (p.1 ≤ day - days_in_year (pos year))

    cases : Most (year_from more (year + 1) (day - days_in_year (pos year))) → (b : Bool) → ((if b then (year, day) else year_from more (year + 1) (day - days_in_year (pos year))).0 ≤ year + suc more)
        × ((if b then (year, day) else year_from more (year + 1) (day - days_in_year (pos year))).1 ≤ day)
    cases h true = (omega arith, omega arith)
    cases h false = (omega (arith, h), omega (arith, h))

month_most : (more year month day : ℕ) → ((month_from more year month day).0 ≤ month + more) × ((month_from more year month day).1 ≤ day)
unfolding month_from
month_most zero year month day = (omega arith, omega arith)
month_most (suc more) year month day = cases (month_most more year (month + 1) (day - days_in_month (pos year) month)) (nat_lt day (days_in_month (pos year) month))
  where
    Most : ℕ × ℕ → Type 0
    Most p = (p.0 ≤ month + 1 + more) × (p.1 ≤ day - days_in_month (pos year) month)

    cases : Most (month_from more year (month + 1) (day - days_in_month (pos year) month)) → (b : Bool) → ((if b then (month, day) else month_from more year (month + 1) (day - days_in_month (pos year) month)).0 ≤ month + suc more)
        × ((if b then (month, day) else month_from more year (month + 1) (day - days_in_month (pos year) month)).1 ≤ day)
    cases h true = (omega arith, omega arith)
    cases h false = (omega (arith, h), omega (arith, h))

-- so the text of a moment is UTF-8
pub moment_utf8 : (micros : ℕ) → micros < 2 ^ 63 → IsUtf8 (moment_text micros)
unfolding moment_text year_of_day
moment_utf8 micros h =
    let day : ℕ = micros / day_micros in
    let y = year_most 8029 1970 day in
    let m = month_most 11 (year_of_day day).0 1 (year_of_day day).1 in
    let date = date_ascii (year_of_day day).0 (month_of_day day).0 ((month_of_day day).1 + 1) (omega (arith, y)) (omega (arith, m)) (omega (arith, y, m, h)) in
    let time = time_ascii (micros % day_micros / 3600000000) (micros % day_micros / 60000000 % 60) (micros % day_micros / 1000000 % 60) (micros % day_micros % 1000000)
    (omega (arith, h)) (omega arith) (omega arith) (omega arith) in
    let clock = IsAscii-append (time_text (micros % day_micros / 3600000000) (micros % day_micros / 60000000 % 60) (micros % day_micros / 1000000 % 60) (micros % day_micros % 1000000)) (90 ∷ []) time (IsAscii-cons 90 [] (omega arith) IsAscii-nil) in
    IsUtf8-from_ascii (moment_text micros) (IsAscii-append (date_text (year_of_day day).0 (month_of_day day).0 ((month_of_day day).1 + 1)) (84 ∷ (clock_text (micros % day_micros) ++ 90 ∷ [])) date (IsAscii-cons 84 (clock_text (micros % day_micros) ++ 90 ∷ []) (omega arith) clock))
