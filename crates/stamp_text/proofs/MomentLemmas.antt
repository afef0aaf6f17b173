-- A moment's text is read back.
use Rattle.std.proofs.Common.{◌≡◌, ℕ, ◌<◌, ◌+◌, ◌-◌, ◌*◌, ◌/◌, ◌%◌, true, nat_lt, pos, ℤ, List, ◌++◌, length, Some, refl, ap, arith, lit≤}
use Rattle.std.specs.Prelude.{codes}
use Rattle.std.proofs.lemmas.Int.{ints}
use Rattle.std.proofs.lemmas.Bool.Decides.{nat_tests}
use Rattle.jiff_core.specs.Calendar.{day_count, days_in_month, days_of_months}
use Rattle.jiff_core.proofs.CalendarLemmas.{day_count-epoch, day_count-day_of_year, days_from_civil-day_count, days_of_months_more, days_of_months_all, days_of_months-zero}
use Rattle.jiff_core.proofs.DateLemmas.{days_from_civil-max}
use Rattle.front_base.specs.Civil.{year_of_day, month_of_day}
use Rattle.front_base.specs.Moment.{date_text, time_text, moment_text}
use Rattle.front_base.specs.declared.moment.TheConstants.{MOMENT_END}
use Rattle.stamp_text.specs.Dates.{two, four, days_of, years_before, months_before, micros_of, has_date, moment_of}
use Rattle.stamp_text.proofs.DayLemmas.{days_counted, YearIs, year_in, MonthIs, month_in}
use Rattle.stamp_text.proofs.Padding.{padded_two, padded_four, padded_six}

-- the numbers that the 27 characters say
pub record Says (x : List ℕ) (y m d h i s f : ℕ) : Type 0 where
  pub len : length x ≡ 27
  pub year : four x 0 ≡ y
  pub month : two x 5 ≡ m
  pub day : two x 8 ≡ d
  pub hour : two x 11 ≡ h
  pub minute : two x 14 ≡ i
  pub second : two x 17 ≡ s
  pub fraction : two x 20 * 10000 + four x 22 ≡ f

spelled : (y m d h i s f : ℕ) → y < 10000 → m < 100 → d < 100 → h < 100 → i < 100 → s < 100 → f < 1000000 →
    Says (date_text y m d ++ (codes "T" ++ (time_text h i s f ++ codes "Z"))) y m d h i s f
unfolding date_text time_text
spelled y m d h i s f hy hm hd hh hi hs hf =
    rw (padded_four y hy, padded_two m hm, padded_two d hd, padded_two h hh, padded_two i hi, padded_two s hs, padded_six f hf)
    (record { len = refl; year = omega arith; month = omega arith; day = omega arith; hour = omega arith; minute = omega arith; second = omega arith; fraction = omega arith })

month_small : (y : ℤ) (m : ℕ) → days_in_month y m < 32
month_small y m = grind (arith, nat_tests)

limit : day_count (pos 9999) 1 1 ≡ 7_304_485
limit =
    let a = days_from_civil-max in
    let b = days_from_civil-day_count (pos 9999) 12 31 in
    let c = day_count-day_of_year (pos 9999) 12 31 (lit≤ tt) in
    let m = days_of_months_more (pos 9999) 12 (lit≤ tt) in
    let all : days_of_months (pos 9999) 12 ≡ 365 = days_of_months_all (pos 9999) in
    let last : days_in_month (pos 9999) 12 ≡ 31 = refl in
    omega (arith, ints, a, b, c, m, all, last)

lt_true : (m n : ℕ) → m < n → nat_lt m n ≡ true
lt_true m n h = grind (arith, nat_tests)

pub record Back (x : List ℕ) (n : ℕ) : Type 0 where
  pub len : length x ≡ 27
  pub dated : has_date x ≡ true
  pub micros : micros_of x ≡ n

clock_back : (r : ℕ) → r < 86_400_000_000 → r / 3_600_000_000 * 3_600_000_000 + r / 60_000_000 % 60 * 60_000_000 + r / 1_000_000 % 60 * 1_000_000 + r % 1_000_000 ≡ r
clock_back r h =
    let a : r / 60_000_000 / 60 ≡ r / 3_600_000_000 = omega arith in
    let b : r / 1_000_000 / 60 ≡ r / 60_000_000 = omega arith in
    omega (arith, a, b)

pub moment_back : (n : ℕ) → n < MOMENT_END → Back (moment_text n) n
unfolding moment_text year_of_day micros_of years_before months_before
moment_back n h =
    let day : ℕ = n / 86_400_000_000 in
    let r : ℕ = n % 86_400_000_000 in
    let y = year_of_day day in
    let m = month_of_day day in
    let start = day_count-epoch in
    let ys : YearIs 1970 day 8029 y = year_in 8029 1970 day (omega (arith, limit, start)) in
    let zero_months = days_of_months-zero (pos y.0) in
    let all = days_of_months_all (pos y.0) in
    let ms : MonthIs y.0 1 y.1 11 m = month_in 11 y.0 1 y.1 (lit≤ tt) (omega (arith, ys.within, zero_months, all)) in
    let small = month_small (pos y.0) m.0 in
    let counted = days_counted (y.0 - 1970) in
    let there : day_count (pos (1970 + (y.0 - 1970))) 1 1 ≡ day_count (pos y.0) 1 1 = ap (λ k. day_count (pos k) 1 1) (omega (arith, ys.low)) in
    let days : days_of (y.0 - 1970) 1970 + days_of_months (pos y.0) (m.0 - 1) + (m.1 + 1 - 1) ≡ day = omega (arith, ys.same, ms.same, zero_months, counted, there) in
    let s = spelled y.0 m.0 (m.1 + 1) (r / 3_600_000_000) (r / 60_000_000 % 60) (r / 1_000_000 % 60) (r % 1_000_000)
    (omega (arith, ys.high)) (omega (arith, ms.high)) (omega (arith, ms.within, small)) (omega arith) (omega arith) (omega arith) (omega arith) in
    let e1 = lt_true 1969 y.0 (omega (arith, ys.low)) in
    let e2 = lt_true y.0 10000 (omega (arith, ys.high)) in
    let e3 = lt_true 0 m.0 (omega (arith, ms.low)) in
    let e4 = lt_true m.0 100 (omega (arith, ms.high)) in
    let clock = clock_back r (omega arith) in
    record {
      len = s.len;
      dated = rw (s.year, s.month, e1, e2, e3, e4) refl;
      micros = rw (s.year, s.month, s.day, s.hour, s.minute, s.second, s.fraction) (omega (arith, days, clock));
    }

pub moment_again : (n : ℕ) → n < MOMENT_END → moment_of (moment_text n) ≡ Some n
unfolding moment_of
moment_again n h =
    let b = moment_back n h in
    rw (b.len, b.dated, b.micros, lt_true n MOMENT_END h) refl
