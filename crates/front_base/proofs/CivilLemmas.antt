-- Counting off years and months gives the date of the calendar.
use Rattle.std.proofs.Common.{◌≡◌, ℕ, zero, suc, ◌<◌, ◌≤◌, ◌+◌, ◌-◌, ◌⊎◌, true, false, nat_lt, pos, refl, ap, sym, ◌∙◌, ⊎_elim, arith, lit≤, inl, inr}
use Rattle.std.proofs.lemmas.Int.{ints}
use Rattle.std.proofs.lemmas.Bool.{cond-true, cond-false, cases_Bool}
use Rattle.std.proofs.lemmas.Bool.Decides.{nat_tests}
use Rattle.jiff_core.specs.Calendar.{IsCivilDate, days_from_civil, day_count, days_in_year, days_in_month, days_of_months, day_of_year}
use Rattle.jiff_core.proofs.CalendarLemmas.{day_count-later_year, day_count-next_year, days_from_civil-day_count, day_count-epoch, day_count-day_of_year, day_of_year_bound, days_of_months_more, days_of_months_mono, days_of_months-zero}
use Rattle.jiff_core.specs.Date.{epoch_day}
use Rattle.jiff_core.specs.declared.civil.date.Date.{Date}
use Rattle.jiff_core.proofs.DateLemmas.{civil}
use Rattle.front_base.specs.Moment.{date_text}
use Rattle.front_base.specs.Civil.{year_from, month_from, year_of_day, month_of_day}

pair_is : (a b c d : ℕ) → a ≡ c → b ≡ d → ◌≡◌ {A = ℕ × ℕ} (a, b) (c, d)
pair_is a b c d p q = cc

lt_true : (m n : ℕ) → m < n → nat_lt m n ≡ true
lt_true m n h = grind (arith, nat_tests)

lt_false : (m n : ℕ) → n ≤ m → nat_lt m n ≡ false
lt_false m n h = grind (arith, nat_tests)

lt_cases : (m n : ℕ) → (m < n) ⊎ (n ≤ m)
lt_cases m n = ⊎_elim (λ (e : nat_lt m n ≡ true). inl (grind (arith, nat_tests))) (λ (e : nat_lt m n ≡ false). inr (grind (arith, nat_tests))) (cases_Bool (nat_lt m n))

year_here : (more y day : ℕ) → day < days_in_year (pos y) → year_from (suc more) y day ≡ (y, day)
unfolding year_from
year_here more y day h = cond-true _ _ _ (lt_true day (days_in_year (pos y)) h)

year_later : (more y day : ℕ) → days_in_year (pos y) ≤ day → year_from (suc more) y day ≡ year_from more (y + 1) (day - days_in_year (pos y))
unfolding year_from
year_later more y day h = cond-false _ _ _ (lt_false day (days_in_year (pos y)) h)

year_done : (y day : ℕ) → year_from zero y day ≡ (y, day)
unfolding year_from
year_done y day = refl

starts : (y next : ℕ) → next ≡ y + 1 → day_count (pos next) 1 1 ≡ day_count (pos y) 1 1 + days_in_year (pos y)
starts y next e = day_count-next_year (pos y) (pos next) (omega (arith, ints)) (omega (arith, ints, e))

later : (y year : ℕ) → y < year → day_count (pos y) 1 1 + days_in_year (pos y) ≤ day_count (pos year) 1 1
later y year h = day_count-later_year (pos y) (pos year) (omega (arith, ints)) (omega (arith, ints, h))

pub year_from_is : (more y year day place : ℕ) → y ≤ year → year ≤ y + more → day_count (pos year) 1 1 + place ≡ day_count (pos y) 1 1 + day → place < days_in_year (pos year) → year_from more y day ≡ (year, place)
year_from_is zero y year day place low high e inside =
    let same : y ≡ year = omega arith in
    let count : day_count (pos year) 1 1 ≡ day_count (pos y) 1 1 = ap (λ k. day_count (pos k) 1 1) (sym same) in
    year_done y day ∙ pair_is _ _ _ _ same (omega (arith, count))
year_from_is (suc more) y year day place low high e inside =
    ⊎_elim
    (λ (before : y < year).
    let past = later y year before in
    let left : days_in_year (pos y) ≤ day = omega (arith, past, e) in
    let next = starts y (y + 1) refl in
    year_later more y day left ∙ year_from_is more (y + 1) year (day - days_in_year (pos y)) place (omega arith) (omega arith) (omega (arith, e, next, left)) inside)
    (λ (at : year ≤ y).
    let same : y ≡ year = omega arith in
    let count : day_count (pos year) 1 1 ≡ day_count (pos y) 1 1 = ap (λ k. day_count (pos k) 1 1) (sym same) in
    let length_is : days_in_year (pos year) ≡ days_in_year (pos y) = ap (λ k. days_in_year (pos k)) (sym same) in
    let day_is : day ≡ place = omega (arith, count, e) in
    year_here more y day (omega (arith, day_is, length_is, inside)) ∙ pair_is _ _ _ _ same day_is)
    (lt_cases y year)

month_here : (more year m day : ℕ) → day < days_in_month (pos year) m → month_from (suc more) year m day ≡ (m, day)
unfolding month_from
month_here more year m day h = cond-true _ _ _ (lt_true day (days_in_month (pos year) m) h)

month_later : (more year m day : ℕ) → days_in_month (pos year) m ≤ day → month_from (suc more) year m day ≡ month_from more year (m + 1) (day - days_in_month (pos year) m)
unfolding month_from
month_later more year m day h = cond-false _ _ _ (lt_false day (days_in_month (pos year) m) h)

month_done : (year m day : ℕ) → month_from zero year m day ≡ (m, day)
unfolding month_from
month_done year m day = refl

pub month_from_is : (more year m month day place : ℕ) → 1 ≤ m → m ≤ month → month ≤ m + more → days_of_months (pos year) (month - 1) + place ≡ days_of_months (pos year) (m - 1) + day → place < days_in_month (pos year) month → month_from more year m day ≡ (month, place)
month_from_is zero year m month day place first low high e inside =
    let same : m ≡ month = omega arith in
    let count : days_of_months (pos year) (month - 1) ≡ days_of_months (pos year) (m - 1) = ap (λ k. days_of_months (pos year) (k - 1)) (sym same) in
    month_done year m day ∙ pair_is _ _ _ _ same (omega (arith, count))
month_from_is (suc more) year m month day place first low high e inside =
    ⊎_elim
    (λ (before : m < month).
    let own = days_of_months_more (pos year) m first in
    let past = days_of_months_mono (pos year) m (month - 1) (omega arith) in
    let left : days_in_month (pos year) m ≤ day = omega (arith, past, own, e) in
    let index : m + 1 - 1 ≡ m = omega arith in
    let next : days_of_months (pos year) (m + 1 - 1) ≡ days_of_months (pos year) m = ap (days_of_months (pos year)) index in
    month_later more year m day left ∙ month_from_is more year (m + 1) month (day - days_in_month (pos year) m) place (omega arith) (omega arith) (omega arith) (omega (arith, e, next, own, left)) inside)
    (λ (at : month ≤ m).
    let same : m ≡ month = omega arith in
    let count : days_of_months (pos year) (month - 1) ≡ days_of_months (pos year) (m - 1) = ap (λ k. days_of_months (pos year) (k - 1)) (sym same) in
    let length_is : days_in_month (pos year) month ≡ days_in_month (pos year) m = ap (days_in_month (pos year)) (sym same) in
    let day_is : day ≡ place = omega (arith, count, e) in
    month_here more year m day (omega (arith, day_is, length_is, inside)) ∙ pair_is _ _ _ _ same day_is)
    (lt_cases m month)

-- the calendar's date of a day since 1970
pub year_is : (year month day n : ℕ) → 1970 ≤ year → IsCivilDate (pos year) month day → days_from_civil (pos year) month day ≡ pos n → year_of_day n ≡ (year, day_of_year (pos year) month day - 1)
unfolding year_of_day
year_is year month day n since civil e =
    let parts = days_from_civil-day_count (pos year) month day in
    let whole = day_count-day_of_year (pos year) month day (omega (arith, civil)) in
    let bound = day_of_year_bound (pos year) month day civil in
    let start = day_count-epoch in
    year_from_is 8029 1970 year n _ since (omega (arith, ints, civil)) (omega (arith, ints, parts, whole, start, e, civil)) (omega (arith, bound, civil))

pub month_is : (year month day n : ℕ) → 1970 ≤ year → IsCivilDate (pos year) month day → days_from_civil (pos year) month day ≡ pos n → month_of_day n ≡ (month, day - 1)
month_is year month day n since civil e =
    let none = days_of_months-zero (pos year) in
    rw (year_is year month day n since civil e)
    (month_from_is 11 year 1 month _ _ (lit≤ tt) (omega (arith, civil)) (omega (arith, civil)) (omega (arith, none, civil)) (omega (arith, civil)))

-- and its text
pub date_text_is : (d : Date) (year month day n : ℕ) → 1970 ≤ year → pos year ≡ d.year → month ≡ d.month → day ≡ d.day → epoch_day d ≡ pos n → date_text year month day ≡ date_text (year_of_day n).0 (month_of_day n).0 ((month_of_day n).1 + 1)
date_text_is d year month day n since y m k e =
    let civil : IsCivilDate (pos year) month day = rw (← y, ← m, ← k) at (civil d) in
    let days : days_from_civil (pos year) month day ≡ pos n = rw (← y, ← m, ← k) at e in
    let last : day - 1 + 1 ≡ day = omega (arith, civil) in
    let years : year_of_day n ≡ (year, day_of_year (pos year) month day - 1) = year_is year month day n since civil days in
    let months : month_of_day n ≡ (month, day - 1) = month_is year month day n since civil days in
    let all : date_text (year_of_day n).0 (month_of_day n).0 ((month_of_day n).1 + 1) ≡ date_text year month (day - 1 + 1) = λ i. date_text (years i).0 (months i).0 ((months i).1 + 1) in
    ap (date_text year month) (sym last) ∙ sym all
