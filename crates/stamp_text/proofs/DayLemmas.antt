-- The date of a day gives the day back.
use Rattle.std.proofs.Common.{◌≡◌, ℕ, zero, suc, ◌<◌, ◌≤◌, ◌+◌, ◌-◌, ◌⊎◌, true, false, nat_lt, pos, refl, ap, sym, ⊎_elim, arith, inl, inr, subst}
use Rattle.std.proofs.lemmas.Int.{ints}
use Rattle.std.proofs.lemmas.Bool.{cond-true, cond-false, cases_Bool}
use Rattle.std.proofs.lemmas.Bool.Decides.{nat_tests}
use Rattle.jiff_core.specs.Calendar.{day_count, days_in_year, days_in_month, days_of_months}
use Rattle.jiff_core.proofs.CalendarLemmas.{day_count-next_year, days_of_months_more}
use Rattle.front_base.specs.Civil.{year_from, month_from}
use Rattle.stamp_text.specs.Dates.{days_of}

lt_true : (m n : ℕ) → m < n → nat_lt m n ≡ true
lt_true m n h = grind (arith, nat_tests)

lt_false : (m n : ℕ) → n ≤ m → nat_lt m n ≡ false
lt_false m n h = grind (arith, nat_tests)

lt_cases : (m n : ℕ) → (m < n) ⊎ (n ≤ m)
lt_cases m n = ⊎_elim (λ (e : nat_lt m n ≡ true). inl (grind (arith, nat_tests))) (λ (e : nat_lt m n ≡ false). inr (grind (arith, nat_tests))) (cases_Bool (nat_lt m n))

starts : (y next : ℕ) → next ≡ y + 1 → day_count (pos next) 1 1 ≡ day_count (pos y) 1 1 + days_in_year (pos y)
starts y next e = day_count-next_year (pos y) (pos next) (omega (arith, ints)) (omega (arith, ints, e))

-- the days of years, counted
pub days_counted : (k : ℕ) → day_count (pos (1970 + k)) 1 1 ≡ day_count (pos 1970) 1 1 + days_of k 1970
unfolding days_of
days_counted zero = omega arith
days_counted (suc k) = omega (arith, days_counted k, starts (1970 + k) (1970 + suc k) (omega arith))

pub record YearIs (y day more : ℕ) (p : ℕ × ℕ) : Type 0 where
  pub low : y ≤ p.0
  pub high : p.0 ≤ y + more
  pub within : p.1 < days_in_year (pos p.0)
  pub same : day_count (pos p.0) 1 1 + p.1 ≡ day_count (pos y) 1 1 + day

pub year_in : (more y day : ℕ) → day_count (pos y) 1 1 + day < day_count (pos (y + more)) 1 1 → YearIs y day more (year_from more y day)
unfolding year_from
year_in zero y day h = absurd (omega (arith, h, ap (λ k. day_count (pos k) 1 1) (the_same y)))
  where
    the_same : (y : ℕ) → y + 0 ≡ y
    the_same y = omega arith
year_in (suc more) y day h =
    ⊎_elim
    (λ (here : day < days_in_year (pos y)).
    subst (YearIs y day (suc more)) (sym (cond-true _ _ _ (lt_true day (days_in_year (pos y)) here))) (record { low = omega arith; high = omega arith; within = here; same = refl }))
    (λ (past : days_in_year (pos y) ≤ day).
    let next = starts y (y + 1) refl in
    let end : day_count (pos (y + suc more)) 1 1 ≡ day_count (pos (y + 1 + more)) 1 1 = ap (λ k. day_count (pos k) 1 1) (omega arith) in
    let rest = year_in more (y + 1) (day - days_in_year (pos y)) (omega (arith, h, next, end, past)) in
    subst (YearIs y day (suc more)) (sym (cond-false _ _ _ (lt_false day (days_in_year (pos y)) past)))
    (record { low = omega (arith, rest.low); high = omega (arith, rest.high); within = rest.within; same = omega (arith, rest.same, next, past) }))
    (lt_cases day (days_in_year (pos y)))

pub record MonthIs (year m day more : ℕ) (p : ℕ × ℕ) : Type 0 where
  pub low : m ≤ p.0
  pub high : p.0 ≤ m + more
  pub within : p.1 < days_in_month (pos year) p.0
  pub same : days_of_months (pos year) (p.0 - 1) + p.1 ≡ days_of_months (pos year) (m - 1) + day

pub month_in : (more year m day : ℕ) → 1 ≤ m → days_of_months (pos year) (m - 1) + day < days_of_months (pos year) (m + more) → MonthIs year m day more (month_from more year m day)
unfolding month_from
month_in zero year m day first h =
    let own = days_of_months_more (pos year) m first in
    let e : days_of_months (pos year) (m + 0) ≡ days_of_months (pos year) m = ap (days_of_months (pos year)) (omega arith) in
    record { low = omega arith; high = omega arith; within = omega (arith, h, own, e); same = refl }
month_in (suc more) year m day first h =
    ⊎_elim
    (λ (here : day < days_in_month (pos year) m).
    subst (MonthIs year m day (suc more)) (sym (cond-true _ _ _ (lt_true day (days_in_month (pos year) m) here))) (record { low = omega arith; high = omega arith; within = here; same = refl }))
    (λ (past : days_in_month (pos year) m ≤ day).
    let own = days_of_months_more (pos year) m first in
    let index : days_of_months (pos year) (m + 1 - 1) ≡ days_of_months (pos year) m = ap (days_of_months (pos year)) (omega arith) in
    let end : days_of_months (pos year) (m + suc more) ≡ days_of_months (pos year) (m + 1 + more) = ap (days_of_months (pos year)) (omega arith) in
    let rest = month_in more year (m + 1) (day - days_in_month (pos year) m) (omega arith) (omega (arith, h, own, index, end, past)) in
    subst (MonthIs year m day (suc more)) (sym (cond-false _ _ _ (lt_false day (days_in_month (pos year) m) past)))
    (record { low = omega (arith, rest.low); high = omega (arith, rest.high); within = rest.within; same = omega (arith, rest.same, own, index, past) }))
    (lt_cases day (days_in_month (pos year) m))
