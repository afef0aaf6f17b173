use Rattle.std.proofs.Common.{◌≡◌, ℕ, suc, ◌+◌, ◌-◌, ◌≤◌, pos, refl, ap, ◌∙◌, arith}
use Rattle.jiff_core.specs.Calendar.{days_in_year}
use Rattle.stamp_text.specs.Dates.{days_of, years_before}
use Rattle.stamp_text.proofs.date.days_before.Goals as goal

days_more : (y : ℕ) → 1970 ≤ y → days_of (y + 1 - 1970) 1970 ≡ days_of (y - 1970) 1970 + days_in_year (pos y)
unfolding days_of
days_more y h =
    let k : y + 1 - 1970 ≡ suc (y - 1970) = omega arith in
    let e : 1970 + (y - 1970) ≡ y = omega arith in
    ap (λ n. days_of n 1970) k ∙ ap (λ z. days_of (y - 1970) 1970 + days_in_year (pos z)) e

pub loop-y-init : goal.loop-y-init
unfolding days_of
loop-y-init c = record { value = refl; small = omega arith }

pub loop-y-preserved : goal.loop-y-preserved
loop-y-preserved c =
    let more = days_more c.loop-y.y c.loop-y.auto.y in
    let a = c.loop-y.invariant.value in
    let b = c.year_len-days.ensures.value in
    record { value = omega (arith, more); small = omega arith }

pub returns-clause-value : goal.returns-clause-value
unfolding years_before
returns-clause-value c =
    let same : c.loop-y.y ≡ c.args.year = omega arith in
    c.loop-y.invariant.value ∙ ap (λ y. days_of (y - 1970) 1970) same

pub returns-clause-small : goal.returns-clause-small
returns-clause-small c = omega (arith, c.loop-y.invariant.small)
