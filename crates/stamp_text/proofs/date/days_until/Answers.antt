use Rattle.std.proofs.Common.{◌≡◌, ◌+◌, ◌-◌, pos, ap, sym, ◌∙◌, arith}
use Rattle.jiff_core.specs.Calendar.{days_of_months}
use Rattle.jiff_core.proofs.CalendarLemmas.{days_of_months_more, days_of_months-zero}
use Rattle.stamp_text.specs.Dates.{months_before}
use Rattle.stamp_text.proofs.date.days_until.Goals as goal

pub loop-m-init : goal.loop-m-init
loop-m-init c = record { value = sym (days_of_months-zero (pos c.args.year)); small = omega arith }

pub loop-m-preserved : goal.loop-m-preserved
loop-m-preserved c =
    let m = c.loop-m.m in
    let k : m + 1 - 1 ≡ m = omega arith in
    let next : days_of_months (pos c.args.year) (m + 1 - 1) ≡ days_of_months (pos c.args.year) m = ap (days_of_months (pos c.args.year)) k in
    let more = days_of_months_more (pos c.args.year) m c.loop-m.auto.m in
    record { value = omega (arith, more, next); small = omega arith }

pub returns-clause-value : goal.returns-clause-value
unfolding months_before
returns-clause-value c =
    let same : c.loop-m.m ≡ c.args.month = omega arith in
    c.loop-m.invariant.value ∙ ap (λ m. days_of_months (pos c.args.year) (m - 1)) same

pub returns-clause-small : goal.returns-clause-small
returns-clause-small c = omega (arith, c.loop-m.invariant.small)
