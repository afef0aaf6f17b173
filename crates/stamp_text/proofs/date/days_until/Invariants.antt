use Rattle.std.proofs.Common.{◌≡◌, ◌≤◌, ◌*◌, ◌-◌, pos}
use Rattle.jiff_core.specs.Calendar.{days_of_months}
use Rattle.stamp_text.proofs.date.days_until.Given as goal

abbrev pub invariant-loop-m : goal.invariant-loop-m
invariant-loop-m l = record { value : l.days ≡ days_of_months (pos l.year) (l.m - 1); small : l.days ≤ 32 * l.m }
