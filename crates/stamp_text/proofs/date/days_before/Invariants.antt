use Rattle.std.proofs.Common.{◌≡◌, ◌≤◌, ◌*◌, ◌-◌}
use Rattle.stamp_text.specs.Dates.{days_of}
use Rattle.stamp_text.proofs.date.days_before.Given as goal

abbrev pub invariant-loop-y : goal.invariant-loop-y
invariant-loop-y l = record { value : l.days ≡ days_of (l.y - 1970) 1970; small : l.days ≤ 366 * (l.y - 1970) }
