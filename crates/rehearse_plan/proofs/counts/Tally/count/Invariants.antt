use Rattle.std.proofs.Common.{◌≡◌, ◌≤◌}
use Rattle.rehearse_plan.specs.Summary.{count_of}
use Rattle.rehearse_plan.proofs.counts.Tally.count.Given as goal

abbrev pub invariant-loop-number : goal.invariant-loop-number
invariant-loop-number l = (l.count ≡ count_of l.self l.plan.start l.number) × (l.count ≤ l.number)
