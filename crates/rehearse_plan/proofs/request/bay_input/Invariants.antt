use Rattle.std.proofs.Common.{◌≡◌}
use Rattle.rehearse_plan.specs.Requests.{inputs}
use Rattle.rehearse_plan.proofs.request.bay_input.Given as goal

abbrev pub invariant-loop-turn : goal.invariant-loop-turn
invariant-loop-turn l = l.out.items ≡ inputs l.plan.start l.plan.bays l.bay l.turn
