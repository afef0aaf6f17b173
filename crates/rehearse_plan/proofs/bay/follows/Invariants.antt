use Rattle.std.proofs.Common.{ℕ, ◌<◌, slice_get, IfSome}
use Rattle.rehearse_plan.specs.Kinds.{kind_at}
use Rattle.rehearse_plan.specs.Requests.{number_of}
use Rattle.rehearse_plan.specs.Planned.{IsPlanned}
use Rattle.rehearse_plan.proofs.bay.follows.Given as goal

abbrev pub invariant-loop-turn : goal.invariant-loop-turn
invariant-loop-turn l = (k : ℕ) → k < l.turn
    → IfSome (slice_get l.exchanges k) (IsPlanned (kind_at l.plan.start (number_of l.plan.bays l.bay k)) (number_of l.plan.bays l.bay k))
