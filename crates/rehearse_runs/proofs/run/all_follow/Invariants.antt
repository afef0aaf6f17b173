use Rattle.std.proofs.Common.{ℕ, ◌<◌, slice_get, IfSome}
use Rattle.rehearse_plan.specs.Planned.{Follows}
use Rattle.rehearse_runs.proofs.run.all_follow.Given as goal

abbrev pub invariant-loop-bay : goal.invariant-loop-bay
invariant-loop-bay g l = (k : ℕ) → k < l.bay
    → IfSome (slice_get l.bays k) (λ end. Follows l.plan.start l.plan.count l.plan.bays k (g.Y.ReadDiary.told end.diary))
