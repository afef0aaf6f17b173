use Rattle.std.proofs.Common.{◌≡◌, []}
use Rattle.std.specs.Prelude.{replicate}
use Rattle.model_worlds.specs.Steps.{start_bay}
use Rattle.model_steps.proofs.starting.start_bays.Given as goal

abbrev pub invariant-loop-bay : goal.invariant-loop-bay
invariant-loop-bay l = l.own.items ≡ replicate l.bay start_bay
