use Rattle.std.proofs.Common.{All}
use Rattle.front_plants.specs.Unused.{IsUnusedDial}
use Rattle.rehearse_setting.proofs.ports.dials.Given as goal

abbrev pub invariant-loop-bay : goal.invariant-loop-bay
invariant-loop-bay l = All IsUnusedDial l.dials.items
