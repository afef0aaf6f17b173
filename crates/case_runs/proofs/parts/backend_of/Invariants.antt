use Rattle.std.specs.List.{All}
use Rattle.front_ports.specs.Memory.{IsUnused}
use Rattle.case_runs.proofs.parts.backend_of.Given as goal

abbrev pub invariant-loop-row : goal.invariant-loop-row
invariant-loop-row l = All IsUnused l.links.items
