use Rattle.std.specs.List.{All}
use Rattle.front_ports.specs.Memory.{IsUnused}
use Rattle.cases_ground.proofs.peers.dial_of.Given as goal

abbrev pub invariant-loop-input : goal.invariant-loop-input
invariant-loop-input l = All IsUnused l.links.items
