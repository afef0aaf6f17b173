use Rattle.std.proofs.Common.{All}
use Rattle.front_ports.specs.Memory.{IsUnused}
use Rattle.rehearse_setting.proofs.ports.dial.Given as goal

abbrev pub invariant-loop-turn : goal.invariant-loop-turn
invariant-loop-turn l = All IsUnused l.links.items
