use Rattle.std.proofs.Common.{All}
use Rattle.front_ports.specs.Memory.{IsUnused}
use Rattle.rehearse_setting.proofs.ports.hook.Given as goal

abbrev pub invariant-loop : goal.invariant-loop
invariant-loop l = All IsUnused l.links.items
