use Rattle.std.specs.List.{All}
use Rattle.front_ports.specs.Memory.{IsUnused}
use Rattle.cases_resources.proofs.servers.dial_of.Given as goal

abbrev pub invariant-servers : goal.invariant-servers
invariant-servers l = All IsUnused l.links.items
