use Rattle.std.specs.List.{All}
use Rattle.front_ports.specs.Memory.{IsUnused}
use Rattle.cases_audit.proofs.posts.dial_of.Given as goal

abbrev pub invariant-loop-reply : goal.invariant-loop-reply
invariant-loop-reply l = All IsUnused l.links.items
