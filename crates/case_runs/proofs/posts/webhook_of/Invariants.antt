use Rattle.std.specs.List.{All}
use Rattle.front_ports.specs.Memory.{IsUnused}
use Rattle.case_runs.proofs.posts.webhook_of.Given as goal

abbrev pub invariant-loop-word : goal.invariant-loop-word
invariant-loop-word l = All IsUnused l.links.items
