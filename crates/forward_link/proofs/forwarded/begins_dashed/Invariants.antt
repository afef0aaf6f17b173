use Rattle.std.proofs.Common.{◌≡◌, drop}
use Rattle.http_head.specs.Name.{name_begins}
use Rattle.forward_link.specs.Dashed.{dashed}
use Rattle.forward_link.proofs.forwarded.begins_dashed.Given as goal

-- what is left of both decides
abbrev pub invariant-loop-i : goal.invariant-loop-i
invariant-loop-i l = name_begins (drop l.i l.prefix) (dashed (drop l.i l.name)) ≡ name_begins l.prefix (dashed l.name)
