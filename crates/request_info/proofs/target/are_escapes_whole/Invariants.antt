use Rattle.std.proofs.Common.{◌≡◌, drop}
use Rattle.request_info.specs.Target.{are_escapes_whole}
use Rattle.request_info.proofs.target.are_escapes_whole.Given as goal

abbrev pub invariant-loop-b : goal.invariant-loop-b
invariant-loop-b l = are_escapes_whole l.owed (drop l.b-index l.text) ≡ are_escapes_whole 0 l.text
