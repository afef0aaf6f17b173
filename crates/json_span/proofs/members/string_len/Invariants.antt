use Rattle.std.proofs.Common.{◌≡◌, ◌+◌, drop}
use Rattle.json_span.specs.Span.{string_reach}
use Rattle.json_span.specs.declared.string.Inside.TheVariants as inside
use Rattle.json_span.proofs.members.string_len.Given as goal

-- what the bytes from here on add
abbrev pub invariant-loop-at : goal.invariant-loop-at
invariant-loop-at l = string_reach inside.Start l.text ≡ l.at + string_reach l.inside (drop l.at l.text)
