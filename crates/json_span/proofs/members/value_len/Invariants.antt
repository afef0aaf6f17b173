use Rattle.std.proofs.Common.{◌≡◌, ◌≤◌, ◌+◌, ◌-◌, length, drop}
use Rattle.json_span.specs.Span.{place_reach, start}
use Rattle.json_span.proofs.members.value_len.Given as goal

-- what the bytes from here on add
abbrev pub invariant-loop-at : goal.invariant-loop-at
invariant-loop-at l = (l.at ≤ length l.text) × (place_reach start l.text ≡ l.at + place_reach l.place (drop l.at l.text))

abbrev pub decreases-loop-at : goal.decreases-loop-at
decreases-loop-at l = length l.text - l.at
