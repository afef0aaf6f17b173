use Rattle.std.proofs.Common.{◌≡◌, ◌≤◌, ◌-◌, length}
use Rattle.json_span.specs.Value.{Value, StandsFor, flat}
use Rattle.json_span.proofs.SpanLemmas.{Left}
use Rattle.json_span.proofs.members.member.Given as goal

-- the members from here on are those that weren't asked
abbrev pub invariant-loop-at : goal.invariant-loop-at
invariant-loop-at l = (l.at ≤ length l.text) × ((v : Value) → StandsFor l.text v → l.text ≡ flat v → Left l.name l.text l.at v)

abbrev pub decreases-loop-at : goal.decreases-loop-at
decreases-loop-at l = length l.text - l.at
