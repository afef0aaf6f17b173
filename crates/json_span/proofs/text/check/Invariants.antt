use Rattle.std.proofs.Common.{◌≤◌, ◌-◌, length, take}
use Rattle.json_span.proofs.TextLemmas.{Leads}
use Rattle.json_span.proofs.text.check.Given as goal

-- the place is the one that the bytes before lead to
abbrev pub invariant-loop-at : goal.invariant-loop-at
invariant-loop-at l = (l.at ≤ length l.text) × Leads (take l.at l.text) l.place

abbrev pub decreases-loop-at : goal.decreases-loop-at
decreases-loop-at l = length l.text - l.at
