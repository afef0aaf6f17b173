use Rattle.std.proofs.Common.{◌≡◌, ◌≤◌, ◌-◌, ◌++◌, length, take, drop}
use Rattle.json_span.specs.Machine.{place_step, place_ends, keeps, start}
use Rattle.json_span.proofs.RunLemmas.{output}
use Rattle.json_span.proofs.TextLemmas.{Leads}
use Rattle.json_span.proofs.joined.compact.Given as goal

-- the place is the one that the bytes before lead to, and what they keep was pushed, but for the range that is open
abbrev pub invariant-loop-at : goal.invariant-loop-at
invariant-loop-at l = record {
  in_order : l.from ≤ l.at;
  within : l.at ≤ length l.text;
  leads : Leads (take l.at l.text) l.place;
  kept : l.joined.items ++ take (l.at - l.from) (drop l.from l.text) ≡ output place_step place_ends keeps start (take l.at l.text);
}

abbrev pub decreases-loop-at : goal.decreases-loop-at
decreases-loop-at l = length l.text - l.at
