use Rattle.std.proofs.Common.{◌≡◌, ◌≤◌, ◌+◌, ◌-◌, length, drop}
use Rattle.json_prune.specs.Skip.{outside, size, value_size}
use Rattle.json_prune.proofs.skip.value_len.Given as goal

-- what the bytes from here on add
abbrev pub invariant-loop-at : goal.invariant-loop-at
invariant-loop-at l = record {
  within : l.at ≤ length l.text;
  few : l.many ≤ l.at;
  rest : value_size l.text ≡ l.at + size outside l.many (drop l.at l.text);
}

abbrev pub decreases-loop-at : goal.decreases-loop-at
decreases-loop-at l = length l.text - l.at
