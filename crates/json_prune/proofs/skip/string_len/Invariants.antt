use Rattle.std.proofs.Common.{◌≡◌, ◌≤◌, ◌+◌, ◌-◌, length, drop, false}
use Rattle.json_prune.specs.Skip.{string_size}
use Rattle.json_prune.proofs.skip.string_len.Given as goal

-- what the bytes from here on add
abbrev pub invariant-loop-further : goal.invariant-loop-further
invariant-loop-further l = record {
  within : l.at ≤ length l.text;
  sum : string_size false l.text ≡ l.at + string_size false (drop l.at l.text);
}

abbrev pub decreases-loop-further : goal.decreases-loop-further
decreases-loop-further l = length l.text - l.at
