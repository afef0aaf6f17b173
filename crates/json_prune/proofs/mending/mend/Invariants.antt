use Rattle.std.proofs.Common.{◌≡◌, ◌≤◌, ◌<◌, ◌-◌, ◌++◌, length, take, drop, get_or}
use Rattle.json_prune.specs.Mend.{mend}
use Rattle.json_prune.proofs.mending.mend.Given as goal

-- what stands there up to here, with what is mended of the rest, is all
abbrev pub invariant-loop-at : goal.invariant-loop-at
invariant-loop-at l = record {
  size : length l.text ≡ length l.fn.text;
  within : l.at ≤ length l.text;
  sum : take l.at l.text ++ mend (drop l.at l.text) ≡ mend l.fn.text;
  backslash : l.at < length l.text → get_or l.text l.at 0 ≡ 92;
}

abbrev pub decreases-loop-at : goal.decreases-loop-at
decreases-loop-at l = length l.fn.text - l.at
