use Rattle.std.proofs.Common.{◌≡◌, ◌≤◌, ◌-◌, ◌++◌, drop, length}
use Rattle.group_resources.specs.Lines.{AreLines, document}
use Rattle.group_resources.proofs.merged.read_merged.Given as goal

-- the lines so far are the document of the bytes so far
abbrev pub invariant-reading : goal.invariant-reading
invariant-reading l = record {
  good : AreLines l.lines.items;
  split : l.bytes ≡ document l.lines.items ++ drop l.at l.bytes;
  within : l.at ≤ length l.bytes;
}

abbrev pub decreases-reading : goal.decreases-reading
decreases-reading l = length l.bytes - l.at
