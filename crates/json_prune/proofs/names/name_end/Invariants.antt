use Rattle.std.proofs.Common.{◌≡◌, ◌≤◌, ◌+◌, ◌-◌, length, drop}
use Rattle.json_prune.specs.Walk.{name_size}
use Rattle.json_prune.proofs.names.name_end.Given as goal

-- what the bytes from here on add
abbrev pub invariant-loop-end : goal.invariant-loop-end
invariant-loop-end l = record {
  order : l.from ≤ l.end;
  within : l.from ≤ length l.path → l.end ≤ length l.path;
  rest : l.from ≤ length l.path → l.from + name_size (drop l.from l.path) ≡ l.end + name_size (drop l.end l.path);
}

abbrev pub decreases-loop-end : goal.decreases-loop-end
decreases-loop-end l = length l.path - l.end
