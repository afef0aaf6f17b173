use Rattle.std.proofs.Common.{◌≡◌, take}
use Rattle.avail_probe.specs.Watching.{opened}
use Rattle.avail_probe.proofs.watcher.Watcher.start.Given as goal

-- the rows that were passed are watched, as they were found
abbrev pub invariant-loop-row : goal.invariant-loop-row
invariant-loop-row l = l.conditions.items ≡ opened (take l.row-index l.rows)
