use Rattle.std.proofs.Common.{◌≡◌, drop}
use Rattle.avail_probe.specs.Watching.{any_refused}
use Rattle.avail_probe.proofs.watcher.Watcher.any_refused.Given as goal

-- none that was passed was refused
abbrev pub invariant-loop-row : goal.invariant-loop-row
invariant-loop-row l = any_refused (drop l.row-index l.self.rows) ≡ any_refused l.self.rows
