use Rattle.std.proofs.Common.{◌≡◌, drop}
use Rattle.avail_probe.specs.Watching.{are_so}
use Rattle.avail_probe.proofs.watcher.are_so.Given as goal

-- the probes that were passed are so
abbrev pub invariant-loop-probe : goal.invariant-loop-probe
invariant-loop-probe l = are_so l.good (drop l.probe-index l.probes) ≡ are_so l.good l.probes
