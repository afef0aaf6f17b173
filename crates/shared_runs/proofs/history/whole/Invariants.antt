use Rattle.std.proofs.Common.{All, take}
use Rattle.shared_runs.specs.Histories.{SawOne}
use Rattle.shared_runs.proofs.history.whole.Given as goal

-- what the bays that were passed saw is the beginning of the longest so far
abbrev pub invariant-loop-end : goal.invariant-loop-end
invariant-loop-end g l = All (SawOne g.P.Prefix.home g.P.Prefix.opening (g.P.Prefix.history l.longest).entries) (take l.end-index l.ends)
