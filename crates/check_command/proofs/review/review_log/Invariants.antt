use Rattle.std.proofs.Common.{◌≡◌, ◌≤◌, ◌-◌}
use Rattle.front_base.specs.declared.audit_id.TheConstants.{MOST_REQUESTS}
use Rattle.check_command.specs.Reviews.{SoFar}
use Rattle.check_command.proofs.review.review_log.Given as goal

abbrev pub invariant-reviewing : goal.invariant-reviewing
invariant-reviewing g l = record {
  so_far : SoFar l.fn.policy (g.S.Source.left l.fn.input) (g.S.Source.left l.input) l.buffer l.lines l.checker l.bad;
  later : g.S.Source.read_faults l.fn.input ≤ g.S.Source.read_faults l.input;
  calm : g.S.Source.read_faults l.input ≡ g.S.Source.read_faults l.fn.input;
}

abbrev pub decreases-reviewing : goal.decreases-reviewing
decreases-reviewing g l = MOST_REQUESTS - l.lines
