use Rattle.std.proofs.Common.{◌≡◌, ◌≤◌, ◌-◌}
use Rattle.front_base.specs.declared.audit_id.TheConstants.{MOST_REQUESTS}
use Rattle.check_command.specs.Checks.{SoFar}
use Rattle.check_command.proofs.check.check_log.Given as goal

abbrev pub invariant-checking : goal.invariant-checking
invariant-checking g l = record {
  so_far : SoFar l.fn.policy (g.S.Source.left l.fn.input) (g.S.Source.left l.input) l.buffer l.lines l.checker;
  later : g.S.Source.read_faults l.fn.input ≤ g.S.Source.read_faults l.input;
  calm : g.S.Source.read_faults l.input ≡ g.S.Source.read_faults l.fn.input;
}

abbrev pub decreases-checking : goal.decreases-checking
decreases-checking g l = MOST_REQUESTS - l.lines
