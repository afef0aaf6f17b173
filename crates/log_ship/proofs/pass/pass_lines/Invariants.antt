use Rattle.std.proofs.Common.{◌≡◌, ◌≤◌, ◌-◌}
use Rattle.log_ship.specs.Shipped.{ReadsPast}
use Rattle.log_ship.proofs.pass.pass_lines.Given as goal

abbrev pub invariant-passing : goal.invariant-passing
invariant-passing g l = record {
  past : ReadsPast (g.S.Source.left l.fn.input) (g.S.Source.left l.input) l.lines l.buffer;
  few : l.lines ≤ l.fn.before;
  later : g.S.Source.read_faults l.fn.input ≤ g.S.Source.read_faults l.input;
  calm : g.S.Source.read_faults l.input ≡ g.S.Source.read_faults l.fn.input;
}

abbrev pub decreases-passing : goal.decreases-passing
decreases-passing g l = l.fn.before - l.lines
