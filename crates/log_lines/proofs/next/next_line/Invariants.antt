use Rattle.std.proofs.Common.{◌≡◌, ◌≤◌, ◌-◌, length}
use Rattle.log_lines.specs.Lines.{NoFeedIn}
use Rattle.log_lines.specs.Seen.{Seen}
use Rattle.log_lines.specs.declared.buffer.TheConstants.{MOST_HELD_BYTES}
use Rattle.log_lines.proofs.next.next_line.Given as goal

abbrev pub invariant-reading : goal.invariant-reading
invariant-reading g l = record {
  seen : Seen (g.S.Source.left l.fn.input) (g.S.Source.left l.input) l.fn.lines l.lines;
  searched : NoFeedIn l.lines 0 l.from;
  within : l.from ≤ length l.lines;
  later : g.S.Source.read_faults l.fn.input ≤ g.S.Source.read_faults l.input;
  calm : g.S.Source.read_faults l.input ≡ g.S.Source.read_faults l.fn.input;
}

abbrev pub decreases-reading : goal.decreases-reading
decreases-reading g l = MOST_HELD_BYTES - length l.lines
