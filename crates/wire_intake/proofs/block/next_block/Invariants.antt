use Rattle.std.proofs.Common.{◌≡◌, ◌≤◌, ◌-◌, length}
use Rattle.wire_intake.specs.declared.intake.TheConstants.{MOST_HELD_BYTES}
use Rattle.wire_intake.specs.Seen.{Seen}
use Rattle.http_head.specs.Block.{IsSearched}
use Rattle.wire_intake.proofs.block.next_block.Given as goal

abbrev pub invariant-reading : goal.invariant-reading
invariant-reading g l = record {
  seen : Seen (g.C.Source.left l.fn.conn) (g.C.Source.left l.conn) l.fn.intake l.intake;
  searched : IsSearched l.intake l.search;
  aside : g.C.Source.outward l.conn ≡ g.C.Source.outward l.fn.conn;
  later : g.C.Source.read_faults l.fn.conn ≤ g.C.Source.read_faults l.conn;
  calm : g.C.Source.read_faults l.conn ≡ g.C.Source.read_faults l.fn.conn;
}

abbrev pub decreases-reading : goal.decreases-reading
decreases-reading g l = MOST_HELD_BYTES - length l.intake
