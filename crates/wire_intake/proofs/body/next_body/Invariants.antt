use Rattle.std.proofs.Common.{◌≡◌, ◌≤◌, ◌⊎◌, true}
use Rattle.body_frames.specs.Progress.{is_done, is_open, most_left}
use Rattle.wire_intake.specs.Bodies.{BodySoFar}
use Rattle.wire_intake.proofs.body.next_body.Given as goal

abbrev pub invariant-feeding : goal.invariant-feeding
invariant-feeding g l = record {
  so_far : BodySoFar (g.C.Source.left l.fn.conn) (g.C.Source.left l.conn) l.fn.intake l.intake l.fn.frame l.fn.limit
      l.decoder l.body.items;
  awaits : (is_done l.decoder ≡ true) ⊎ (is_open l.decoder ≡ true);
  aside : g.C.Source.outward l.conn ≡ g.C.Source.outward l.fn.conn;
  later : g.C.Source.read_faults l.fn.conn ≤ g.C.Source.read_faults l.conn;
  calm : g.C.Source.read_faults l.conn ≡ g.C.Source.read_faults l.fn.conn;
}

abbrev pub decreases-feeding : goal.decreases-feeding
decreases-feeding g l = most_left l.decoder
