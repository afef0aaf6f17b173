use Rattle.std.proofs.Common.{◌≡◌, ◌≤◌, ◌-◌}
use Rattle.front_base.specs.declared.audit_id.TheConstants.{MOST_REQUESTS}
use Rattle.session_core.specs.Bays.{bay_state, IsReady}
use Rattle.session_core.specs.Ends.{SoFar}
use Rattle.session_core.proofs.serving.serve_connection.Given as goal

abbrev pub invariant-serving : goal.invariant-serving
invariant-serving g l = record {
  so_far : SoFar l.settings (g.C.Conn.from l.fn.conn)
      (bay_state g.R.Routes g.D.Dial g.A.Lane g.B.Lane g.K.Clock g.Y.Diary l.fn.bay)
      (bay_state g.R.Routes g.D.Dial g.A.Lane g.B.Lane g.K.Clock g.Y.Diary l.bay)
      (g.C.Source.left l.fn.conn) (g.C.Source.left l.conn) l.edge
      (g.C.ByteSink.written l.fn.conn) (g.C.ByteSink.written l.conn)
      (g.C.Conn.wishes l.fn.conn) (g.C.Conn.wishes l.conn);
  ready : IsReady l.settings (bay_state g.R.Routes g.D.Dial g.A.Lane g.B.Lane g.K.Clock g.Y.Diary l.bay);
  peer : g.C.Conn.from l.conn ≡ g.C.Conn.from l.fn.conn;
  read_later : g.C.Source.read_faults l.fn.conn ≤ g.C.Source.read_faults l.conn;
  write_later : g.C.ByteSink.write_faults l.fn.conn ≤ g.C.ByteSink.write_faults l.conn;
}

abbrev pub decreases-serving : goal.decreases-serving
decreases-serving g l = MOST_REQUESTS - l.bay.number
