use Rattle.bay_runs.specs.Loop.{SoFar}
use Rattle.bay_runs.specs.Runs.{conn_tells, door_state}
use Rattle.session_core.specs.Bays.{bay_state, IsReady}
use Rattle.bay_runs.proofs.run.run_bay.Given as goal

abbrev pub invariant-loop : goal.invariant-loop
invariant-loop g l = record {
  ready : IsReady l.settings (bay_state g.R.Routes g.D.Dial g.A.Lane g.B.Lane g.K.Clock g.Y.Diary l.bay);
  so_far : SoFar (conn_tells g.O.C.Source g.O.C.ByteSink g.O.C.Conn) l.settings
      (bay_state g.R.Routes g.D.Dial g.A.Lane g.B.Lane g.K.Clock g.Y.Diary l.fn.bay) (door_state g.O.Door l.fn.door)
      (bay_state g.R.Routes g.D.Dial g.A.Lane g.B.Lane g.K.Clock g.Y.Diary l.bay) (door_state g.O.Door l.door) l.fn.counts l.counts;
}
