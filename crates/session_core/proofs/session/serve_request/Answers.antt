use Rattle.session_core.specs.Bays.{bay_state}
use Rattle.session_core.proofs.ReadyLemmas.{arrived_at, ready_by}
use Rattle.session_core.proofs.session.serve_request.Goals as goal

pub returns-in-Ok-clause-outcome : goal.returns-in-Ok-clause-outcome
returns-in-Ok-clause-outcome g c =
    c.serve_begun.ensures.outcome (g.C.Conn.from c.args.conn.now) (bay_state g.R.Routes g.D.Dial g.A.Lane g.B.Lane g.K.Clock g.Y.Diary c.args.bay.now)
    (arrived_at c.args.settings.now (g.C.Conn.from c.args.conn.now) c.peer.result c.args.request c.in-Ok.begun
    (bay_state g.R.Routes g.D.Dial g.A.Lane g.B.Lane g.K.Clock g.Y.Diary c.args.bay.now) _ _ _ c.now-received.result
    c.peer.ensures c.now-received.ensures.last c.now-received.ensures.later c.now-received.ensures.given c.in-Ok.ensures.same c.in-Ok.ensures.begun)

pub returns-in-Ok-clause-ready : goal.returns-in-Ok-clause-ready
returns-in-Ok-clause-ready g c =
    ready_by c.lanes_stay.ensures.lanes c.lanes_stay.ensures.log c.lanes_stay.ensures.hook c.stages_make_up_what_is_owed.ensures.owed
    c.args.settings.now (g.C.Conn.from c.args.conn.now) c.args.request _ _ _ _ _ _ _ c.serve_begun.result c.requires.ready c.requires.number
    (returns-in-Ok-clause-outcome g c)
