use Rattle.std.proofs.Common.{None, Some, arith, ◌∙◌}
use Rattle.session_core.specs.Connection.{conn_state}
use Rattle.session_core.proofs.ConnLemmas.{goes, never_begun}
use Rattle.session_core.proofs.serving.serve_connection.Goals as goal

pub returns-in_default-clause-serves : goal.returns-in_default-clause-serves
returns-in_default-clause-serves g c = never_begun _ _ _ _

pub returns-in-Some-clause-serves : goal.returns-in-Some-clause-serves
returns-in-Some-clause-serves g c =
    let i = c.serving.invariant in
    goes c.requests_stay.ensures.starts c.requests_stay.ensures.refused c.args.settings.now (g.C.Conn.from c.args.conn.now) _ _ _
    (conn_state g.C.Source g.C.ByteSink g.C.Conn c.args.conn.now) (conn_state g.C.Source g.C.ByteSink g.C.Conn c.serving.conn)
    (conn_state g.C.Source g.C.ByteSink g.C.Conn c.serve_next.new.conn) _ _ i.so_far
    (Some c.in-Some.end) (g.C.Conn.from c.serving.conn) i.peer i.read_later i.write_later c.in-Some.ensures.serves

pub serving-preserved : goal.serving-preserved
serving-preserved g c =
    let i = c.serving.invariant in
    let e = c.in_default-serve_next.ensures in
    record {
      so_far = goes c.requests_stay.ensures.starts c.requests_stay.ensures.refused c.args.settings.now (g.C.Conn.from c.args.conn.now) _ _ _
          (conn_state g.C.Source g.C.ByteSink g.C.Conn c.args.conn.now) (conn_state g.C.Source g.C.ByteSink g.C.Conn c.serving.conn)
          (conn_state g.C.Source g.C.ByteSink g.C.Conn c.serve_next.new.conn) _ _ i.so_far
          None (g.C.Conn.from c.serving.conn) i.peer i.read_later i.write_later e.serves;
      ready = e.ready;
      peer = e.peer ∙ i.peer;
      read_later = omega (arith, i.read_later, e.read_later);
      write_later = omega (arith, i.write_later, e.write_later);
    }
