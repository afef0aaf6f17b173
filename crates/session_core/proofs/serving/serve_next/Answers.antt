use Rattle.std.proofs.Common.{ap, arith, refl, sym, Some, ◌∙◌}
use Rattle.session_core.proofs.ConnLemmas.{faults_kept, mark_kept, next_none, next_read, told_kept, was_read, wishes_kept}
use Rattle.session_core.proofs.serving.serve_next.Goals as goal

pub serve_numbered-requires-clause-read : goal.serve_numbered-requires-clause-read
serve_numbered-requires-clause-read g c = was_read _ _ _ _ c.in-Ok.request c.in-Ok.ensures.ok

pub returns-in-Ok-clause-serves : goal.returns-in-Ok-clause-serves
returns-in-Ok-clause-serves g c =
    let out = sym (g.met.C.Conn.outward_is c.next_request.new.conn) ∙ c.next_request.ensures.aside ∙ g.met.C.Conn.outward_is c.args.conn.now in
    let aside = c.serve_numbered.ensures.aside in
    next_read c.args.settings.now (g.C.Conn.from c.args.conn.now) _ _ _ _ _ _ _ _ _ _ _ _ _ _ _ _ _ _ _ c.serve_numbered.result
    aside.1 (told_kept _ _ out) aside.2 (faults_kept _ _ out) (wishes_kept _ _ out)
    (g.C.Conn.from c.next_request.new.conn) c.in-Ok.request (mark_kept _ _ out) c.in-Ok.ensures.ok c.serve_numbered.ensures.serves

pub returns-in-Err-clause-serves : goal.returns-in-Err-clause-serves
returns-in-Err-clause-serves g c =
    let out = sym (g.met.C.Conn.outward_is c.next_request.new.conn) ∙ c.next_request.ensures.aside ∙ g.met.C.Conn.outward_is c.args.conn.now in
    let in_side = sym (g.met.C.Conn.inward_is c.stopped.new.out) ∙ c.stopped.ensures.aside ∙ g.met.C.Conn.inward_is c.next_request.new.conn in
    next_none c.args.settings.now (g.C.Conn.from c.args.conn.now) _ _ _ _ _ _ _ _ _ _ _ _ _ _ _ _ _ _ _ (Some c.stopped.result)
    (told_kept _ _ in_side) (told_kept _ _ out) (faults_kept _ _ in_side) (faults_kept _ _ out) (wishes_kept _ _ out)
    c.in-Err.stop c.in-Err.ensures.err c.stopped.ensures.writes (wishes_kept _ _ in_side) refl (ap Some c.stopped.ensures.end)

pub returns-in-Ok-clause-peer : goal.returns-in-Ok-clause-peer
returns-in-Ok-clause-peer g c =
    let out = sym (g.met.C.Conn.outward_is c.next_request.new.conn) ∙ c.next_request.ensures.aside ∙ g.met.C.Conn.outward_is c.args.conn.now in
    c.serve_numbered.ensures.aside.0 ∙ mark_kept _ _ out

pub returns-in-Ok-clause-read_later : goal.returns-in-Ok-clause-read_later
returns-in-Ok-clause-read_later g c = omega (arith, c.next_request.ensures.later, c.serve_numbered.ensures.aside.2)

pub returns-in-Ok-clause-write_later : goal.returns-in-Ok-clause-write_later
returns-in-Ok-clause-write_later g c =
    let out = sym (g.met.C.Conn.outward_is c.next_request.new.conn) ∙ c.next_request.ensures.aside ∙ g.met.C.Conn.outward_is c.args.conn.now in
    omega (arith, c.serve_numbered.ensures.later, faults_kept _ _ out)

pub returns-in-Err-clause-peer : goal.returns-in-Err-clause-peer
returns-in-Err-clause-peer g c =
    let out = sym (g.met.C.Conn.outward_is c.next_request.new.conn) ∙ c.next_request.ensures.aside ∙ g.met.C.Conn.outward_is c.args.conn.now in
    let in_side = sym (g.met.C.Conn.inward_is c.stopped.new.out) ∙ c.stopped.ensures.aside ∙ g.met.C.Conn.inward_is c.next_request.new.conn in
    mark_kept _ _ in_side ∙ mark_kept _ _ out

pub returns-in-Err-clause-read_later : goal.returns-in-Err-clause-read_later
returns-in-Err-clause-read_later g c =
    let in_side = sym (g.met.C.Conn.inward_is c.stopped.new.out) ∙ c.stopped.ensures.aside ∙ g.met.C.Conn.inward_is c.next_request.new.conn in
    omega (arith, c.next_request.ensures.later, faults_kept _ _ in_side)

pub returns-in-Err-clause-write_later : goal.returns-in-Err-clause-write_later
returns-in-Err-clause-write_later g c =
    let out = sym (g.met.C.Conn.outward_is c.next_request.new.conn) ∙ c.next_request.ensures.aside ∙ g.met.C.Conn.outward_is c.args.conn.now in
    omega (arith, c.stopped.ensures.later, faults_kept _ _ out)
