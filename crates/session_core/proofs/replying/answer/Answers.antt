use Rattle.std.proofs.Common.{ap, sym, ◌∙◌}
use Rattle.front_ports.specs.Side.{Side}
use Rattle.session_core.specs.Steps.{work_state}
use Rattle.session_core.proofs.AnswerLemmas.{answered_by, aside_by, halted_by, wished_err, wished_ok}
use Rattle.session_core.proofs.replying.answer.Goals as goal

pub returns-in-Ok-clause-ok : goal.returns-in-Ok-clause-ok
returns-in-Ok-clause-ok g c =
    answered_by _ c.args.settings.now c.args.request.now c.args.handling.now c.in-Ok.sent _ _ _ _ _ _ _ _
    (g.C.ByteSink.written c.args.conn.now) (g.C.ByteSink.written c.reply.new.out)
    (g.C.ByteSink.write_faults c.args.conn.now) (g.C.ByteSink.write_faults c.reply.new.out) _ c.wishes_to_end-wished.result
    c.in-Ok.ensures.ok c.in-Ok.ensures.later.1 c.note.ensures c.set_link.ensures
    (g.C.ByteSink.written c.wishes_to_end-wished.new.self) (g.C.ByteSink.write_faults c.wishes_to_end-wished.new.self)
    c.wishes_to_end-wished.ensures.written c.wishes_to_end-wished.ensures.write_faults c.reply.result c.reply.ensures.ok

pub returns-in-Ok-clause-err : goal.returns-in-Ok-clause-err
returns-in-Ok-clause-err g c =
    halted_by _ c.args.settings.now c.args.request.now c.args.handling.now c.in-Ok.sent _ _ _ _ _ _ _ _
    (g.C.ByteSink.written c.args.conn.now) (g.C.ByteSink.written c.reply.new.out)
    (g.C.ByteSink.write_faults c.args.conn.now) (g.C.ByteSink.write_faults c.reply.new.out) _ c.wishes_to_end-wished.result
    c.in-Ok.ensures.ok c.in-Ok.ensures.later.1 c.note.ensures c.set_link.ensures
    (g.C.ByteSink.written c.wishes_to_end-wished.new.self) (g.C.ByteSink.write_faults c.wishes_to_end-wished.new.self)
    c.wishes_to_end-wished.ensures.written c.wishes_to_end-wished.ensures.write_faults c.reply.result c.reply.ensures.err

pub returns-in-Ok-clause-wish : goal.returns-in-Ok-clause-wish
returns-in-Ok-clause-wish g c =
    let in_side = sym (g.met.C.Conn.inward_is c.reply.new.out) ∙ c.reply.ensures.aside ∙ g.met.C.Conn.inward_is c.wishes_to_end-wished.new.self in
    wished_ok _ c.args.settings.now c.args.request.now c.args.handling.now c.in-Ok.sent _ _ _ _ (work_state c.args.work.now) _ _ _
    (g.C.ByteSink.written c.args.conn.now) (g.C.ByteSink.written c.reply.new.out)
    (g.C.ByteSink.write_faults c.args.conn.now) (g.C.ByteSink.write_faults c.reply.new.out) _ c.wishes_to_end-wished.result
    c.in-Ok.ensures.ok c.in-Ok.ensures.later.1 c.note.ensures c.set_link.ensures
    (g.C.ByteSink.written c.wishes_to_end-wished.new.self) (g.C.ByteSink.write_faults c.wishes_to_end-wished.new.self)
    c.wishes_to_end-wished.ensures.written c.wishes_to_end-wished.ensures.write_faults
    (g.C.Conn.wishes c.args.conn.now) (g.C.Conn.wishes c.wishes_to_end-wished.new.self) (g.C.Conn.wishes c.reply.new.out)
    c.wishes_to_end-wished.ensures.wish (ap (λ (s : Side). s.wishes) in_side) c.reply.result c.reply.ensures.ok

pub returns-in-Ok-clause-may_wish : goal.returns-in-Ok-clause-may_wish
returns-in-Ok-clause-may_wish g c =
    let in_side = sym (g.met.C.Conn.inward_is c.reply.new.out) ∙ c.reply.ensures.aside ∙ g.met.C.Conn.inward_is c.wishes_to_end-wished.new.self in
    wished_err _ c.args.settings.now c.args.request.now c.args.handling.now c.in-Ok.sent _ _ _ _ (work_state c.args.work.now) _ _ _
    (g.C.ByteSink.written c.args.conn.now) (g.C.ByteSink.written c.reply.new.out)
    (g.C.ByteSink.write_faults c.args.conn.now) (g.C.ByteSink.write_faults c.reply.new.out) _ c.wishes_to_end-wished.result
    c.in-Ok.ensures.ok c.in-Ok.ensures.later.1 c.note.ensures c.set_link.ensures
    (g.C.ByteSink.written c.wishes_to_end-wished.new.self) (g.C.ByteSink.write_faults c.wishes_to_end-wished.new.self)
    c.wishes_to_end-wished.ensures.written c.wishes_to_end-wished.ensures.write_faults
    (g.C.Conn.wishes c.args.conn.now) (g.C.Conn.wishes c.wishes_to_end-wished.new.self) (g.C.Conn.wishes c.reply.new.out)
    c.wishes_to_end-wished.ensures.wish (ap (λ (s : Side). s.wishes) in_side) c.reply.result c.reply.ensures.err

pub returns-in-Ok-clause-aside : goal.returns-in-Ok-clause-aside
returns-in-Ok-clause-aside g c =
    aside_by _ _ _ _ _ _ _ _ _ (g.C.ByteSink.inward c.wishes_to_end-wished.new.self) (g.C.ByteSink.inward c.reply.new.out)
    c.wishes_to_end-wished.ensures.from c.wishes_to_end-wished.ensures.left c.wishes_to_end-wished.ensures.read_faults c.reply.ensures.aside
    (ap (λ (s : Side). s.mark) (g.met.C.Conn.inward_is c.wishes_to_end-wished.new.self))
    (ap (λ (s : Side). s.mark) (g.met.C.Conn.inward_is c.reply.new.out))
    (ap (λ (s : Side). s.told) (g.met.C.Conn.inward_is c.wishes_to_end-wished.new.self))
    (ap (λ (s : Side). s.told) (g.met.C.Conn.inward_is c.reply.new.out))
    (ap (λ (s : Side). s.faults) (g.met.C.Conn.inward_is c.wishes_to_end-wished.new.self))
    (ap (λ (s : Side). s.faults) (g.met.C.Conn.inward_is c.reply.new.out))
