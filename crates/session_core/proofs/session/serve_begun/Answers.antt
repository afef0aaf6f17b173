use Rattle.std.proofs.Common.{◌∷◌, [], ap, subst, ◌∙◌}
use Rattle.front_ports.specs.Told.{Adds}
use Rattle.session_core.specs.Exchange.{unrouted}
use Rattle.session_core.specs.Steps.{exchange_of, work_state}
use Rattle.session_core.specs.declared.exchange.Exchange.{Exchange}
use Rattle.session_core.proofs.NotingLemmas.{answered_outcomes, undecided_outcome}
use Rattle.session_core.proofs.ReadyLemmas.{may_answer}
use Rattle.session_core.proofs.session.serve_begun.Goals as goal

pub answer-served-requires-clause-offer : goal.answer-served-requires-clause-offer
answer-served-requires-clause-offer g c =
    may_answer c.lanes_stay.ensures.lanes c.lanes_stay.ensures.log c.lanes_stay.ensures.hook c.args.settings.now
    _ _ _ _ _ _ _ _ _ _ _ c.requires.offer c.in-Ok.ensures.ok

pub returns-in-Ok-clause-outcome : goal.returns-in-Ok-clause-outcome
returns-in-Ok-clause-outcome g c = λ peer m arrived.
    let adds : Adds (g.Y.Diary.notes c.args.bay.now.diary) (g.Y.Diary.notes c.note.new.self)
    (exchange_of c.args.request c.in-Ok.routed (work_state c.answer-served.new.work) ∷ []) =
    subst (λ (x : Exchange). Adds (g.Y.Diary.notes c.args.bay.now.diary) (g.Y.Diary.notes c.note.new.self) (x ∷ [])) c.into_exchange.ensures.is c.note.ensures in
    answered_outcomes c.offers_join.ensures c.stages_hide.ensures.received c.stages_make_up_what_is_owed.ensures.owed c.stages_make_up_what_is_owed.ensures.due
    c.args.settings.now peer c.args.request c.args.begun m _ arrived _ _ _ _ _ c.in-Ok.ensures.fixed _ c.begun-work.ensures c.requires.read
    c.in-Ok.routed _ _ c.in-Ok.ensures.ok _ _ _ _ _ (g.C.Conn.wishes c.args.conn.now) (g.C.Conn.wishes c.answer-served.new.conn)
    adds c.into_exchange.ensures.in_range c.answer-served.result c.closes-closing.result c.outcome_of.result c.outcome_of.ensures
    c.closes-closing.ensures
    c.answer-served.ensures.ok c.answer-served.ensures.err c.answer-served.ensures.wish c.answer-served.ensures.may_wish

pub returns-in-Err-clause-outcome : goal.returns-in-Err-clause-outcome
returns-in-Err-clause-outcome g c = λ peer m arrived.
    let adds : Adds (g.Y.Diary.notes c.args.bay.now.diary) (g.Y.Diary.notes c.note-in-Err.new.self)
    (exchange_of c.args.request unrouted (work_state c.handle.new.work) ∷ []) =
    subst (λ (x : Exchange). Adds (g.Y.Diary.notes c.args.bay.now.diary) (g.Y.Diary.notes c.note-in-Err.new.self) (x ∷ []))
    (c.into_exchange-in-Err.ensures.is ∙ ap (λ y. exchange_of c.args.request y (work_state c.handle.new.work)) c.not_routed.ensures) c.note-in-Err.ensures in
    undecided_outcome c.offers_join.ensures c.stages_hide.ensures.received c.stages_make_up_what_is_owed.ensures.owed c.stages_make_up_what_is_owed.ensures.due
    c.args.settings.now peer c.args.request c.args.begun m _ arrived _ _ _ _ _ c.in-Err.ensures.fixed _ c.begun-work.ensures c.requires.read
    _ _ _ (g.C.Conn.wishes c.args.conn.now) c.in-Err.ensures.err adds c.into_exchange-in-Err.ensures.in_range
