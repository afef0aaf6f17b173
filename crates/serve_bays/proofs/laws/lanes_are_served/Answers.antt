use Rattle.serve_bays.proofs.ServedLemmas.{NewLaws, can_all_end, are_all_served}
use Rattle.serve_bays.proofs.laws.lanes_are_served.Goals as goal

pub returns-clause-can_end : goal.returns-clause-can_end
returns-clause-can_end g c =
    let laws : NewLaws = record { first = c.first_tries_join.ensures.noted; texts = c.tries_send_their_texts.ensures.each } in
    can_all_end g.S.BatchSink g.K.Clock laws c.tries_keep_what_was_sent.ensures.join c.lanes_stay_together.ensures

pub returns-clause-served : goal.returns-clause-served
returns-clause-served g c =
    let laws : NewLaws = record { first = c.first_tries_join.ensures.noted; texts = c.tries_send_their_texts.ensures.each } in
    are_all_served g.S.BatchSink g.K.Clock laws c.tries_keep_what_was_sent.ensures.join c.lanes_stay_together.ensures
