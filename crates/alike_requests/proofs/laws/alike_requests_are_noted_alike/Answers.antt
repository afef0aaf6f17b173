use Rattle.alike_requests.proofs.SeenLemmas.{seen_alike_noted}
use Rattle.alike_requests.proofs.laws.alike_requests_are_noted_alike.Goals as goal

pub returns : goal.returns
returns c =
    seen_alike_noted c.one_kept.ensures.shown c.stages_make_up_what_is_owed.ensures.owed c.stages_make_up_what_is_owed.ensures.due
    c.alike_exchanges_owe_alike.ensures.owed
