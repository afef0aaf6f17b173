use Rattle.std.proofs.lemmas.Result.{on_ok_weaker}
use Rattle.model_requests.proofs.FinishLemmas.{finished_as}
use Rattle.model_requests.proofs.finishing.finish_open.Goals as goal

pub returns-clause-ok : goal.returns-clause-ok
returns-clause-ok c =
    on_ok_weaker
    c.note_finished.result
    (λ h keep k. finished_as c.args.setup.now keep c.args.handling.now c.args.link _ _ c.args.reply _ c.args.moment
    c.args.opened.now _ c.status_of-status.ensures c.link_in-noted.ensures
    (c.in_ok-shown.ensures c.args.setup.now keep k) (h keep))
    c.note_finished.ensures.ok
