use Rattle.std.proofs.lemmas.Result.{IfErr-weaker, IfOk-weaker}
use Rattle.probe_command.proofs.ListingLemmas.{unlisted_by}
use Rattle.probe_command.proofs.listing.table_by.Goals as goal

pub returns-then-status-eq200-clause-ok : goal.returns-then-status-eq200-clause-ok
returns-then-status-eq200-clause-ok c = IfOk-weaker c.table_in.result _ _ (λ table h. (c.if-status-eq200.true, h)) c.table_in.ensures.ok

pub returns-then-status-eq200-clause-err : goal.returns-then-status-eq200-clause-err
returns-then-status-eq200-clause-err c = IfErr-weaker c.table_in.result _ _ (λ own h. unlisted_by c.args.status c.args.body.now own c.if-status-eq200.true h) c.table_in.ensures.err
