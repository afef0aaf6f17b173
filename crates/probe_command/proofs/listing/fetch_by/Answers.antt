use Rattle.std.proofs.Common.{inl}
use Rattle.std.proofs.lemmas.Result.{IfErr-weaker, IfOk-weaker}
use Rattle.probe_command.proofs.ListingLemmas.{lists_none}
use Rattle.probe_command.proofs.listing.fetch_by.Goals as goal

pub returns-in-Ok-clause-ok : goal.returns-in-Ok-clause-ok
returns-in-Ok-clause-ok g c =
    IfOk-weaker c.read.result _ _ (λ table h. record { reply = c.in-Ok.fetched; fetches = c.in-Ok.ensures.ok; reads = h }) c.read.ensures.ok

pub returns-in-Ok-clause-err : goal.returns-in-Ok-clause-err
returns-in-Ok-clause-err g c =
    IfErr-weaker c.read.result _ _ (λ own h. lists_none _ _ _ own (record { reply = c.in-Ok.fetched; fetches = c.in-Ok.ensures.ok; reads = h })) c.read.ensures.err
