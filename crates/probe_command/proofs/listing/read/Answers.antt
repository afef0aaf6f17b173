use Rattle.std.proofs.Common.{ℕ, List, IfErr, IfOk, subst, sym}
use Rattle.probe_command.specs.Listing.{IsListed, IsUnlisted, Reads, ReadsNone}
use Rattle.service_calls.specs.declared.reply.Fetched.{Fetched}
use Rattle.probe_command.proofs.listing.read.Goals as goal

pub returns-in-Reply-clause-ok : goal.returns-in-Reply-clause-ok
returns-in-Reply-clause-ok c =
    let r = c.table_by.result in
    subst (λ (f : Fetched). IfOk r (Reads f)) (sym c.in-Reply.is)
    (subst (λ (b : List ℕ). IfOk r (IsListed c.in-Reply.status b)) c.as_slice.ensures c.table_by.ensures.ok)

pub returns-in-Reply-clause-err : goal.returns-in-Reply-clause-err
returns-in-Reply-clause-err c =
    let r = c.table_by.result in
    subst (λ (f : Fetched). IfErr r (ReadsNone f)) (sym c.in-Reply.is)
    (subst (λ (b : List ℕ). IfErr r (IsUnlisted c.in-Reply.status b)) c.as_slice.ensures c.table_by.ensures.err)
