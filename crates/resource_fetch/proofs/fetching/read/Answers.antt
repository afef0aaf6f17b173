use Rattle.std.proofs.Common.{ℕ, List, IfOk, subst, sym}
use Rattle.resource_fetch.specs.Fetched.{IsListing, Reads}
use Rattle.service_calls.specs.declared.reply.Fetched.{Fetched}
use Rattle.resource_fetch.proofs.fetching.read.Goals as goal

pub returns-in-Reply : goal.returns-in-Reply
returns-in-Reply c =
    let r = c.listing_of.result in
    let version = c.args.version.now in
    subst (λ (f : Fetched). IfOk r (Reads version f)) (sym c.in-Reply.is)
    (subst (λ (b : List ℕ). IfOk r (IsListing version c.in-Reply.status b)) c.as_slice.ensures c.listing_of.ensures)
