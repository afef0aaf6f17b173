-- What is written of a request, and the rows after it, from what was settled.
use Rattle.std.proofs.Common.{◌≡◌, ℕ, List, [], ◌++◌, refl, subst}
use Rattle.apiservice_table.specs.Changes.{Story, placed, rows_of}
use Rattle.audit_core.specs.Errand.{errand_in}
use Rattle.audit_core.specs.Exchange.{IsAnswered, Settles}
use Rattle.audit_core.specs.Routing.{Decides, routed_by, handling_of, rows_by}
use Rattle.audit_core.specs.declared.answered.Answered.{Answered}
use Rattle.audit_core.specs.declared.errand.Errand.{Errand}
use Rattle.audit_core.specs.declared.routed.Routed.{Routed}
use Rattle.audit_core.specs.declared.stamp.Stamp.{Stamp}
use Rattle.http_edge.specs.declared.request.Request.{Request}
use Rattle.service_endpoints.specs.declared.endpoint.Endpoint.{Endpoint}
use Rattle.explain_run.specs.Lines.{Adds, stamp_of, rows_after, text_of, too_large_of, empty_reply}
use Rattle.explain_run.specs.declared.setup.Setup.{Setup}

-- what the law on routes of one thread says
abbrev pub DecidesHere : Type 0
DecidesHere = (ends : List Endpoint) (own : Errand) (old new : Story) (routed : Routed)
    → Decides ends own old.opening old.seen (placed 0 old.seen) new.seen (placed 0 new.seen) routed
    → routed ≡ routed_by ends (rows_of old) own

abbrev pub ChangesHere : Type 0
ChangesHere = (ends : List Endpoint) (own : Errand) (old new : Story) (routed : Routed)
    → Decides ends own old.opening old.seen (placed 0 old.seen) new.seen (placed 0 new.seen) routed
    → new.opening ≡ old.opening → rows_of new ≡ rows_by (rows_of old) own

pub adds_here : DecidesHere → ChangesHere → (set : Setup) (n : ℕ) (r : Request) (old new : Story) (stamp : Stamp) (x : Answered)
    (body lines lines_now : List ℕ) (large : ℕ) → body ≡ [] → stamp ≡ stamp_of set.moment n → new.opening ≡ old.opening
    → Settles set.settings stamp r empty_reply body old.opening old.seen (placed 0 old.seen) new.seen (placed 0 new.seen) x
    → lines_now ≡ lines ++ text_of set n x → large ≡ too_large_of set x → Adds set n r (rows_of old) (rows_of new) lines lines_now large
unfolding rows_after
adds_here decides changes set n r old new stamp x body lines lines_now large none s fixed h e l =
    let own = errand_in set.settings r set.moment in
    let ends = set.settings.endpoints in
    let here : Decides ends own old.opening old.seen (placed 0 old.seen) new.seen (placed 0 new.seen) h.0 =
    subst (λ (t : Stamp). Decides ends (errand_in set.settings r t.received) old.opening old.seen (placed 0 old.seen) new.seen (placed 0 new.seen) h.0) s h.1 in
    let is : IsAnswered set.settings (stamp_of set.moment n) r (handling_of ends (rows_of old) own) empty_reply [] x =
    subst (λ t. IsAnswered set.settings t r (handling_of ends (rows_of old) own) empty_reply [] x) s
    (subst (λ (a : Routed). IsAnswered set.settings stamp r a.handling empty_reply [] x) (decides ends own old new h.0 here)
    (subst (λ b. IsAnswered set.settings stamp r h.0.handling empty_reply b x) none h.2)) in (
      text_of set n x,
      record { answered = x; is = is; text_is = refl; large_is = l },
      e,
      changes ends own old new h.0 here fixed,
    )
