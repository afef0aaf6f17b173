-- How each errand is handled, over any routes.
use Rattle.std.proofs.Common.{◌≡◌, ℕ, List, [], ◌∷◌, ◌++◌, length, Option, Some, None, refl, sym, ap, ◌∙◌, append-nil}
use Rattle.apiservice_rows.specs.Row.{Row}
use Rattle.apiservice_table.specs.Changes as table
use Rattle.apiservice_table.specs.Changes.{after, changed, placed, IsLater}
use Rattle.apiservice_table.specs.Table.{row}
use Rattle.apiservice_table.specs.declared.change.Change.{Change}
use Rattle.local_replies.specs.Serve.{IsServed, IsDecided, local_reply, change_reply, done_in}
use Rattle.local_replies.specs.Status.{conflict, refusal}
use Rattle.local_replies.specs.declared.errand.LocalErrand.{LocalErrand}
use Rattle.local_replies.specs.declared.errand.LocalErrand.TheVariants.{Deny, Conflict, Look, Tabulate, Write, Try}
use Rattle.local_replies.specs.declared.local.Local.{Local}
use Rattle.local_replies.specs.declared.reply.LocalReply.{LocalReply}
use Rattle.service_endpoints.specs.Find.{others_of}
use Rattle.service_endpoints.specs.declared.endpoint.Endpoint.{Endpoint}
use Rattle.audit_core.specs.Routing.{Decides, routed_by, made, made_by, changes_in, api_of, others_at}
use Rattle.audit_core.specs.declared.errand.Errand.{Errand}
use Rattle.audit_core.specs.declared.errand.Errand.TheVariants as errand
use Rattle.audit_core.specs.declared.routed.Handling.{Handling}
use Rattle.audit_core.specs.declared.routed.Handling.TheVariants.{Refused, Served}
use Rattle.audit_core.specs.declared.routed.Routed.{Routed}

-- what the table's law says of the last change
abbrev pub LastCounts : Type 0
LastCounts = (rows : List Row) (changes : List Change) (change : Change) → after rows (changes ++ change ∷ []) ≡ changed (after rows changes) change

module _ (ends : List Endpoint) (opening : List Row) (seen : List Change) (own : List (ℕ × Change)) (now : List Change) (new_own : List (ℕ × Change)) where
  -- what makes no change is decided on what is seen then
  unchanged : (e : Errand) (routed : Routed) → IsLater seen now → routed ≡ routed_by ends (after opening now) e
      → made (after opening now) e ≡ None → new_own ≡ own → Decides ends e opening seen own now new_own routed
  unchanged e routed later r m o = record {
    decided = now;
    later = later;
    routed_is = r;
    seen_is = sym (ap (λ l. now ++ changes_in l) m ∙ append-nil now);
    own_is = o ∙ sym (ap (λ l. own ++ placed (length now) (changes_in l)) m ∙ append-nil own);
  }

  pub refused_so : (code : ℕ) → now ≡ seen → new_own ≡ own
      → Decides ends (errand.Refuse code) opening seen own now new_own (record { row = None; handling = Refused code })
  refused_so code s o = unchanged (errand.Refuse code) _ ([], s ∙ sym (append-nil seen)) refl refl o

  pub routed_so : (group version : List ℕ) (found : Option Row) (handling : Handling) → found ≡ row group version (after opening now)
      → handling ≡ api_of ends found → IsLater seen now → new_own ≡ own
      → Decides ends (errand.Route group version) opening seen own now new_own (record { row = found; handling = handling })
  routed_so group version found handling f h later o =
      unchanged
      (errand.Route group version) _ later
      (ap (λ x. record { row = found; handling = x }) h ∙ ap (λ x. record { row = x; handling = api_of ends x }) f) refl o

  pub other_so : (handling : Handling) → now ≡ seen → new_own ≡ own → handling ≡ others_at (others_of ends)
      → Decides ends errand.Other opening seen own now new_own (record { row = None; handling = handling })
  other_so handling s o h =
      unchanged errand.Other _ ([], s ∙ sym (append-nil seen)) (ap (λ x. record { row = None; handling = x }) h) refl o

  module _ (the_last : LastCounts) (local : Local) (later : IsLater seen now) where
    abbrev pub served : LocalReply → Option Change → Routed
    served reply change = record { row = None; handling = Served local reply change }

    changed_so : (asked : Change) (reply : LocalReply) (made_one : Option Change) → IsDecided asked opening seen own now new_own reply made_one
        → Decides ends (errand.Serve local (Write asked)) opening seen own now new_own (served reply made_one)
    changed_so asked reply None h =
        let due = h.1 in
        unchanged
        (errand.Serve local (Write asked)) _ later
        (ap (λ x. served x None) (h.2 ∙ sym (ap (change_reply (after opening now) asked) due))
        ∙ ap (served (change_reply (after opening now) asked (table.refusal (after opening now) asked))) (sym (ap (made_by asked) due)))
        (ap (made_by asked) due) h.3
    changed_so asked reply (Some one) h =
        let took = h.2 in
        let before = took.0 in
        let none = took.3 in
        let left : after opening now ≡ changed (after opening before) asked =
        ap (after opening) took.2 ∙ the_last opening before asked in record {
          decided = before;
          later = took.1;
          routed_is =
              ap (λ x. served x (Some one))
              (h.1 ∙ ap (λ (rows : List Row). done_in rows asked) left ∙ sym (ap (change_reply (after opening before) asked) none))
              ∙ ap (λ x. served (change_reply (after opening before) asked (table.refusal (after opening before) asked)) (Some x)) h.0
              ∙ ap (served (change_reply (after opening before) asked (table.refusal (after opening before) asked))) (sym (ap (made_by asked) none));
          seen_is = took.2 ∙ sym (ap (λ l. before ++ changes_in (made_by asked l)) none);
          own_is = took.4 ∙ sym (ap (λ l. own ++ placed (length before) (changes_in (made_by asked l))) none);
        }

    pub served_so : (e : LocalErrand) (reply : LocalReply) (change : Option Change) → IsServed local e opening seen own now new_own reply change
        → Decides ends (errand.Serve local e) opening seen own now new_own (served reply change)
    served_so (Deny code) reply change h =
        unchanged
        (errand.Serve local (Deny code)) _ later
        (ap (λ x. served x change) h.0 ∙ ap (served (refusal code)) h.1) refl h.3
    served_so (Conflict name) reply change h =
        unchanged
        (errand.Serve local (Conflict name)) _ later
        (ap (λ x. served x change) h.0 ∙ ap (served (conflict name)) h.1) refl h.3
    served_so Look reply change h =
        unchanged
        (errand.Serve local Look) _ later
        (ap (λ x. served x change) h.0 ∙ ap (served (local_reply (after opening now) local Look)) h.1) refl h.2
    served_so (Tabulate include moment) reply change h =
        unchanged
        (errand.Serve local (Tabulate include moment)) _ later
        (ap (λ x. served x change) h.0 ∙ ap (served (local_reply (after opening now) local (Tabulate include moment))) h.1) refl h.2
    served_so (Write asked) reply change h = changed_so asked reply change h
    served_so (Try asked) reply change h =
        unchanged
        (errand.Serve local (Try asked)) _ later
        (ap (λ x. served x change) h.0 ∙ ap (served (local_reply (after opening now) local (Try asked))) h.1) refl h.2
