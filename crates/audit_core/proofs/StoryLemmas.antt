-- Routes on one thread see their own changes and no others, so each errand is answered by the rows as they stood.
use Rattle.std.proofs.Common.{◌≡◌, ℕ, ◌+◌, List, [], ◌∷◌, ◌++◌, length, refl, ap, ◌∙◌, append-nil, length-append, arith}
use Rattle.apiservice_rows.specs.Row.{Row}
use Rattle.apiservice_table.specs.Changes.{Story, after, changed, placed, rows_of, IsLater}
use Rattle.apiservice_table.specs.declared.change.Change.{Change}
use Rattle.service_endpoints.specs.declared.endpoint.Endpoint.{Endpoint}
use Rattle.audit_core.specs.Routing.{Decides, routed_by, rows_by, changes_in, made}
use Rattle.audit_core.specs.declared.errand.Errand.{Errand}
use Rattle.audit_core.specs.declared.routed.Routed.{Routed}

placed_length : (at : ℕ) (cs : List Change) → length (placed at cs) ≡ length cs
placed_length at [] = refl
placed_length at (c ∷ cs) = let ih = placed_length (at + 1) cs in omega (arith, ih)

empty_by_length : (cs : List Change) → length cs ≡ 0 → cs ≡ []
empty_by_length [] e = refl
empty_by_length (c ∷ cs) e = absurd (omega (arith, e))

later_by_length : (old new : List Change) → IsLater old new → length new ≡ length old → new ≡ old
later_by_length old new later e =
    let more = later.0 in
    let lengths : length new ≡ length old + length more = ap (λ l. length l) later.1 ∙ length-append old more in
    let none : more ≡ [] = empty_by_length more (omega (arith, lengths, e)) in
    later.1 ∙ ap (λ l. old ++ l) none ∙ append-nil old

after_append : (rows : List Row) (cs ds : List Change) → after rows (cs ++ ds) ≡ after (after rows cs) ds
after_append rows [] ds = refl
after_append rows (c ∷ cs) ds = after_append (changed rows c) cs ds

-- the changes on which an errand was decided are those that had been seen before
decided_is : (old new : Story) (before next : List Change) → IsLater old.seen before → new.seen ≡ before ++ next
    → placed 0 new.seen ≡ placed 0 old.seen ++ placed (length before) next → before ≡ old.seen
decided_is old new before next later seen own =
    let all : length new.seen ≡ length before + length next = ap (λ l. length l) seen ∙ length-append before next in
    let owned : length (placed 0 new.seen) ≡ length (placed 0 old.seen) + length (placed (length before) next) =
    ap (λ l. length l) own ∙ length-append (placed 0 old.seen) (placed (length before) next) in
    let a = placed_length 0 new.seen in
    let b = placed_length 0 old.seen in
    let d = placed_length (length before) next in
    later_by_length old.seen before later (omega (arith, all, owned, a, b, d))

module _ (ends : List Endpoint) (own : Errand) (old new : Story) (routed : Routed)
    (h : Decides ends own old.opening old.seen (placed 0 old.seen) new.seen (placed 0 new.seen) routed) where
  same : h.decided ≡ old.seen
  same =
      decided_is old new h.decided (changes_in (made (after old.opening h.decided) own)) h.later h.seen_is h.own_is

  pub routed_here : routed ≡ routed_by ends (rows_of old) own
  routed_here = h.routed_is ∙ ap (λ l. routed_by ends (after old.opening l) own) same

  pub rows_here : new.opening ≡ old.opening → rows_of new ≡ rows_by (rows_of old) own
  rows_here fixed =
      ap (λ o. after o new.seen) fixed ∙ ap (after old.opening) h.seen_is
      ∙ after_append old.opening h.decided (changes_in (made (after old.opening h.decided) own))
      ∙ ap (λ l. rows_by (after old.opening l) own) same
