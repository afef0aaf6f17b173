use Rattle.std.proofs.Common.{◌≡◌, ◌-◌, ◌+◌, ℕ, true, List, [], ◌∷◌, ◌++◌, length, Result, Ok, Err, ap, refl, sym, subst, ◌∙◌, length-append}
use Rattle.std.specs.Prelude.{OnErr}
use Rattle.apiservice_table.specs.Changes.{IsLater, Took}
use Rattle.apiservice_table.specs.declared.change.ChangeFault.{ChangeFault}
use Rattle.route_history.specs.History.{changes_of}
use Rattle.route_history.specs.declared.entry.Entry.{Entry}
use Rattle.shared_routes.specs.Makers.{are_made_by}
use Rattle.shared_routes.specs.Places.{changes_at}
use Rattle.shared_routes.specs.Shared.{Shared, own_changes, seen_changes}
use Rattle.shared_routes.proofs.MadeLemmas.{made_later, made_push, own_pushes, own_stays, seen_later, seen_push}
use Rattle.shared_routes.proofs.shared.SharedRoutesRoutes.change.Goals as goal

on_err : {A X : Type 0} (r : Result A ChangeFault) → X → OnErr r X
on_err (Ok left) x = tt
on_err (Err e) x = x

pub invariant_of-self-in_err-left : goal.invariant_of-self-in_err-left
invariant_of-self-in_err-left g c =
    let bay : ℕ = c.self.inside.bay in
    let places : List ℕ = c.self.inside.places.items in
    let old : List Entry = (g.P.Prefix.history c.self.inside.prefix).entries in
    let new : List Entry = (g.P.Prefix.history c.change_locked.new.prefix).entries in
    let items = c.reserve.ensures.items in (
      c.change_locked.ensures.home,
      c.change_locked.ensures.parts ∙ c.self.invariant.1,
      c.in_err-left.ensures.same ∙ (c.self.invariant.2 ∙ sym (ap (λ (l : List ℕ). length l) items)),
      subst (λ (ps : List ℕ). are_made_by bay 0 ps new ≡ true) (sym {A = List ℕ} items)
          (made_later bay places old new c.change_locked.ensures.later c.self.invariant.3),
    )

pub returns-in_err-left-clause-kept : goal.returns-in_err-left-clause-kept
returns-in_err-left-clause-kept g c =
    let bay : ℕ = c.self.inside.bay in
    let places : List ℕ = c.self.inside.places.items in
    let old : List Entry = (g.P.Prefix.history c.self.inside.prefix).entries in
    let new : List Entry = (g.P.Prefix.history c.change_locked.new.prefix).entries in
    on_err c.from_residual-in_err-left.result
    (ap (λ (ps : List ℕ). changes_at ps (changes_of new)) c.reserve.ensures.items
    ∙ own_stays bay places old new c.change_locked.ensures.later c.self.invariant.3
    ∙ ap (λ (s : Shared). own_changes s) c.self.view_is)

pub invariant_of-self-2 : goal.invariant_of-self-2
invariant_of-self-2 g c =
    let bay : ℕ = c.self.inside.bay in
    let places : List ℕ = c.self.inside.places.items in
    let place : ℕ = c.size.result - 1 in
    let old : List Entry = (g.P.Prefix.history c.self.inside.prefix).entries in
    let new : List Entry = (g.P.Prefix.history c.change_locked.new.prefix).entries in
    let took = c.in_ok-left.ensures.took in
    let at : place ≡ length new - 1 = ap (λ (n : ℕ). n - 1) c.size.ensures.count in
    let all = c.push_reserved.ensures.items ∙ ap (λ (ps : List ℕ). ps ++ place ∷ []) c.reserve.ensures.items in
    let more : length (places ++ place ∷ []) ≡ length places + 1 = length-append places (place ∷ []) in (
      c.change_locked.ensures.home,
      c.change_locked.ensures.parts ∙ c.self.invariant.1,
      c.in_ok-left.ensures.counted ∙ (ap (λ (n : ℕ). n + 1) c.self.invariant.2 ∙ (sym more ∙ sym (ap (λ (l : List ℕ). length l) all))),
      subst (λ (ps : List ℕ). are_made_by bay 0 ps new ≡ true) (sym {A = List ℕ} all)
          (made_push bay place places old took.0 new (record { bay = bay; change = c.args.change }) took.1 took.2 at refl c.self.invariant.3),
    )

pub returns-clause-took : goal.returns-clause-took
returns-clause-took g c =
    let bay : ℕ = c.self.inside.bay in
    let places : List ℕ = c.self.inside.places.items in
    let place : ℕ = c.size.result - 1 in
    let old : List Entry = (g.P.Prefix.history c.self.inside.prefix).entries in
    let new : List Entry = (g.P.Prefix.history c.change_locked.new.prefix).entries in
    let entry : Entry = record { bay = bay; change = c.args.change } in
    let took = c.in_ok-left.ensures.took in
    let at : place ≡ length new - 1 = ap (λ (n : ℕ). n - 1) c.size.ensures.count in
    let all = c.push_reserved.ensures.items ∙ ap (λ (ps : List ℕ). ps ++ place ∷ []) c.reserve.ensures.items in
    subst (λ (s : Shared). Took s.opening (seen_changes s) (own_changes s) c.args.change (changes_of new) (changes_at c.push_reserved.new.self.items (changes_of new))) c.self.view_is (
      changes_of took.0,
      seen_later old took.0 took.1,
      seen_push took.0 new entry took.2,
      took.3,
      ap (λ (ps : List ℕ). changes_at ps (changes_of new)) all
          ∙ own_pushes bay place places old took.0 new entry took.1 took.2 at c.self.invariant.3,
    )

pub returns-clause-later : goal.returns-clause-later
returns-clause-later g c =
    let old : List Entry = (g.P.Prefix.history c.self.inside.prefix).entries in
    let new : List Entry = (g.P.Prefix.history c.change_locked.new.prefix).entries in
    subst (λ (s : Shared). IsLater (seen_changes s) (changes_of new)) c.self.view_is (seen_later old new c.change_locked.ensures.later)

pub returns-in_err-left-clause-later : goal.returns-in_err-left-clause-later
returns-in_err-left-clause-later g c =
    let old : List Entry = (g.P.Prefix.history c.self.inside.prefix).entries in
    let new : List Entry = (g.P.Prefix.history c.change_locked.new.prefix).entries in
    subst (λ (s : Shared). IsLater (seen_changes s) (changes_of new)) c.self.view_is (seen_later old new c.change_locked.ensures.later)
