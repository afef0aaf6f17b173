use Rattle.std.proofs.Common.{◌≡◌, ℕ, List, ap, sym, subst, ◌∙◌}
use Rattle.apiservice_table.specs.Changes.{IsLater}
use Rattle.route_history.specs.History.{changes_of}
use Rattle.route_history.specs.declared.entry.Entry.{Entry}
use Rattle.shared_routes.specs.Shared.{Shared, own_changes, seen_changes}
use Rattle.shared_routes.proofs.MadeLemmas.{made_later, own_stays, seen_later}
use Rattle.shared_routes.proofs.shared.SharedRoutes.look.Goals as goal

pub invariant_of-self : goal.invariant_of-self
invariant_of-self g c =
    let places : List ℕ = c.self.inside.places.items in
    let old : List Entry = (g.P.Prefix.history c.self.inside.prefix).entries in
    let new : List Entry = (g.P.Prefix.history c.look.new.seen).entries in (
      c.look.ensures.home,
      c.self.invariant.1,
      c.self.invariant.2,
      made_later c.self.inside.bay places old new c.look.ensures.later c.self.invariant.3,
    )

pub returns-clause-later : goal.returns-clause-later
returns-clause-later g c =
    let old : List Entry = (g.P.Prefix.history c.self.inside.prefix).entries in
    let new : List Entry = (g.P.Prefix.history c.look.new.seen).entries in
    subst (λ (s : Shared). IsLater (seen_changes s) (changes_of new)) c.self.view_is (seen_later old new c.look.ensures.later)

pub returns-clause-keeps : goal.returns-clause-keeps
returns-clause-keeps g c =
    let places : List ℕ = c.self.inside.places.items in
    let old : List Entry = (g.P.Prefix.history c.self.inside.prefix).entries in
    let new : List Entry = (g.P.Prefix.history c.look.new.seen).entries in (
      c.look.ensures.home ∙ (sym c.self.invariant.0 ∙ ap (λ (s : Shared). s.home) c.self.view_is),
      ap (λ (s : Shared). s.opening) c.self.view_is,
      own_stays c.self.inside.bay places old new c.look.ensures.later c.self.invariant.3 ∙ ap (λ (s : Shared). own_changes s) c.self.view_is,
    )
