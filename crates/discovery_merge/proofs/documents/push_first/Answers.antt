use Rattle.std.proofs.Common.{◌≡◌, ℕ, List, [], ◌∷◌, ◌++◌, slice_get, Some, None, IfOk, Bor, refl, sym, ap, subst, ◌∙◌}
use Rattle.std.proofs.lemmas.List.{append-nil}
use Rattle.apiservice_rows.specs.Row.{Row}
use Rattle.discovery_merge.specs.Documents.{first_text, version_text}
use Rattle.discovery_merge.specs.Lent.{lent_versions}
use Rattle.discovery_merge.proofs.documents.push_first.Goals as goal

first_some : (group : List ℕ) (rows : List (Bor Row)) (r : Bor Row) → Some r ≡ slice_get rows 0
    → version_text group r.now.version ≡ first_text group (lent_versions rows)
unfolding first_text
first_some group [] r is = absurd (cc is)
first_some group (x ∷ rows) r is = let same : r ≡ x = cc is in ap (λ (r : Bor Row). version_text group r.now.version) same

first_none : (group : List ℕ) (rows : List (Bor Row)) → None ≡ slice_get rows 0
    → first_text group (lent_versions rows) ≡ []
unfolding first_text
first_none group [] is = refl
first_none group (x ∷ rows) is = absurd (cc is)

pub returns-in-Some : goal.returns-in-Some
returns-in-Some c =
    let version = c.as_str.ensures ∙ ap (λ (r : Bor Row). r.now.version) c.row.view_is in
    subst (λ (t : List ℕ). IfOk c.push_version.result (λ _. c.push_version.new.out.items ≡ c.args.out.now.items ++ t))
    (ap (version_text c.args.group.now) version
    ∙ first_some c.args.group.now c.args.rows.now c.in-Some.row.now c.in-Some.ensures.value)
    c.push_version.ensures

pub returns-in-None : goal.returns-in-None
returns-in-None c =
    sym (append-nil c.args.out.now.items)
    ∙ ap (λ t. c.args.out.now.items ++ t) (sym (first_none c.args.group.now c.args.rows.now c.in-None.ensures.value))
