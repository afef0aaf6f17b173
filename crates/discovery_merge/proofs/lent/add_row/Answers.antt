use Rattle.std.proofs.Common.{◌≡◌, ℕ, List, [], ◌∷◌, ◌++◌, cond, map, Some, None, unwrap_or, option_map, ap, sym, subst, ◌∙◌, rules, Bor}
use Rattle.std.proofs.lemmas.List.{map-append}
use Rattle.apiservice_rows.specs.Row.{Row}
use Rattle.discovery_merge.specs.Groups.{is_of}
use Rattle.discovery_merge.specs.Lent.{rows_for}
use Rattle.discovery_merge.proofs.TreeLemmas.{row_added}
use Rattle.discovery_merge.proofs.lent.add_row.Goals as goal

abbrev now : Bor Row → Row
now r = r.now

pub returns-in-Some : goal.returns-in-Some
returns-in-Some c =
    let v = c.push.new.self in
    let key : c.as_str-name.result.now ≡ c.args.row.now.group = search rules in
    row_added c.as_str-name.result.now c.args.by_group.now (c.get_mut.follows.lender v) v
    ((c.get_mut.follows.holds v).3 (search rules)) c.args.row.now key
    (ap (map now) c.in_ok-push.ensures.items ∙ map-append now c.in-Some.rows.now.items (c.args.row ∷ [])
    ∙ ap (λ o. unwrap_or (option_map (λ v. map now v.items) o) [] ++ c.args.row.now ∷ []) c.in-Some.ensures.value)

pub returns : goal.returns
returns c =
    let key : c.as_str-name.result.now ≡ c.args.row.now.group = search rules in
    let none : rows_for c.as_str-name.result.now c.args.by_group.now ≡ None = search rules in
    subst (λ m. (name : List ℕ) → rows_for name c.insert.new.self
    ≡ cond (is_of name c.args.row.now) (Some (unwrap_or (rows_for name m) [] ++ c.args.row.now ∷ [])) (rows_for name m))
    c.get_mut.follows.holds-at-none
    (row_added c.as_str-name.result.now c.get_mut.follows.lender-at-none c.insert.new.self c.in_ok-vec.field-0
    c.in_ok-insert.ensures.updates c.args.row.now key
    (ap (map now) c.in_ok-vec.ensures.items
    ∙ ap (λ o. unwrap_or o [] ++ c.args.row.now ∷ [])
    (sym (ap (rows_for c.as_str-name.result.now) c.get_mut.follows.holds-at-none ∙ none))))
