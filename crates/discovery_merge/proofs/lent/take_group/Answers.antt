use Rattle.std.proofs.Common.{ℕ, List, map, Some, option_map, ap, ◌∙◌, Bor}
use Rattle.apiservice_rows.specs.Row.{Row}
use Rattle.discovery_merge.specs.Lent.{told}
use Rattle.discovery_merge.specs.declared.groups.Group.{Group}
use Rattle.discovery_merge.proofs.TreeLemmas.{rows_left}
use Rattle.discovery_merge.proofs.lent.take_group.Goals as goal

abbrev of_versions : List ℕ → List Row → Group
of_versions name rows = record { name = name; versions = map (λ (r : Row). r.version) rows }

pub returns-in_ok-sort_by_preference-in-Some-clause-group : goal.returns-in_ok-sort_by_preference-in-Some-clause-group
returns-in_ok-sort_by_preference-in-Some-clause-group c =
    ap (λ rows. Some (of_versions c.args.name.now rows)) c.in_ok-sort_by_preference-in-Some.ensures
    ∙ ap (λ o. option_map (told c.args.name.now) (option_map (λ v. map (λ (r : Bor Row). r.now) v.items) o))
    c.in-Some.ensures.value

pub returns-in_ok-sort_by_preference-in-Some-clause-left : goal.returns-in_ok-sort_by_preference-in-Some-clause-left
returns-in_ok-sort_by_preference-in-Some-clause-left c =
    rows_left c.args.name.now c.args.by_group.now c.remove.new.self c.in-Some.ensures.updates
