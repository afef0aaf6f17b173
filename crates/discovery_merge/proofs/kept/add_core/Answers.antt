use Rattle.std.proofs.Common.{◌∷◌, [], ◌++◌, List, cond, map, sym, ap, ◌∙◌, arith}
use Rattle.std.proofs.lemmas.Bool.Decides.{nat_tests}
use Rattle.std.proofs.lemmas.List.{append-nil, map-append}
use Rattle.apiservice_rows.specs.Row.{Row}
use Rattle.discovery_merge.specs.Groups.{group_of}
use Rattle.discovery_merge.specs.Lent.{lent_rows, lent_view}
use Rattle.discovery_merge.proofs.GroupLemmas.{none_found, some_found}
use Rattle.discovery_merge.proofs.kept.add_core.Goals as goal

pub returns-then-is_empty : goal.returns-then-is_empty
returns-then-is_empty c =
    let rows = lent_rows c.args.rows.now in
    sym (append-nil (map lent_view c.args.groups.now.items))
    ∙ ap (λ b. map lent_view c.args.groups.now.items ++ cond b (group_of rows [] ∷ []) [])
    (sym (none_found [] rows c.in_ok-rows.rows.items c.in_ok-rows.ensures (grind (arith, nat_tests))))

pub returns : goal.returns
returns c =
    let rows = lent_rows c.args.rows.now in
    ap (map lent_view) c.in_ok-push.ensures.items ∙ map-append lent_view c.args.groups.now.items _
    ∙ ap (λ (found : List Row). map lent_view c.args.groups.now.items
    ++ record { name = []; versions = map (λ (r : Row). r.version) found } ∷ []) c.in_ok-rows.ensures
    ∙ ap (λ b. map lent_view c.args.groups.now.items ++ cond b (group_of rows [] ∷ []) [])
    (sym (some_found [] rows c.in_ok-rows.rows.items c.in_ok-rows.ensures (grind (arith, nat_tests))))
