use Rattle.std.proofs.Common.{◌≡◌, ℕ, ◌≤◌, List, [], ◌∷◌, length, sym, ap, subst, ◌∙◌, refl, rules, arith}
use Rattle.std.specs.Vec.Iter.{into_iter_items}
use Rattle.apiservice_rows.specs.Row.{Row}
use Rattle.apiservice_rows.specs.declared.row_list.TheConstants.{MOST_ROWS}
use Rattle.apiservice_table.specs.Table.{with_rows, row_named}
use Rattle.apiservice_table.proofs.ManyLemmas.{named_all, length_many}
use Rattle.apiservice_table.proofs.OrderLemmas.{order_with, named_with}
use Rattle.apiservice_table.proofs.table.RouteTable.from_rows.Goals as goal

at_most : (rows ordered : List Row) → with_rows rows [] ≡ ordered → length rows ≤ MOST_ROWS → length ordered ≤ MOST_ROWS
at_most rows ordered e few =
    let all = length_many rows [] in
    let bound : length (with_rows rows []) ≤ MOST_ROWS = omega (arith, all, few) in
    subst (λ y. length y ≤ MOST_ROWS) e bound

pub loop-row-init : goal.loop-row-init
loop-row-init c =
    let items = c.into_iter-row-iterator.ensures.into_iter_gives.0 ∙ c.into_vec-row-items.ensures in
    record {
      can = search rules;
      finite = search rules;
      size = c.into_iter-row-iterator.ensures.into_iter_gives.1 ∙ c.into_vec-row-items.result.ok.0
          ∙ ap length (sym c.into_iter-row-iterator.ensures.into_iter_gives.0);
      order = rw c.new-ordered.ensures.items tt;
      named = rw c.new-ordered.ensures.items tt;
      rest = rw (items, c.new-ordered.ensures.items) refl;
    }

pub put-requires : goal.put-requires
put-requires c = c.loop-row.invariant.order

pub loop-row-preserved : goal.loop-row-preserved
loop-row-preserved c =
    let done = c.in_ok-put.ensures.done in
    let ordered = c.loop-row.ordered.items in
    record {
      can = search rules;
      finite = search rules;
      size =
          let old = c.loop-row.invariant.size in
          let items = ap length c.in-Some.ensures.steps.0 in
          omega (arith, old, items, c.in-Some.ensures.steps.1);
      order = rw done (order_with c.in-Some.row ordered c.loop-row.invariant.order);
      named = rw done (named_with c.in-Some.row ordered c.tells_its_name.ensures c.loop-row.invariant.named);
      rest = rw done (ap (λ ys. with_rows ys ordered) (sym c.in-Some.ensures.steps.0) ∙ c.loop-row.invariant.rest);
    }

-- where none is left, all are in
all_in : (left ordered rows : List Row) → length left ≡ 0 → with_rows left ordered ≡ with_rows rows []
    → with_rows rows [] ≡ ordered
all_in left ordered rows empty rest =
    let none : left ≡ [] = nothing left empty in
    sym rest ∙ ap (λ ys. with_rows ys ordered) none
  where
    nothing : (xs : List Row) → length xs ≡ 0 → xs ≡ []
    nothing [] e = refl
    nothing (x ∷ xs) e = absurd (omega (arith, e))

pub new-requires : goal.new-requires
new-requires c =
    let all = all_in (into_iter_items c.loop-row.row-iterator) c.loop-row.ordered.items c.args.rows
    (sym c.loop-row.invariant.size ∙ c.in-None.ensures.steps.0) c.loop-row.invariant.rest in
    rw c.as_slice.ensures.value (at_most c.args.rows c.loop-row.ordered.items all c.requires.few)

pub invariant_of-result : goal.invariant_of-result
invariant_of-result c =
    let all = all_in (into_iter_items c.loop-row.row-iterator) c.loop-row.ordered.items c.args.rows
    (sym c.loop-row.invariant.size ∙ c.in-None.ensures.steps.0) c.loop-row.invariant.rest in (
      c.loop-row.invariant.order,
      c.loop-row.invariant.named,
      at_most c.args.rows c.loop-row.ordered.items all c.requires.few,
      rw c.as_slice.ensures.value at c.in_ok-index.ensures,
      rw c.as_slice-2.ensures.value at c.in_ok-documents.ensures,
    )

pub returns-clause-rows : goal.returns-clause-rows
returns-clause-rows c =
    sym (all_in (into_iter_items c.loop-row.row-iterator) c.loop-row.ordered.items c.args.rows
    (sym c.loop-row.invariant.size ∙ c.in-None.ensures.steps.0) c.loop-row.invariant.rest)

pub returns-clause-same : goal.returns-clause-same
returns-clause-same c =
    let all = all_in (into_iter_items c.loop-row.row-iterator) c.loop-row.ordered.items c.args.rows
    (sym c.loop-row.invariant.size ∙ c.in-None.ensures.steps.0) c.loop-row.invariant.rest in
    λ (name : List ℕ). ap (row_named name) (sym all) ∙ named_all name c.args.rows c.requires.distinct
