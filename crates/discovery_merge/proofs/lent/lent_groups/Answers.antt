use Rattle.std.proofs.Common.{◌≡◌, ◌<◌, List, [], ◌∷◌, map, take, filter, cond, bytes_eq, length, get_or, None, option_map, sym, ap, subst, ◌∙◌, Bor, arith, rules}
use Rattle.std.proofs.lemmas.List.{take_all, map-append, length-map}
use Rattle.apiservice_rows.specs.Row.{Row}
use Rattle.discovery_merge.specs.Groups.{group_of, is_named, is_of, once}
use Rattle.discovery_merge.specs.Order.{group_order, sorted}
use Rattle.discovery_merge.specs.Lent.{lent_rows, lent_view, rows_for, told, unless_empty}
use Rattle.discovery_merge.specs.declared.groups.Group.{Group}
use Rattle.discovery_merge.proofs.GroupLemmas.{among, borrowed_at, has_rows, left_more, once-nil, told_none, told_some}
use Rattle.discovery_merge.proofs.lent.lent_groups.Goals as goal
use Rattle.discovery_merge.proofs.lent.lent_groups.Goals.{in-Some+in_ok-push, in_default}

abbrev all_told : List Row → List Row → List Group
all_told rows before = map (group_of rows) (once (map (λ (r : Row). r.group) before))

pub loop-row-preserved : goal.loop-row-preserved
loop-row-preserved c =
    let rows : List Row = map (λ (r : Bor Row). r.now) c.args.rows.now in
    let items = c.as_slice-row-items.result.now in
    let all : List Row = map (λ (r : Bor Row). r.now) items in
    let i = c.loop-row.row-index in
    let x = c.row-item.result in
    let r : Row = x.now in
    let before : List Row = take i all in
    let at = borrowed_at items i x c.loop-row-test.true c.row-item.is in
    let ordered : all ≡ sorted group_order (filter is_named rows) =
    ap (map (λ (r : Bor Row). r.now)) c.as_slice-row-items.ensures.value ∙ c.in_ok-ordered.ensures in
    let has =
    has_rows rows i r (subst (λ (l : List Row). i < length l) ordered at.0)
    (subst (λ (l : List Row). r ≡ get_or l i r) ordered at.1) in
    let name : c.as_str.result.now ≡ r.group = search rules in
    let left = c.loop-row.invariant.left r.group in
    let gives : option_map lent_view c.in_ok-group.field-0 ≡ option_map (told r.group) (rows_for r.group c.loop-row.by_group) =
    c.in_ok-group.ensures.group ∙ ap (λ k. option_map (told k) (rows_for k c.loop-row.by_group)) name in
    record {
      done =
          elim c.match-branch-4.branch [
            | in-Some+in_ok-push w ↦
                ap (λ v. map lent_view v.items) w.groups-is ∙ ap (map lent_view) w.in_ok-push.ensures.items
                ∙ map-append lent_view c.loop-row.groups.items (w.in-Some.group ∷ [])
                ∙ told_some rows before r (map lent_view c.loop-row.groups.items) (rows_for r.group c.loop-row.by_group)
                c.loop-row.invariant.done left has (lent_view w.in-Some.group)
                (ap (option_map lent_view) (sym w.in-Some.is) ∙ gives)
                ∙ ap (all_told rows) (sym at.2)
            | in_default w ↦
                ap (λ v. map lent_view v.items) w.groups-is
                ∙ told_none rows before r (map lent_view c.loop-row.groups.items) (rows_for r.group c.loop-row.by_group)
                c.loop-row.invariant.done left has (ap (option_map lent_view) (sym w.in_default.is) ∙ gives)
                ∙ ap (all_told rows) (sym at.2)
          ];
      left = λ k.
          c.in_ok-group.ensures.left k ∙ ap (λ n. cond (bytes_eq n k) None (rows_for k c.loop-row.by_group)) name
          ∙ left_more rows before r k (rows_for k c.loop-row.by_group) (c.loop-row.invariant.left k)
          ∙ ap (λ l. cond (among k (map (λ (r : Row). r.group) l)) None (unless_empty (filter (is_of k) rows))) (sym at.2);
    }

pub loop-row-init : goal.loop-row-init
loop-row-init c = record {
  done = ap (map lent_view) c.new-groups.ensures.items ∙ ap (map (group_of (lent_rows c.args.rows.now))) (sym once-nil);
  left = c.in_ok-by_group.ensures;
}

pub returns : goal.returns
returns c =
    let items = c.as_slice-row-items.result.now in
    let all : List Row = map (λ (r : Bor Row). r.now) items in
    let long = length-map items (λ (r : Bor Row). r.now) in
    let ordered : all ≡ sorted group_order (filter is_named (lent_rows c.args.rows.now)) =
    ap (map (λ (r : Bor Row). r.now)) c.as_slice-row-items.ensures.value ∙ c.in_ok-ordered.ensures in
    c.loop-row.invariant.done
    ∙ ap (all_told (lent_rows c.args.rows.now)) (take_all c.loop-row.row-index all (omega arith) ∙ ordered)
