use Rattle.std.proofs.Common.{List, ℕ, ◌++◌, map, sym, ap, ◌∙◌, arith}
use Rattle.std.proofs.lemmas.List.{take_all}
use Rattle.std.specs.List.{join_with_byte}
use Rattle.discovery_merge.specs.Documents.{group_item}
use Rattle.discovery_merge.specs.Lent.{lent_view}
use Rattle.discovery_merge.specs.declared.lent.LentGroup.{LentGroup}
use Rattle.discovery_merge.proofs.JoinLemmas.{joined_first, joined_more, map_twice}
use Rattle.discovery_merge.proofs.documents.push_items.Goals as goal
use Rattle.discovery_merge.proofs.documents.push_items.Goals.{then-i-gt0+in_ok-push, else-i-gt0}

abbrev text : LentGroup → List ℕ
text g = group_item (lent_view g)

pub loop-i-preserved : goal.loop-i-preserved
loop-i-preserved c =
    let x = c.index-groups-i.result in
    elim c.if-i-gt0.branch [
      | then-i-gt0+in_ok-push w ↦
          joined_more text c.args.groups.now x c.args.out.now.items c.loop-i.i c.loop-i.out.items c.if-i-gt0.out.items
          c.push_item.new.out.items w.if-i-gt0.true c.loop-i-test.true c.index-groups-i.is c.loop-i.invariant
          (ap (λ v. v.items) w.out-is ∙ w.in_ok-push.ensures.items) c.in_ok-push_item.ensures
      | else-i-gt0 w ↦
          joined_first text c.args.groups.now x c.args.out.now.items c.loop-i.i c.if-i-gt0.out.items
          c.push_item.new.out.items w.if-i-gt0.false c.loop-i-test.true c.index-groups-i.is
          (ap (λ v. v.items) w.out-is ∙ c.loop-i.invariant) c.in_ok-push_item.ensures
    ]

pub returns : goal.returns
returns c =
    c.loop-i.invariant
    ∙ ap (λ l. c.args.out.now.items ++ join_with_byte 44 l)
    (ap (map text) (take_all c.loop-i.i c.args.groups.now (omega arith))
    ∙ sym (map_twice group_item lent_view c.args.groups.now))
