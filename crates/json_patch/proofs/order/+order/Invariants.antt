use Rattle.serde_json.specs.View.{members_view}
use Rattle.json_patch.specs.Order.{AreOrdered}
use Rattle.json_patch.proofs.order.+order.Given as goal

-- where the rest is ordered, all is
abbrev pub invariant-members_are_ordered-loop-member : goal.invariant-members_are_ordered-loop-member
invariant-members_are_ordered-loop-member l = AreOrdered (members_view l.member-iterator) → AreOrdered (members_view l.initial.member-iterator)
