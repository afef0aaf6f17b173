use Rattle.std.proofs.Common.{◌≡◌, sym, subst, rules}
use Rattle.serde_json.specs.View.{members_view}
use Rattle.json_patch.specs.Order.{AreOrdered}
use Rattle.json_patch.proofs.order.+order.Goals as goal

pub members_are_ordered-returns : goal.members_are_ordered-returns
members_are_ordered-returns t c =
    let all : c.into_iter-member-iterator.result ≡ c.args.members.now.entries = search rules in
    subst (λ es. AreOrdered (members_view es)) all (c.loop-member.invariant (subst (λ es. AreOrdered (members_view es)) (sym c.in-None.ensures.steps.0) tt))
