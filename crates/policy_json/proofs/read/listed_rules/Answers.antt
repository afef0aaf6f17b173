use Rattle.std.proofs.Common.{arith}
use Rattle.serde_json.specs.View.{view}
use Rattle.policy_json.proofs.SizeLemmas.{list_inside}
use Rattle.policy_json.proofs.read.listed_rules.Goals as goal

pub some_rules-requires : goal.some_rules-requires
some_rules-requires c =
    let items = c.in-Some.items.now in
    let few = list_inside (view c.args.value.now) items.items (rw c.in-Some.is at c.as_array.ensures) in
    omega (arith, items.ok, few, c.requires)
