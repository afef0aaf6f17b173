use Rattle.std.proofs.Common.{◌≡◌, ◌∙◌, true, false, ap, sym, rules}
use Rattle.serde_json.specs.Data.{item, no_items}
use Rattle.serde_json.specs.View.{items_view, view}
use Rattle.avail_probe.specs.Status.{is_other, joined, one_if}
use Rattle.avail_probe.proofs.PatchLemmas.{none_more, one_more}
use Rattle.avail_probe.proofs.patch.push_other.Goals as goal

pub returns-in_ok-push : goal.returns-in_ok-push
returns-in_ok-push c =
    let old = items_view c.args.all.now.items in
    let own = view c.args.condition.now in
    let same : view c.in_ok-clone.field-0 ≡ own = search rules in
    let is : is_other own ≡ true = sym c.is_other.ensures ∙ c.if-is_other.true in
    ap items_view c.in_ok-push.ensures.items ∙ one_more c.args.all.now.items c.in_ok-clone.field-0
    ∙ ap (λ d. joined old (item d no_items)) same ∙ ap (λ b. joined old (one_if b own)) (sym is)

pub returns-else-is_other : goal.returns-else-is_other
returns-else-is_other c =
    let old = items_view c.args.all.now.items in
    let own = view c.args.condition.now in
    let is : is_other own ≡ false = sym c.is_other.ensures ∙ c.if-is_other.false in
    none_more old ∙ ap (λ b. joined old (one_if b own)) (sym is)
