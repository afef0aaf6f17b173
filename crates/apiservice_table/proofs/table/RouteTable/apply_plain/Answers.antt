use Rattle.std.proofs.Common.{◌≡◌, List, None, sym, subst, ◌∙◌}
use Rattle.apiservice_rows.specs.Row.{Row}
use Rattle.apiservice_table.specs.Changes.{changed, refusal}
use Rattle.apiservice_table.specs.Index.{LinksAll}
use Rattle.apiservice_table.proofs.ChangeLemmas.{order_after, named_after, few_after}
use Rattle.apiservice_table.proofs.RenewLemmas.{links_stay}
use Rattle.apiservice_table.proofs.table.RouteTable.apply_plain.Goals as goal

pub renew-requires-clause-few : goal.renew-requires-clause-few
renew-requires-clause-few c =
    let rows = c.self.inside.rows.items in
    let h = c.self.invariant in
    let due : refusal rows c.args.change ≡ None = sym (rw c.as_slice.ensures.value at c.in_default.ensures) in
    rw (c.as_slice-3.ensures.value, c.in_ok-change_rows.ensures.done) (few_after rows c.args.change c.requires h.0 due h.2)

pub renew-requires-clause-linked : goal.renew-requires-clause-linked
renew-requires-clause-linked c = λ still.
    let rows = c.self.inside.rows.items in
    let h = c.self.invariant in
    let due : refusal rows c.args.change ≡ None = sym (rw c.as_slice.ensures.value at c.in_default.ensures) in
    let now : changed rows c.args.change ≡ c.as_slice-3.result.now =
    sym (c.as_slice-3.ensures.value ∙ c.in_ok-change_rows.ensures.done) in
    subst (λ (l : List Row). LinksAll l c.self.inside.index) now
    (links_stay rows c.args.change c.self.inside.index c.requires h.0 h.1 c.tells_names.ensures due h.3
    (sym c.moves_rows-moved.ensures ∙ still))

pub invariant_of-self-2 : goal.invariant_of-self-2
invariant_of-self-2 c =
    let rows = c.self.inside.rows.items in
    let h = c.self.invariant in
    let due : refusal rows c.args.change ≡ None = sym (rw c.as_slice.ensures.value at c.in_default.ensures) in
    let done = c.in_ok-change_rows.ensures.done in (
      rw done (order_after rows c.args.change c.requires h.0),
      rw done (named_after rows c.args.change c.requires c.tells_names.ensures h.1),
      rw done (few_after rows c.args.change c.requires h.0 due h.2),
      rw c.as_slice-3.ensures.value at c.renew.ensures,
      rw (done, sym c.as_slice-2.ensures.value) c.in_ok-documents.ensures,
    )
