use Rattle.std.proofs.Common.{◌≡◌, ◌+◌, List, length, ap, ◌∙◌, sym, arith}
use Rattle.apiservice_rows.specs.Row.{Row}
use Rattle.apiservice_table.specs.Changes.{after, changed}
use Rattle.route_history.specs.History.{History, changes_of}
use Rattle.route_history.specs.declared.entry.Entry.{Entry}
use Rattle.route_history.proofs.Copies.{extends, after_entry}
use Rattle.route_history.proofs.copy.RouteCopyAbsorbNextChange.absorb_first.Goals as goal

pub invariant_of-self-2 : goal.invariant_of-self-2
invariant_of-self-2 g c =
    let xs : List Entry = c.args.self.now.prefix.entries in
    let ys : List Entry = c.args.next.now.prefix.entries in
    let entry : Entry = c.args.next.now.entry in
    let opening = g.N.RouteName.opening in
    let some = c.args.next.now.some in
    let len : length ys ≡ length xs + 1 = omega (arith, some, c.len.ensures.count, c.len-2.ensures.count) in
    let e = extends xs ys entry c.onto-prefix.ensures.begins len c.args.next.now.last in
    record {
      kept = c.in_ok-apply_copy.ensures.done
          ∙ ap (λ (rows : List Row). changed rows entry.change) c.args.self.now.kept
          ∙ sym (after_entry opening xs entry)
          ∙ ap (λ (l : List Entry). after opening (changes_of l)) (sym e)
          ∙ ap (λ (h : History). after opening (changes_of h.entries)) (sym c.onto-prefix.ensures.same);
    }
