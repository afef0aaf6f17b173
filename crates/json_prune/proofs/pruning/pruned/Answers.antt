use Rattle.std.proofs.Common.{[], sym, ◌∙◌}
use Rattle.std.proofs.lemmas.List.{append-nil}
use Rattle.json_span.specs.Value.{flat}
use Rattle.json_prune.specs.Names.{names_from}
use Rattle.json_prune.specs.Walk.{prune_both}
use Rattle.json_prune.proofs.WalkLemmas.{from_start}
use Rattle.json_prune.proofs.pruning.pruned.Goals as goal

pub returns : goal.returns
returns c = λ v e h.
    let copies = c.in_ok-end.ensures.copies v [] (e ∙ sym (append-nil (flat v))) h tt in
    let start = c.in_ok-copied.ensures in
    from_start c.args.text.now c.in_ok-copied.copied c.cut.new.self.out.items (flat (prune_both (names_from c.args.path.now c.args.first) (names_from c.args.path.now c.args.second) v)) start.0 start.1 (c.in_ok-cut.ensures.1 ∙ copies.1)
