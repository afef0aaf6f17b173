use Rattle.std.proofs.Common.{Some, cond, ap, sym, ◌∙◌}
use Rattle.std.specs.Str.{bytes_eq}
use Rattle.discovery_merge.specs.Documents.{group_document}
use Rattle.discovery_merge.specs.Lent.{lent_view}
use Rattle.discovery_merge.proofs.KeptLemmas.{one_text_more}
use Rattle.discovery_merge.proofs.kept.texts_of.Goals as goal

pub loop-group-preserved : goal.loop-group-preserved
loop-group-preserved c = λ name.
    let x = c.group-item.result in
    c.in_ok-keep.ensures name
    ∙ ap (cond (bytes_eq x.name.now name) (Some (group_document (lent_view x)))) (c.loop-group.invariant name)
    ∙ sym (one_text_more name c.args.groups.now c.loop-group.group-index x c.loop-group-test.true c.group-item.is)
