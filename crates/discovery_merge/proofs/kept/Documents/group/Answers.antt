use Rattle.std.proofs.Common.{Some, sym, ap, ◌∙◌}
use Rattle.discovery_merge.specs.Kept.{Kept, text_of}
use Rattle.discovery_merge.proofs.KeptLemmas.{text_by_tree}
use Rattle.discovery_merge.proofs.kept.Documents.group.Goals as goal

pub returns-in-Some : goal.returns-in-Some
returns-in-Some c =
    ap Some c.as_slice.ensures ∙ c.in-Some.ensures.value
    ∙ sym (text_by_tree c.args.name.now c.self.inside.groups.entries)
    ∙ ap (λ (k : Kept). text_of c.args.name.now k.groups) c.self.view_is

pub returns-in-None : goal.returns-in-None
returns-in-None c =
    c.in-None.ensures.value
    ∙ sym (text_by_tree c.args.name.now c.self.inside.groups.entries)
    ∙ ap (λ (k : Kept). text_of c.args.name.now k.groups) c.self.view_is
