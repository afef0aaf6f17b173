use Rattle.std.proofs.Common.{map, ap, ◌∙◌}
use Rattle.discovery_merge.specs.Documents.{group_list_text, list_document}
use Rattle.discovery_merge.specs.Lent.{lent_view}
use Rattle.discovery_merge.proofs.documents.group_list.Goals as goal

pub returns : goal.returns
unfolding group_list_text
returns c =
    c.in_ok-text.ensures
    ∙ ap list_document (ap (map lent_view) c.as_slice.ensures.value ∙ c.in_ok-groups.ensures)
