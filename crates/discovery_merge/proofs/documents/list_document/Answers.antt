use Rattle.std.proofs.Common.{◌∙◌}
use Rattle.discovery_merge.specs.Documents.{list_document}
use Rattle.discovery_merge.proofs.JoinLemmas.{written_whole}
use Rattle.discovery_merge.proofs.documents.list_document.Goals as goal

pub returns : goal.returns
unfolding list_document
returns c =
    c.new.ensures
    ∙ written_whole _ _ _ _ _ _ _ c.new-out.ensures.items c.in_ok-extend_from_slice.ensures.items
    c.in_ok-push_items.ensures c.in_ok-extend_from_slice-2.ensures.items
