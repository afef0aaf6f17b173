use Rattle.std.proofs.Common.{◌∙◌}
use Rattle.discovery_merge.specs.Documents.{group_document}
use Rattle.discovery_merge.proofs.JoinLemmas.{written_whole}
use Rattle.discovery_merge.proofs.documents.document.Goals as goal

pub returns : goal.returns
unfolding group_document
returns c =
    c.new.ensures
    ∙ written_whole _ _ _ _ _ _ _ c.new-out.ensures.items c.in_ok-extend_from_slice.ensures.items
    c.in_ok-push_members.ensures c.in_ok-push.ensures.items
