use Rattle.discovery_merge.specs.Documents.{group_item}
use Rattle.discovery_merge.proofs.JoinLemmas.{written_three}
use Rattle.discovery_merge.proofs.documents.push_item.Goals as goal

pub returns : goal.returns
unfolding group_item
returns c =
    written_three _ _ _ _ _ _ _ c.in_ok-push.ensures.items c.in_ok-push_members.ensures c.in_ok-push-2.ensures.items
