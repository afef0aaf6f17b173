use Rattle.json_patch.proofs.Entries.{ascend_entries}
use Rattle.json_patch.proofs.order.names_ascend.Goals as goal

pub returns : goal.returns
returns c = ascend_entries c.args.members.now.entries c.len.ensures.ordered
