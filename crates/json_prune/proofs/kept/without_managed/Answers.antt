use Rattle.json_prune.proofs.KeptLemmas.{leaves_managed}
use Rattle.json_prune.proofs.kept.without_managed.Goals as goal

pub returns-clause-ok : goal.returns-clause-ok
returns-clause-ok c =
    leaves_managed c.args.text.now c.in_ok-whole.whole.items c.in_ok-left.left.items c.deref.result.now c.as_bytes.result.now c.in_ok-pruned.field-0.items
    c.in_ok-whole.ensures.ok c.in_ok-left.ensures c.deref.ensures.value c.as_bytes.ensures.value c.in_ok-pruned.ensures
