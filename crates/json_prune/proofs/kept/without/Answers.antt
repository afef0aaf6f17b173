use Rattle.json_prune.proofs.KeptLemmas.{leaves_out}
use Rattle.json_prune.proofs.kept.without.Goals as goal

pub returns-clause-ok : goal.returns-clause-ok
returns-clause-ok c =
    leaves_out c.args.text.now c.in_ok-whole.whole.items c.deref.result.now c.args.path.now c.as_bytes-path.result.now c.in_ok-pruned.field-0.items c.none.result c.is_empty.result c.in_ok-whole.ensures.ok c.deref.ensures.value c.as_bytes-path.ensures.value c.is_empty.ensures c.if-is_empty.false c.none.ensures.empty c.in_ok-pruned.ensures
