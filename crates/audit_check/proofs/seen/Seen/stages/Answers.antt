use Rattle.audit_check.proofs.SeenLemmas.{whole_at}
use Rattle.audit_check.proofs.seen.Seen.stages.Goals as goal

pub returns-in-Some-clause-whole : goal.returns-in-Some-clause-whole
returns-in-Some-clause-whole c = whole_at c.self.inside.blocks.entries c.args.block c.in-Some.stages.now c.self.invariant c.in-Some.ensures.value
