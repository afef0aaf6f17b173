use Rattle.audit_check.proofs.VerdictLemmas.{one_verdict}
use Rattle.audit_check.proofs.laws.one_judgement.Goals as goal

pub returns : goal.returns
returns c = one_verdict c.reads_back.ensures.one
