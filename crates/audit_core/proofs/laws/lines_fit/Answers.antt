use Rattle.audit_core.proofs.OwedLemmas.{all_fit}
use Rattle.audit_core.proofs.laws.lines_fit.Goals as goal

pub returns : goal.returns
returns c max events = all_fit max c.what_fits.ensures.whole c.what_fits.ensures.stripped events
