use Rattle.audit_core.proofs.ExchangeLemmas.{metadata_owed}
use Rattle.audit_core.proofs.laws.metadata_shows_no_body.Goals as goal

pub returns : goal.returns
returns c = metadata_owed c.levels_hide.ensures.metadata
