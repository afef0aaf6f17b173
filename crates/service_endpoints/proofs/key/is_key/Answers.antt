use Rattle.std.proofs.Common.{◌≡◌, true, sym, ◌∙◌}
use Rattle.service_endpoints.proofs.KeyLemmas.{service_length}
use Rattle.service_endpoints.proofs.key.is_key.Goals as goal

pub returns-else-eq-2-clause-short : goal.returns-else-eq-2-clause-short
returns-else-eq-2-clause-short c = λ (h : c.is_service_key.result ≡ true). service_length c.args.text.now (sym c.is_service_key.ensures ∙ h)
