use Rattle.std.proofs.Common.{◌∙◌, sym}
use Rattle.run_laws.proofs.StatusLemmas.{closed_where_done, done_where_closed}
use Rattle.run_laws.proofs.losses.a_run_without_faults_is_done.Goals as goal

pub returns : goal.returns
returns g c set options before after tables ended served = (
  (λ done. closed_where_done ended.bays.items (sym served.status_is ∙ done)),
  (λ closed. served.status_is ∙ done_where_closed ended.bays.items closed),
)
