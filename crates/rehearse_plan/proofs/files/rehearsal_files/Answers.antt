use Rattle.std.proofs.Common.{◌∙◌}
use Rattle.rehearse_plan.proofs.Named.{file_is, three}
use Rattle.rehearse_plan.proofs.files.rehearsal_files.Goals as goal

pub returns : goal.returns
returns c =
    c.new-2.ensures.held ∙ (c.in_ok-vec.ensures.items
    ∙ three _ _ _ _ _ _ (file_is c.in_ok-policy.policy _ _ c.in_ok-policy.ensures) (file_is c.in_ok-services.services _ _ c.in_ok-services.ensures)
    (file_is c.in_ok-endpoints.endpoints _ _ c.in_ok-endpoints.ensures))
