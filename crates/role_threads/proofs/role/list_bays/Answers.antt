use Rattle.std.proofs.Common.{ap, ◌∙◌, ◌++◌, ◌∷◌, []}
use Rattle.role_threads.specs.Lists.{one_or_none}
use Rattle.role_threads.proofs.RoleLists.{added_bay}
use Rattle.role_threads.proofs.role.list_bays.Goals as goal

pub loop-bay-preserved : goal.loop-bay-preserved
loop-bay-preserved g c =
    let a = added_bay _ _ c.in-Some.bay c.in_ok-push.ensures.items in
    let i = c.loop-bay.invariant in
    record { bays = a.0 ∙ ap (λ z. z ++ c.in-Some.bay ∷ []) i.bays; logs = a.1 ∙ i.logs; hooks = a.2 ∙ i.hooks }
