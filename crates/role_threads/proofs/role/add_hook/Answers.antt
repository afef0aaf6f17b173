use Rattle.std.proofs.Common.{ap, sym, ◌∙◌, ◌++◌}
use Rattle.role_threads.specs.Lists.{hooks_in, one_or_none}
use Rattle.role_threads.proofs.RoleLists.{added_hook}
use Rattle.role_threads.proofs.role.add_hook.Goals as goal

pub returns-in_ok-push-in-Some-clause-bays : goal.returns-in_ok-push-in-Some-clause-bays
returns-in_ok-push-in-Some-clause-bays g c = (added_hook _ _ c.in-Some.drain c.in_ok-push-in-Some.ensures.items).0

pub returns-in_ok-push-in-Some-clause-logs : goal.returns-in_ok-push-in-Some-clause-logs
returns-in_ok-push-in-Some-clause-logs g c = (added_hook _ _ c.in-Some.drain c.in_ok-push-in-Some.ensures.items).1

pub returns-in_ok-push-in-Some-clause-hooks : goal.returns-in_ok-push-in-Some-clause-hooks
returns-in_ok-push-in-Some-clause-hooks g c =
    (added_hook _ _ c.in-Some.drain c.in_ok-push-in-Some.ensures.items).2
    ∙ ap (λ o. hooks_in c.args.all.now.items ++ one_or_none o) (sym c.in-Some.is)
