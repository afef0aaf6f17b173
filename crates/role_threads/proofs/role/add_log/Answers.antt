use Rattle.std.proofs.Common.{ap, sym, ◌∙◌, ◌++◌}
use Rattle.role_threads.specs.Lists.{logs_in, one_or_none}
use Rattle.role_threads.proofs.RoleLists.{added_log}
use Rattle.role_threads.proofs.role.add_log.Goals as goal

pub returns-in_ok-push-in-Some-clause-bays : goal.returns-in_ok-push-in-Some-clause-bays
returns-in_ok-push-in-Some-clause-bays g c = (added_log _ _ c.in-Some.drain c.in_ok-push-in-Some.ensures.items).0

pub returns-in_ok-push-in-Some-clause-logs : goal.returns-in_ok-push-in-Some-clause-logs
returns-in_ok-push-in-Some-clause-logs g c =
    (added_log _ _ c.in-Some.drain c.in_ok-push-in-Some.ensures.items).1
    ∙ ap (λ o. logs_in c.args.all.now.items ++ one_or_none o) (sym c.in-Some.is)

pub returns-in_ok-push-in-Some-clause-hooks : goal.returns-in_ok-push-in-Some-clause-hooks
returns-in_ok-push-in-Some-clause-hooks g c = (added_log _ _ c.in-Some.drain c.in_ok-push-in-Some.ensures.items).2
