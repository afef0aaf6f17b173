use Rattle.std.proofs.Common.{ap, ◌∙◌, ◌++◌}
use Rattle.role_threads.specs.Lists.{one_or_none}
use Rattle.role_threads.proofs.role.list_roles.Goals as goal

pub returns-clause-log : goal.returns-clause-log
returns-clause-log g c =
    c.in_ok-add_hook.ensures.logs
    ∙ (c.in_ok-add_log.ensures.logs ∙ ap (λ z. z ++ one_or_none c.args.roles.log) c.in_ok-all.ensures.none.0)

pub returns-clause-hook : goal.returns-clause-hook
returns-clause-hook g c =
    c.in_ok-add_hook.ensures.hooks
    ∙ ap (λ z. z ++ one_or_none c.args.roles.hook) (c.in_ok-add_log.ensures.hooks ∙ c.in_ok-all.ensures.none.1)
