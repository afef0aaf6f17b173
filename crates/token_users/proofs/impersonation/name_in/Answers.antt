use Rattle.std.proofs.Common.{◌∙◌}
use Rattle.token_users.proofs.RecordLemmas.{name_found, name_refused}
use Rattle.token_users.proofs.impersonation.name_in.Goals as goal

pub returns-in-Ok : goal.returns-in-Ok
returns-in-Ok c =
    c.plain_name.ensures ∙ name_found c.args.value.now c.in-Ok.text.now c.in-Ok.ensures.cases.0 c.in-Ok.ensures.cases.1

pub returns-in-Err : goal.returns-in-Err
returns-in-Err c = name_refused c.args.value.now c.in-Err.ensures.cases.0
