use Rattle.std.proofs.Common.{ap, ◌∙◌}
use Rattle.std.proofs.lemmas.Result.{IfOk-weaker}
use Rattle.token_users.specs.Who as spec
use Rattle.token_users.proofs.bearer.who.Goals as goal

pub returns-in-Some : goal.returns-in-Some
returns-in-Some c =
    IfOk-weaker c.who_sends.result _ _ (λ w e. e ∙ ap (spec.who_by c.args.tokens.now) c.in-Some.ensures) c.who_sends.ensures
