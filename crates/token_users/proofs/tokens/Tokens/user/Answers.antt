use Rattle.std.proofs.Common.{arith, ap, Some, ◌∙◌}
use Rattle.token_users.specs.Places as spec
use Rattle.token_users.proofs.PlaceLemmas.{no_text_no_user, user_found, user_missing, place_within}
use Rattle.token_users.proofs.tokens.Tokens.user.Goals as goal

pub returns-in-Err : goal.returns-in-Err
returns-in-Err c =
    no_text_no_user c.args.token.now c.self.inside.records.items c.self.invariant.texts c.in-Err.ensures.cases.0
    ∙ ap (spec.last_user c.args.token.now) c.self.view_is

pub index-requires : goal.index-requires
index-requires c =
    let at = c.in-Some.ensures.value ∙ c.self.invariant.found c.in-Ok.token.now in
    omega (arith, c.self.inside.records.ok, place_within c.in-Ok.token.now c.self.inside.records.items c.in-Some.place.now at)

pub returns-in-Some : goal.returns-in-Some
returns-in-Some c =
    let at = c.in-Some.ensures.value ∙ c.self.invariant.found c.in-Ok.token.now in
    ap (λ r. Some r.user) c.index.ensures
    ∙ user_found c.in-Ok.token.now c.self.inside.records.items c.in-Some.place.now c.index.result.now at
    ∙ ap (λ token. spec.last_user token c.self.inside.records.items) c.in-Ok.ensures.cases.0
    ∙ ap (spec.last_user c.args.token.now) c.self.view_is

pub returns-in-None : goal.returns-in-None
returns-in-None c =
    user_missing c.in-Ok.token.now c.self.inside.records.items (c.in-None.ensures.value ∙ c.self.invariant.found c.in-Ok.token.now)
    ∙ ap (λ token. spec.last_user token c.self.inside.records.items) c.in-Ok.ensures.cases.0
    ∙ ap (spec.last_user c.args.token.now) c.self.view_is
