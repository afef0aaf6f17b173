use Rattle.std.proofs.Common.{◌∷◌, sym, ap, ◌∙◌}
use Rattle.std.specs.Str.{bytes_eq}
use Rattle.policy_rules.proofs.MatchLemmas.{front_not, front_is}
use Rattle.policy_rules.proofs.matching.is_joined.Goals as goal

pub returns-in-Some : goal.returns-in-Some
returns-in-Some c =
    let h = c.in-Some.ensures.cases in
    c.is_slash_and.ensures ∙ ap (λ rest. bytes_eq rest (47 ∷ c.args.back.now)) h.1 ∙ sym (front_is c.args.front.now c.args.text.now _ h.0)

pub returns-in-None : goal.returns-in-None
returns-in-None c = sym (front_not c.args.front.now c.args.text.now _ c.in-None.ensures.cases)
