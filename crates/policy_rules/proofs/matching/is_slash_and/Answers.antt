use Rattle.std.proofs.Common.{◌≡◌, ◌∷◌, [], ◌++◌, sym, ap, ◌∙◌}
use Rattle.std.specs.Str.{bytes_eq}
use Rattle.policy_rules.proofs.MatchLemmas.{front_not, front_is}
use Rattle.policy_rules.proofs.matching.is_slash_and.Goals as goal

pub returns-in-Some : goal.returns-in-Some
returns-in-Some c =
    let h = c.in-Some.ensures.cases in
    let slash : c.as_slice.result.now ≡ 47 ∷ [] = c.as_slice.ensures in
    c.eq.ensures
    ∙ ap (λ rest. bytes_eq rest c.args.back.now) h.1
    ∙ sym (front_is c.as_slice.result.now c.args.text.now c.args.back.now h.0)
    ∙ ap (λ front. bytes_eq c.args.text.now (front ++ c.args.back.now)) slash

pub returns-in-None : goal.returns-in-None
returns-in-None c =
    let slash : c.as_slice.result.now ≡ 47 ∷ [] = c.as_slice.ensures in
    sym (front_not c.as_slice.result.now c.args.text.now c.args.back.now c.in-None.ensures.cases)
    ∙ ap (λ front. bytes_eq c.args.text.now (front ++ c.args.back.now)) slash
