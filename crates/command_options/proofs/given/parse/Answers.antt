use Rattle.std.proofs.Common.{◌∙◌, ap, map, string_bytes, subst, sym, inl, inr}
use Rattle.clap.specs.Words.{App, HasKind, fault_of, is_simple, is_simple_and_free, matches_of}
use Rattle.command_options.proofs.RuleLemmas.{simple, simple_and_free}
use Rattle.command_options.proofs.given.parse.Goals as goal

pub returns-in-Ok-clause-taken : goal.returns-in-Ok-clause-taken
returns-in-Ok-clause-taken c =
    let names = map (λ own. own.now) c.args.names.now in
    let app = c.in_ok-command_with.ensures in
    sym (ap (λ (a : App). fault_of a (map string_bytes c.args.words.now)) app) ∙ c.in-Ok.ensures.kinds (ap is_simple_and_free app ∙ simple_and_free names)

pub returns-in-Ok-clause-rows : goal.returns-in-Ok-clause-rows
returns-in-Ok-clause-rows c =
    let names = map (λ own. own.now) c.args.names.now in
    let app = c.in_ok-command_with.ensures in
    (c.in-Ok.ensures.matches (ap is_simple app ∙ simple names)).0 ∙ ap (λ (a : App). matches_of a (map string_bytes c.args.words.now)) app

pub returns : goal.returns
returns c =
    let names = map (λ own. own.now) c.args.names.now in
    let app = c.in_ok-command_with.ensures in
    let words = map string_bytes c.args.words.now in
    let kinds = c.in-Err.ensures.kinds (ap is_simple_and_free app ∙ simple_and_free names) in
    record {
      taken = tt;
      rows = tt;
      refused = λ _ none. elim (subst (λ k. HasKind k c.in-Err.error) (ap (λ (a : App). fault_of a words) app ∙ none) kinds) [
        | inl memory ↦ c.in_default.not-OutOfMemory (c.kind.ensures ∙ memory)
        | inr among ↦ among
      ];
    }
