use Rattle.std.proofs.Common.{List, Bor, ◌∙◌, ap, ap₂, map, sym, take, get_or, ℕ, []}
use Rattle.std.proofs.lemmas.List.{map_more}
use Rattle.clap.specs.Words.{with_rule}
use Rattle.command_options.specs.Parser.{app_with}
use Rattle.command_options.proofs.RuleLemmas.{option_more}
use Rattle.command_options.proofs.given.command_with.Goals as goal

pub loop-name-preserved : goal.loop-name-preserved
loop-name-preserved c =
    let names = c.args.names.now in
    let i = c.loop-name.name-index in
    let none : Bor (List ℕ) = record { ref_ptr = (0, 0); now = [] } in
    c.in_ok-command.ensures.shape c.option.ensures.local ∙ ap₂ with_rule c.loop-name.invariant c.option.ensures.rule
    ∙ option_more (map (λ (own : Bor (List ℕ)). own.now) (take i names)) (get_or names i none).now
    ∙ ap app_with (sym (map_more (λ (own : Bor (List ℕ)). own.now) names i none c.loop-name-test.true))
