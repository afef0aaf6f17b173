use Rattle.std.proofs.Common.{Some, ap, sym, ◌∙◌, arith}
use Rattle.json_prune.specs.Names.{names_from}
use Rattle.json_prune.proofs.NameLemmas.{step_none, step_last, step_on}
use Rattle.json_prune.proofs.names.step.Goals as goal

pub returns-then-not-is_name-clause-names : goal.returns-then-not-is_name-clause-names
returns-then-not-is_name-clause-names c =
    let path = c.args.path.now in
    ap (λ k. Some (names_from path k)) c.none.ensures.past
    ∙ step_none path c.args.name.now c.args.from c.args.end _ c.requires.size c.is_name.ensures.same c.if-not-is_name.true

pub returns-then-end-path-clause-names : goal.returns-then-end-path-clause-names
returns-then-end-path-clause-names c =
    let within = c.is_name.ensures.within c.if-not-is_name.false in
    step_last c.args.path.now c.args.name.now c.args.from c.args.end within (c.requires.size within) (sym (c.is_name.ensures.same within) ∙ c.if-not-is_name.false) (omega (arith, c.if-end-path.true))

pub returns-clause-names : goal.returns-clause-names
returns-clause-names c =
    let within = c.is_name.ensures.within c.if-not-is_name.false in
    step_on c.args.path.now c.args.name.now c.args.from c.args.end within (c.requires.size within) (sym (c.is_name.ensures.same within) ∙ c.if-not-is_name.false) (omega (arith, c.requires.within within, c.if-end-path.false))
