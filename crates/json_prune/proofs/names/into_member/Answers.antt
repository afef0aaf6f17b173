use Rattle.std.proofs.Common.{Some, None, ap, sym, ◌∙◌}
use Rattle.std.specs.Prelude.{option_map}
use Rattle.json_prune.specs.Names.{names_from}
use Rattle.json_prune.specs.Walk.{if_both, into_member}
use Rattle.json_prune.proofs.NameLemmas.{member_step}
use Rattle.json_prune.proofs.names.into_member.Goals as goal

pub returns-in_default-clause-names : goal.returns-in_default-clause-names
returns-in_default-clause-names c = λ inner e.
    let path = c.args.path.now in
    let n = c.args.name.now in
    let first = member_step path n inner c.args.first.0 _ e c.step.ensures.names in
    let none = ap (option_map (names_from path)) c.in_default.is in
    ap (λ o. if_both o (into_member (names_from path c.args.second.0) n)) (sym none ∙ first)

pub returns-in_default-step-clause-names : goal.returns-in_default-step-clause-names
returns-in_default-step-clause-names c = λ inner e.
    let path = c.args.path.now in
    let n = c.args.name.now in
    let first = sym (ap (option_map (names_from path)) c.in-Some.is) ∙ member_step path n inner c.args.first.0 _ e c.step.ensures.names in
    let second = sym (ap (option_map (names_from path)) c.in_default-step.is) ∙ member_step path n inner c.args.second.0 _ e c.step-2.ensures.names in
    ap (λ o. if_both o None) first ∙ ap (if_both (into_member (names_from path c.args.first.0) n)) second

pub returns-clause-names : goal.returns-clause-names
returns-clause-names c = λ inner e.
    let path = c.args.path.now in
    let n = c.args.name.now in
    let first = sym (ap (option_map (names_from path)) c.in-Some.is) ∙ member_step path n inner c.args.first.0 _ e c.step.ensures.names in
    let second = sym (ap (option_map (names_from path)) c.in-Some-step.is) ∙ member_step path n inner c.args.second.0 _ e c.step-2.ensures.names in
    ap (λ o. if_both o (Some (names_from path c.in-Some-step.second))) first ∙ ap (if_both (into_member (names_from path c.args.first.0) n)) second
