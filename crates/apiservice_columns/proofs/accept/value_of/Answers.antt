use Rattle.std.proofs.Common.{◌≡◌, ◌+◌, ◌-◌, length, length-drop, sym, arith, rules, ap, take, drop, ◌∙◌}
use Rattle.std.proofs.lemmas.List.{drop_all, take_all}
use Rattle.std.proofs.lemmas.List.Sums.{position_or_len_is}
use Rattle.apiservice_columns.specs.Accept.{is_equals}
use Rattle.apiservice_columns.proofs.accept.value_of.Goals as goal

pub returns-in-Some : goal.returns-in-Some
returns-in-Some c =
    let part = c.args.part.now in
    let start = c.in-Some.i + 1 in
    let at = position_or_len_is is_equals part c.in-Some.i 0 (search rules) (search rules) (search rules) in
    let rest : take (length part - start) (drop start part) ≡ drop start part =
    take_all (length part - start) (drop start part) (omega (arith, length-drop start part)) in
    rest ∙ ap (λ n. drop (n + 1) part) (sym at)

pub returns-in-None : goal.returns-in-None
returns-in-None c =
    let at = position_or_len_is is_equals c.args.part.now (length c.args.part.now) 0 (omega arith) (search rules) (search rules) in
    sym (ap (λ n. drop (n + 1) c.args.part.now) at ∙ drop_all (length c.args.part.now + 1) c.args.part.now (omega arith))
