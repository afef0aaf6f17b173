use Rattle.std.proofs.Common.{length, sym, arith, rules, ap, take, ◌∙◌}
use Rattle.std.proofs.lemmas.List.{take_all}
use Rattle.std.proofs.lemmas.List.Sums.{position_or_len_is}
use Rattle.apiservice_columns.specs.Accept.{is_equals}
use Rattle.apiservice_columns.proofs.accept.name_of.Goals as goal

pub returns-in-Some : goal.returns-in-Some
returns-in-Some c =
    let at = position_or_len_is is_equals c.args.part.now c.in-Some.i 0 (search rules) (search rules) (search rules) in
    ap (λ n. take n c.args.part.now) (sym at)

pub returns-in-None : goal.returns-in-None
returns-in-None c =
    let at = position_or_len_is is_equals c.args.part.now (length c.args.part.now) 0 (omega arith) (search rules) (search rules) in
    sym (ap (λ n. take n c.args.part.now) at ∙ take_all (length c.args.part.now) c.args.part.now (omega arith))
