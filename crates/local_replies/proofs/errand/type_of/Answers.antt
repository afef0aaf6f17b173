use Rattle.std.proofs.Common.{◌==◌, length, sym, arith, rules, ap, take, ◌∙◌}
use Rattle.std.proofs.lemmas.List.{take_all}
use Rattle.std.proofs.lemmas.List.Sums.{position_or_len_is}
use Rattle.local_replies.proofs.errand.type_of.Goals as goal

pub returns-in-Some : goal.returns-in-Some
returns-in-Some c =
    let at = position_or_len_is (λ b. b == 59) c.args.value.now c.in-Some.i 0 (search rules) (search rules) (search rules) in
    ap (λ n. take n c.args.value.now) (sym at)

pub returns-in-None : goal.returns-in-None
returns-in-None c =
    let at = position_or_len_is (λ b. b == 59) c.args.value.now (length c.args.value.now) 0 (omega arith) (search rules) (search rules) in
    sym (ap (λ n. take n c.args.value.now) at ∙ take_all (length c.args.value.now) c.args.value.now (omega arith))
