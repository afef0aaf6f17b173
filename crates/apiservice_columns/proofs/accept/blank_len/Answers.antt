use Rattle.std.proofs.Common.{length, sym, arith, rules}
use Rattle.std.proofs.lemmas.List.Sums.{position_or_len_is}
use Rattle.apiservice_columns.specs.Accept.{is_text}
use Rattle.apiservice_columns.proofs.accept.blank_len.Goals as goal

pub returns-in-Some-clause-value : goal.returns-in-Some-clause-value
returns-in-Some-clause-value c =
    sym (position_or_len_is is_text c.args.text.now c.in-Some.i 0 (search rules) (search rules) (search rules))

pub returns-in-None-clause-value : goal.returns-in-None-clause-value
returns-in-None-clause-value c =
    sym (position_or_len_is is_text c.args.text.now (length c.args.text.now) 0 (omega arith) (search rules) (search rules))
