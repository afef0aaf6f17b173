use Rattle.std.proofs.Common.{length, sym, arith, rules}
use Rattle.std.specs.Prelude.{not}
use Rattle.std.specs.Char.{is_ascii_digit}
use Rattle.std.proofs.lemmas.List.Sums.{position_or_len_is}
use Rattle.event_members.proofs.decimal.digits_len.Goals as goal

pub returns-in-Some-clause-value : goal.returns-in-Some-clause-value
returns-in-Some-clause-value c =
    sym (position_or_len_is (λ b. not (is_ascii_digit b)) c.args.bytes.now c.in-Some.i 0 (search rules) (search rules) (search rules))

pub returns-in-None-clause-value : goal.returns-in-None-clause-value
returns-in-None-clause-value c =
    sym (position_or_len_is (λ b. not (is_ascii_digit b)) c.args.bytes.now (length c.args.bytes.now) 0 (omega arith) (search rules) (search rules))
