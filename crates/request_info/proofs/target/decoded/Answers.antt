use Rattle.std.proofs.Common.{rules}
use Rattle.request_info.proofs.TargetLemmas.{spells, spells_none}
use Rattle.request_info.proofs.target.decoded.Goals as goal

pub returns-in_ok-into_owned-in-Ok : goal.returns-in_ok-into_owned-in-Ok
returns-in_ok-into_owned-in-Ok c =
    spells c.args.spelled.now _ (rw c.as_bytes.ensures.value at c.if-not-are_escapes_whole.ensures) (search rules) (search rules)

pub returns-in-Err-Utf8 : goal.returns-in-Err-Utf8
returns-in-Err-Utf8 c =
    let refuses = rw (c.in-Err-Utf8.field-0-is, c.percent_decode.ensures.bytes, c.as_bytes-2.ensures.value) at c.in-Err-Utf8.ensures.utf8 in
    spells_none c.args.spelled.now (λ utf8. absurd (cc (refuses utf8)))
