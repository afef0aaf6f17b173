use Rattle.std.proofs.Common.{◌≡◌, length, vec_len, arith}
use Rattle.std.proofs.lemmas.List.{take_rest}
use Rattle.json_span.proofs.QuoteLemmas.{plain_rest}
use Rattle.json_span.proofs.quoted.escape_from.Goals as goal

pub returns-then-plain_len-len-clause-ok : goal.returns-then-plain_len-len-clause-ok
returns-then-plain_len-len-clause-ok c =
    let out = c.args.out.now in
    let size : vec_len out ≡ length out.items = out.ok.0 in
    let plain = rw take_rest at (rw c.deref.ensures.value at c.plain_len.ensures.plain) in
    plain_rest out.items c.args.start c.plain_len.result (omega arith) plain
