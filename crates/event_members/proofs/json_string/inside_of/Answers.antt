use Rattle.std.proofs.Common.{length}
use Rattle.std.proofs.lemmas.Result.{err_from_is_err_and}
use Rattle.event_members.specs.TextMembers.{up_to, piece_at}
use Rattle.event_members.proofs.LoopLemmas.{goes_on, closes, fails, is_done}
use Rattle.event_members.proofs.json_string.inside_of.Goals as goal

pub returns-in-Some : goal.returns-in-Some
returns-in-Some c =
    let bytes = c.args.bytes.now in
    closes 34 piece_at c.loop.text.items (length bytes) c.loop.counter c.loop.rest.now c.in-Some.after.now (up_to 34 piece_at (length bytes) bytes) c.loop-test.true c.in-Some.ensures.0 c.in-Some.ensures.1 c.loop.invariant

pub returns-in_err-byte : goal.returns-in_err-byte
returns-in_err-byte c =
    let bytes = c.args.bytes.now in
    let p = err_from_is_err_and c.from_residual.result c.from_residual.ensures.1 in
    rw (p.1, p.2) (fails 34 piece_at c.in_err-byte.field-0.0 c.loop.text.items (length bytes) c.loop.counter c.loop.rest.now (up_to 34 piece_at (length bytes) bytes) c.loop-test.true c.in_default.ensures c.in_err-byte.ensures c.loop.invariant)

pub loop-preserved : goal.loop-preserved
loop-preserved c =
    let bytes = c.args.bytes.now in
    rw c.in_ok-push.ensures.items (goes_on 34 piece_at c.loop.text.items (length bytes) c.loop.counter c.loop.rest.now c.in_ok-byte.byte c.in_ok-byte.after.now (up_to 34 piece_at (length bytes) bytes) c.loop-test.true c.in_default.ensures c.in_ok-byte.ensures c.loop.invariant)

pub returns : goal.returns
returns c =
    let bytes = c.args.bytes.now in
    is_done 34 piece_at c.loop.text.items (length bytes) c.loop.counter c.loop.rest.now (up_to 34 piece_at (length bytes) bytes) c.loop-test.false c.loop.invariant
