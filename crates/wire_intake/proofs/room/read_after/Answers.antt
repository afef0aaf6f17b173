use Rattle.std.proofs.Common.{rules, arith}
use Rattle.std.proofs.lemmas.List.{with_items_is, places}
use Rattle.wire_intake.proofs.ReadInto.{refilled}
use Rattle.wire_intake.proofs.room.read_after.Goals as goal

pub returns-clause-ok : goal.returns-clause-ok
returns-clause-ok g c =
    refilled _ _ c.args.room.now.items c.deref_mut.result.now c.read.new.buf _ _ c.args.held c.in-Ok.count
    c.deref_mut.ensures.value (omega arith) c.in-Ok.ensures.bound.0 (omega arith) c.in-Ok.ensures.bytes.0
    (with_items_is c.args.room.now _ (search (rules, places)))
