use Rattle.std.proofs.Common.{arith}
use Rattle.body_frames.proofs.MachineLemmas.{range_passed, nothing_passed}
use Rattle.body_frames.proofs.place.pass_data.Goals as goal

pub returns-then-size-gt0-clause-moved : goal.returns-then-size-gt0-clause-moved
returns-then-size-gt0-clause-moved c =
    (range_passed c.args.place.now c.jump.new.place c.args.piece.now c.min-size.result c.if-size-gt0.true
    (omega arith) (omega arith) c.jump.ensures).moved

pub returns-then-size-gt0-clause-body : goal.returns-then-size-gt0-clause-body
returns-then-size-gt0-clause-body c =
    (range_passed c.args.place.now c.jump.new.place c.args.piece.now c.min-size.result c.if-size-gt0.true
    (omega arith) (omega arith) c.jump.ensures).body

pub returns-else-size-gt0-clause-moved : goal.returns-else-size-gt0-clause-moved
returns-else-size-gt0-clause-moved c =
    (nothing_passed c.args.place.now c.args.piece.now c.min-size.result (omega arith)).moved

pub returns-else-size-gt0-clause-body : goal.returns-else-size-gt0-clause-body
returns-else-size-gt0-clause-body c =
    (nothing_passed c.args.place.now c.args.piece.now c.min-size.result (omega arith)).body
