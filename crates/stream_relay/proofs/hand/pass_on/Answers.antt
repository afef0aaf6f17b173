use Rattle.std.proofs.Common.{rules}
use Rattle.stream_relay.proofs.Hands.{piece_wrote, piece_unkept}
use Rattle.stream_relay.proofs.hand.pass_on.Goals as goal

pub returns-in-Ok-add-clause-ok : goal.returns-in-Ok-add-clause-ok
returns-in-Ok-add-clause-ok g c =
    piece_wrote c.args.chunked _ _ c.args.piece.now (c.requires, search rules) c.in-Ok.ensures.ok c.in-Ok-add.ensures.ok

pub returns-in-Err-add-clause-err : goal.returns-in-Err-add-clause-err
returns-in-Err-add-clause-err g c =
    piece_unkept c.args.chunked _ _ c.args.piece.now (c.requires, search rules) c.in-Ok.ensures.ok c.in-Err-add.ensures.err
