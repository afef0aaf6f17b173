use Rattle.front_ports.specs.Cause.{Rose}
use Rattle.forward_link.proofs.ReadingLemmas.{no_block, no_reply, got_head, is_none, is_reply, few_lines}
use Rattle.forward_link.proofs.reply.next_head.Goals as goal

pub returns-in-Err-clause-err : goal.returns-in-Err-clause-err
returns-in-Err-clause-err g c =
    no_block (g.K.Source.left c.args.link.now) (g.K.Source.left c.next_block.new.conn) c.args.intake.now c.next_block.new.intake
    (Rose (g.K.Source.read_faults c.args.link.now) (g.K.Source.read_faults c.next_block.new.conn))
    c.in-Err.stop c.stop_of.result c.stop_of.ensures c.in-Err.ensures.err

pub returns-in-Ok-None-clause-err : goal.returns-in-Ok-None-clause-err
returns-in-Ok-None-clause-err g c =
    no_reply (g.K.Source.left c.args.link.now) (g.K.Source.left c.next_block.new.conn) c.args.intake.now c.next_block.new.intake c.in-Ok.length
    c.in-Ok.ensures.ok.seen c.in-Ok.ensures.ok.block
    (is_none c.in-Ok-None.field-0 c.as_slice.result.now c.next_block.new.intake c.in-Ok.length c.as_slice.ensures.value c.in-Ok-None.ensures c.in-Ok-None.field-0-is)

pub returns-clause-ok : goal.returns-clause-ok
returns-clause-ok g c =
    got_head (g.K.Source.left c.args.link.now) (g.K.Source.left c.next_block.new.conn) c.args.intake.now c.next_block.new.intake c.skip.new.self c.in-Ok.length
    c.in-Ok-Some.head c.in-Ok.ensures.ok.seen c.in-Ok.ensures.ok.block
    (is_reply c.in-Ok-Some.field-0 c.in-Ok-Some.head c.as_slice.result.now c.next_block.new.intake c.in-Ok.length c.as_slice.ensures.value c.in-Ok-Some.ensures c.in-Ok-Some.field-0-is)
    c.skip.ensures

pub skip-requires : goal.skip-requires
skip-requires g c = c.in-Ok.ensures.ok.block.within

pub reply_of-requires : goal.reply_of-requires
reply_of-requires g c = few_lines c.as_slice.result.now c.next_block.new.intake c.in-Ok.length c.as_slice.ensures.value c.in-Ok.ensures.ok.block
