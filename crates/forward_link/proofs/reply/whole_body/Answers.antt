use Rattle.std.proofs.Common.{◌≡◌, refl, sym, ◌∙◌, arith}
use Rattle.front_ports.specs.Cause.{Rose}
use Rattle.forward_link.proofs.ReadingLemmas.{got_held, got_read, not_read}
use Rattle.forward_link.proofs.reply.whole_body.Goals as goal

pub returns-then-first-size-clause-ok : goal.returns-then-first-size-clause-ok
returns-then-first-size-clause-ok g c =
    got_held (g.K.Source.left c.args.link.now) c.args.held.now c.in-Ok.body.items c.extend_from_slice.new.self.items c.min-first.result c.args.size
    c.min-first.ensures c.in-Ok.ensures.items c.in-Ok-extend_from_slice.ensures.items c.if-first-size.true

pub returns-in-Ok-read_on-clause-ok : goal.returns-in-Ok-read_on-clause-ok
returns-in-Ok-read_on-clause-ok g c =
    got_read (g.K.Source.left c.args.link.now) (g.K.Source.left c.read_on.new.link) c.args.held.now c.in-Ok.body.items c.extend_from_slice.new.self.items
    c.read_on.new.body.items c.min-first.result c.args.size c.min-first.ensures c.in-Ok.ensures.items c.in-Ok-extend_from_slice.ensures.items c.if-first-size.false
    c.in-Ok-read_on.ensures.ok (omega (arith, c.in-Ok-read_on.ensures.full, c.read_on.new.body.ok.0))

pub returns-in-Err-clause-err : goal.returns-in-Err-clause-err
returns-in-Err-clause-err g c =
    not_read (g.K.Source.left c.args.link.now) (g.K.Source.left c.read_on.new.link) c.args.held.now c.in-Ok.body.items c.extend_from_slice.new.self.items
    c.min-first.result c.args.size (Rose (g.K.Source.read_faults c.args.link.now) (g.K.Source.read_faults c.read_on.new.link)) c.in-Err.stop
    c.min-first.ensures c.in-Ok.ensures.items c.in-Ok-extend_from_slice.ensures.items c.if-first-size.false c.in-Err.ensures.err
