use Rattle.std.proofs.Common.{List, ℕ, ◌-◌, subst, refl, take, drop}
use Rattle.std.proofs.lemmas.List.{take-append-drop}
use Rattle.webhook_sink.specs.Buffered.{Stops}
use Rattle.webhook_sink.proofs.BufferLemmas.{keeps, fills, fill-stops}
use Rattle.webhook_sink.proofs.buffer.SendBuffer.fill.Goals as goal

pub returns-in-Ok-clause-ok : goal.returns-in-Ok-clause-ok
returns-in-Ok-clause-ok g c =
    let o = c.args.self.now in
    let k = c.keep.new.self in
    let n = c.flush.new.self in
    let x = take (65536 - c.len-room.result) c.args.piece.now in
    let a = g.W.ByteSink.written c.args.out.now in
    let b = g.W.ByteSink.written c.args.out.now in
    let r = c.keep.ensures.rest in
    fills a b (g.W.ByteSink.written c.flush.new.out) o.sent k.sent n.sent o.bytes.items k.bytes.items x
    (keeps a b o.bytes.items k.bytes.items x o.sent k.sent refl r c.keep.ensures.bytes) c.in-Ok.ensures.ok

pub returns-in-Err-clause-err : goal.returns-in-Err-clause-err
returns-in-Err-clause-err g c =
    let o = c.args.self.now in
    let k = c.keep.new.self in
    let n = c.flush.new.self in
    let room = 65536 - c.len-room.result in
    let x = take room c.args.piece.now in
    let a = g.W.ByteSink.written c.args.out.now in
    let b = g.W.ByteSink.written c.args.out.now in
    let d = g.W.ByteSink.written c.flush.new.out in
    let r = c.keep.ensures.rest in
    subst (λ (z : List ℕ). Stops a o.sent o.bytes.items z d n.sent) (take-append-drop room c.args.piece.now)
    (fill-stops a b d o.sent k.sent n.sent o.bytes.items k.bytes.items x (drop room c.args.piece.now)
    (keeps a b o.bytes.items k.bytes.items x o.sent k.sent refl r c.keep.ensures.bytes) c.in-Err.ensures.err)
