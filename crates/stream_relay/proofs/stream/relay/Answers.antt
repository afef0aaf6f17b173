use Rattle.std.proofs.Common.{◌≡◌, ◌≤◌, false, true, refl, sym, ◌∙◌, arith}
use Rattle.std.proofs.lemmas.Result.{IfOk-weaker, on_err_weaker}
use Rattle.body_frames.specs.Progress.{is_done}
use Rattle.stream_relay.specs.declared.stream.TheConstants.{MOST_STREAMED_BYTES}
use Rattle.stream_relay.proofs.Hands.{rose_earlier, rose_same}
use Rattle.stream_relay.proofs.Ends.{far_start, far_fed, going_on, going_read, all_used, awaits_not_done, no_room, reached_whole}
use Rattle.stream_relay.proofs.Ends.{answers_finish, answers_stop, answers_memory, not_handed_memory}
use Rattle.stream_relay.proofs.Ends.{read_lost, read_stops, read_memory, read_closes, read_cuts}
use Rattle.stream_relay.proofs.stream.relay.Goals as goal

pub returns-in-Err-clause-ok : goal.returns-in-Err-clause-ok
returns-in-Err-clause-ok g c =
    let start = far_start c.args.frame MOST_STREAMED_BYTES c.is_chunked-chunked.result c.args.rest.now (g.K.Source.left c.args.link.now)
    c.new-decoder.result (record { written = g.C.ByteSink.written c.args.conn.now; keep = c.args.keep.now }) c.new-decoder.ensures in
    IfOk-weaker c.stopped.result _ _
    (λ end z. answers_stop c.body_laws.ensures c.args.frame c.is_chunked-chunked.result _ c.args.rest.now _ _ c.args.rest.now
    c.new-decoder.result _ _ _ _ _ _ c.in-Err.stop end c.is_chunked-chunked.ensures (λ r. r) start c.in-Err.ensures.err z) c.stopped.ensures.ok

pub returns-in-Err-clause-err : goal.returns-in-Err-clause-err
returns-in-Err-clause-err g c =
    let start = far_start c.args.frame MOST_STREAMED_BYTES c.is_chunked-chunked.result c.args.rest.now (g.K.Source.left c.args.link.now)
    c.new-decoder.result (record { written = g.C.ByteSink.written c.args.conn.now; keep = c.args.keep.now }) c.new-decoder.ensures in
    on_err_weaker c.stopped.result
    (λ e. answers_memory c.args.frame c.is_chunked-chunked.result _ c.args.rest.now _ _ _ _ c.is_chunked-chunked.ensures
    (not_handed_memory c.args.frame c.is_chunked-chunked.result c.args.rest.now _ _ c.args.rest.now c.new-decoder.result _ _ _ _
    c.in-Err.stop e start c.in-Err.ensures.err)) c.stopped.ensures.err

pub returns-in_default-clause-err : goal.returns-in_default-clause-err
returns-in_default-clause-err g c =
    let start = far_start c.args.frame MOST_STREAMED_BYTES c.is_chunked-chunked.result c.args.rest.now (g.K.Source.left c.args.link.now)
    c.new-decoder.result (record { written = g.C.ByteSink.written c.args.conn.now; keep = c.args.keep.now }) c.new-decoder.ensures in
    answers_memory c.args.frame c.is_chunked-chunked.result _ c.args.rest.now _ _ _ _ c.is_chunked-chunked.ensures
    (no_room c.args.frame c.is_chunked-chunked.result c.args.rest.now _ _ _ _ _ _
    (far_fed c.args.frame MOST_STREAMED_BYTES c.is_chunked-chunked.result c.args.rest.now _ _ c.args.rest.now c.in-Ok.field-0
    c.new-decoder.result _ _ _ _ start c.in-Ok.ensures.ok))

pub reading-init : goal.reading-init
reading-init g c =
    let start = far_start c.args.frame MOST_STREAMED_BYTES c.is_chunked-chunked.result c.args.rest.now (g.K.Source.left c.args.link.now)
    c.new-decoder.result (record { written = g.C.ByteSink.written c.args.conn.now; keep = c.args.keep.now }) c.new-decoder.ensures in
    record {
      going =
          going_on c.args.frame MOST_STREAMED_BYTES c.is_chunked-chunked.result c.args.rest.now _ _ c.args.rest.now c.in-Ok.field-0
          c.new-decoder.result _ _ _ _ start c.in-Ok.ensures.ok c.in-Ok.ensures.all;
      awaits = c.in-Ok.ensures.awaits;
      buffer = c.in-Ok-vec.ensures.len;
      read_calm = refl;
      write_calm = c.in-Ok.ensures.calm;
      aside = refl;
      inward = c.hand_on.ensures.aside;
    }

pub returns-in-ReadFault-clause-ok : goal.returns-in-ReadFault-clause-ok
returns-in-ReadFault-clause-ok g c =
    let not_done : is_done c.reading.decoder ≡ false = sym c.is_done.ensures ∙ c.reading-test.true in
    read_lost c.args.frame c.is_chunked-chunked.result _ c.args.rest.now _ _ _ _ _ _ _ _ _ _ _ (Unit {0}) c.in-Err-read_one.stop
    c.in-ReadFault.is c.is_chunked-chunked.ensures (rose_same _ _ _ c.reading.invariant.read_calm) c.reading.invariant.going
    (all_used _ c.reading.decoder c.reading.invariant.going.used not_done) c.in-Err-read_one.ensures.err

pub returns-in-Hand-clause-ok : goal.returns-in-Hand-clause-ok
returns-in-Hand-clause-ok g c =
    let not_done : is_done c.reading.decoder ≡ false = sym c.is_done.ensures ∙ c.reading-test.true in
    IfOk-weaker c.stopped-in-Hand.result _ _
    (λ end z. read_stops c.body_laws.ensures c.args.frame c.is_chunked-chunked.result _ c.args.rest.now _ _ _ _ _ _ _ _ _ _ _ _
    c.in-Err-read_one.stop c.in-Hand.stop end c.in-Hand.is c.is_chunked-chunked.ensures (rose_same _ _ _ c.reading.invariant.write_calm)
    c.reading.invariant.going (all_used _ c.reading.decoder c.reading.invariant.going.used not_done) c.in-Err-read_one.ensures.err z)
    c.stopped-in-Hand.ensures.ok

pub returns-in-Hand-clause-err : goal.returns-in-Hand-clause-err
returns-in-Hand-clause-err g c =
    let not_done : is_done c.reading.decoder ≡ false = sym c.is_done.ensures ∙ c.reading-test.true in
    on_err_weaker c.stopped-in-Hand.result
    (λ e. read_memory c.args.frame c.is_chunked-chunked.result _ c.args.rest.now _ _ _ _ _ _ _ _ _ _ c.in-Err-read_one.stop c.in-Hand.stop
    c.in-Hand.is e c.is_chunked-chunked.ensures c.reading.invariant.going
    (all_used _ c.reading.decoder c.reading.invariant.going.used not_done) c.in-Err-read_one.ensures.err) c.stopped-in-Hand.ensures.err

pub returns-then-ends_here-clause-ok : goal.returns-then-ends_here-clause-ok
returns-then-ends_here-clause-ok g c =
    let not_done : is_done c.reading.decoder ≡ false = sym c.is_done.ensures ∙ c.reading-test.true in
    let later : g.C.ByteSink.write_faults c.args.conn.now ≤ g.C.ByteSink.write_faults c.read_one.new.conn =
    omega (arith, c.reading.invariant.write_calm, c.read_one.ensures.write_later) in
    answers_finish c.args.frame c.is_chunked-chunked.result _ c.args.rest.now _ _ _ _ _ _ _ _ _ c.finish.result c.is_chunked-chunked.ensures
    (rose_earlier _ _ _ later)
    (read_closes c.body_laws.ensures c.args.frame c.is_chunked-chunked.result c.args.rest.now _ _ _ c.reading.decoder _ _ _ _ _ _
    c.in-Err-read_one.stop c.in-AtEnd.is c.reading.invariant.going
    (all_used _ c.reading.decoder c.reading.invariant.going.used not_done) not_done
    (awaits_not_done c.reading.decoder c.reading.invariant.awaits not_done) (sym c.ends_here.ensures ∙ c.if-ends_here.true)
    c.in-Err-read_one.ensures.err) c.finish.ensures.end

pub returns-in-reading-clause-ok : goal.returns-in-reading-clause-ok
returns-in-reading-clause-ok g c =
    let not_done : is_done c.reading.decoder ≡ false = sym c.is_done.ensures ∙ c.reading-test.true in
    read_cuts c.body_laws.ensures c.args.frame c.is_chunked-chunked.result _ c.args.rest.now _ _ _ c.reading.decoder _ _ _ _ _ _ _ (Unit {0})
    c.in-Err-read_one.stop c.in-AtEnd.is c.is_chunked-chunked.ensures c.reading.invariant.going
    (all_used _ c.reading.decoder c.reading.invariant.going.used not_done)
    (awaits_not_done c.reading.decoder c.reading.invariant.awaits not_done) (sym c.ends_here.ensures ∙ c.if-ends_here.false)
    c.in-Err-read_one.ensures.err

pub reading-smaller : goal.reading-smaller
reading-smaller g c =
    let not_done : is_done c.reading.decoder ≡ false = sym c.is_done.ensures ∙ c.reading-test.true in
    c.in-Ok-read_one.ensures.falls (awaits_not_done c.reading.decoder c.reading.invariant.awaits not_done)

pub reading-preserved : goal.reading-preserved
reading-preserved g c =
    let not_done : is_done c.reading.decoder ≡ false = sym c.is_done.ensures ∙ c.reading-test.true in
    record {
      going =
          going_read c.args.frame MOST_STREAMED_BYTES c.is_chunked-chunked.result c.args.rest.now _ _ _ _ _ _ _ _ c.reading.invariant.going
          (all_used _ c.reading.decoder c.reading.invariant.going.used not_done) c.in-Ok-read_one.ensures.ok;
      awaits = c.in-Ok-read_one.ensures.awaits;
      buffer = c.reading.invariant.buffer;
      read_calm = c.in-Ok-read_one.ensures.read_calm ∙ c.reading.invariant.read_calm;
      write_calm = c.in-Ok-read_one.ensures.write_calm ∙ c.reading.invariant.write_calm;
      aside = c.read_one.ensures.aside ∙ c.reading.invariant.aside;
      inward = c.read_one.ensures.inward ∙ c.reading.invariant.inward;
    }

pub returns-clause-ok : goal.returns-clause-ok
returns-clause-ok g c =
    let whole : is_done c.reading.decoder ≡ true = sym c.is_done.ensures ∙ c.reading-test.false in
    answers_finish c.args.frame c.is_chunked-chunked.result _ c.args.rest.now _ _ _ _ _ _ _ _ _ c.finish-2.result c.is_chunked-chunked.ensures
    (rose_same _ _ _ c.reading.invariant.write_calm)
    (reached_whole c.body_laws.ensures c.args.frame c.is_chunked-chunked.result c.args.rest.now _ _ _ c.reading.decoder _ _
    c.reading.invariant.going.so_far whole) c.finish-2.ensures.end
