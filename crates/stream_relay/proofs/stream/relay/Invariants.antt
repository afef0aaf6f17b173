use Rattle.std.proofs.Common.{◌≡◌, ◌⊎◌, true, vec_len}
use Rattle.body_frames.specs.Progress.{is_done, is_open, most_left}
use Rattle.stream_relay.specs.Hand.{Going}
use Rattle.stream_relay.specs.declared.stream.TheConstants.{MOST_READ_BYTES, MOST_STREAMED_BYTES}
use Rattle.stream_relay.proofs.stream.relay.Given as goal

abbrev pub invariant-reading : goal.invariant-reading
invariant-reading g l = record {
  going : Going l.fn.frame MOST_STREAMED_BYTES l.chunked l.rest (g.K.Source.left l.fn.link) (g.K.Source.left l.link) l.decoder
      (record { written = g.C.ByteSink.written l.fn.conn; keep = l.fn.keep })
      (record { written = g.C.ByteSink.written l.conn; keep = l.keep });
  awaits : (is_done l.decoder ≡ true) ⊎ (is_open l.decoder ≡ true);
  buffer : vec_len l.buf ≡ MOST_READ_BYTES;
  read_calm : g.K.Source.read_faults l.link ≡ g.K.Source.read_faults l.fn.link;
  write_calm : g.C.ByteSink.write_faults l.conn ≡ g.C.ByteSink.write_faults l.fn.conn;
  aside : g.K.Source.outward l.link ≡ g.K.Source.outward l.fn.link;
  inward : g.C.ByteSink.inward l.conn ≡ g.C.ByteSink.inward l.fn.conn;
}

abbrev pub decreases-reading : goal.decreases-reading
decreases-reading g l = most_left l.decoder
