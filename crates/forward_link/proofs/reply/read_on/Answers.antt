use Rattle.std.proofs.Common.{◌≡◌, refl, sym, ◌∙◌, arith}
use Rattle.forward_link.proofs.ReadingLemmas.{seen_none, seen_join, not_enough, rose_same}
use Rattle.forward_link.proofs.reply.read_on.Goals as goal

pub reading-init : goal.reading-init
reading-init g c = record {
  seen = seen_none _ _;
  most = c.requires;
  buffer = c.in-Ok.ensures.len;
  aside = refl;
  calm = refl;
}

pub reading-preserved : goal.reading-preserved
reading-preserved g c = record {
  seen = seen_join _ _ _ _ _ _ c.reading.invariant.seen c.in-Ok-read_piece.ensures.ok.seen;
  most = c.in-Ok-read_piece.ensures.most;
  buffer = c.reading.invariant.buffer;
  aside = c.read_piece.ensures.aside ∙ c.reading.invariant.aside;
  calm = c.in-Ok-read_piece.ensures.calm ∙ c.reading.invariant.calm;
}

pub returns-in-Err-clause-err : goal.returns-in-Err-clause-err
returns-in-Err-clause-err g c =
    not_enough _ _ _ _ _ _ _ _ _ c.in-Err.stop (rose_same _ _ _ c.reading.invariant.calm) c.reading.invariant.seen
    (omega (arith, c.len.ensures, c.reading-test.true, c.reading.body.ok.0)) c.in-Err.ensures.err

pub returns-clause-full : goal.returns-clause-full
returns-clause-full g c = omega (arith, c.len.ensures, c.reading-test.false, c.reading.invariant.most)
