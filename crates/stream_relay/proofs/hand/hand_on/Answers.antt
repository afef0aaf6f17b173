use Rattle.std.proofs.Common.{◌≤◌, ◌+◌, length, ◌∙◌, arith}
use Rattle.stream_relay.proofs.Hands.{hands_join, hands_at, not_handed_after, rose_same, slice_split, slice_joined, slice_within}
use Rattle.stream_relay.proofs.hand.hand_on.Goals as goal

pub handing-preserved : goal.handing-preserved
handing-preserved g c =
    let k = c.in-Ok-hand_one.ensures in
    let within : c.handing.at + c.in-Ok-hand_one.taken ≤ length c.args.bytes.now =
    slice_within c.handing.at c.in-Ok-hand_one.taken c.args.bytes.now c.handing.invariant.within c.in-Ok-hand_one.ensures.within in
    record {
      hands =
          hands_at c.args.chunked _ _ _ _ _ _ (slice_joined c.handing.at c.in-Ok-hand_one.taken c.args.bytes.now)
          (hands_join c.args.chunked _ _ _ _ _ _ _ _ c.handing.invariant.hands c.in-Ok-hand_one.ensures.ok);
      within = within;
      some = λ x o. omega (arith, c.handing.invariant.some x o);
      falls = omega (arith, c.handing.invariant.falls, c.in-Ok-hand_one.ensures.falls);
      awaits = c.in-Ok-hand_one.ensures.awaits;
      later = omega (arith, c.handing.invariant.later, c.hand_one-in-handing.ensures.later);
      calm = c.in-Ok-hand_one.ensures.calm ∙ c.handing.invariant.calm;
      aside = c.hand_one-in-handing.ensures.aside ∙ c.handing.invariant.aside;
    }

pub returns-in-Err-hand_one-clause-err : goal.returns-in-Err-hand_one-clause-err
returns-in-Err-hand_one-clause-err g c =
    not_handed_after c.args.chunked _ _ c.args.bytes.now _ _ _ _ _ _ _ c.in-Err-hand_one.stop (rose_same _ _ _ c.handing.invariant.calm)
    (slice_split c.handing.at c.args.bytes.now) c.handing.invariant.hands c.in-Err-hand_one.ensures.err
