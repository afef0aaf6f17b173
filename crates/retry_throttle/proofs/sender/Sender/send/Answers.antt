use Rattle.std.proofs.Common.{◌≡◌, ◌∙◌, ◌+◌, suc, ap, subst, arith, true, false}
use Rattle.retry_throttle.specs.Clocks.{clock_tells}
use Rattle.retry_throttle.specs.Pauses.{next_wait, wait_after}
use Rattle.retry_throttle.specs.Senders.{sender_sink, sender_clock, sender_bucket, sender_rules}
use Rattle.retry_throttle.specs.Sendings.{Rules, Waited}
use Rattle.retry_throttle.proofs.PostLemmas.{delivered, given_up, posts_more, throttled}
use Rattle.retry_throttle.proofs.sender.Sender.send.Goals as goal

pub returns-then-not-wait_for_turn-clause-sends : goal.returns-then-not-wait_for_turn-clause-sends
returns-then-not-wait_for_turn-clause-sends g c =
    let clock = clock_tells g.K.Clock.given g.K.Clock.last g.K.Clock.rests in
    let tells = g.B.BatchSink.tells in
    let s = c.args.self.now in
    let i = c.posting.invariant in
    throttled (sender_rules s) c.args.lines.now (sender_bucket s) (tells (sender_sink s)) (clock (sender_clock s)) c.posting.posts (sender_bucket c.posting.self)
    (tells (sender_sink c.posting.self)) (clock (sender_clock c.posting.self)) i.posts c.wait_for_turn.new.bucket (clock c.wait_for_turn.new.clock)
    (subst (λ w. Waited w (sender_bucket c.posting.self) (clock (sender_clock c.posting.self)) false c.wait_for_turn.new.bucket (clock c.wait_for_turn.new.clock)) i.wait
    c.if-not-wait_for_turn.ensures.waited)

pub returns-in-Ok-clause-sends : goal.returns-in-Ok-clause-sends
returns-in-Ok-clause-sends g c =
    let clock = clock_tells g.K.Clock.given g.K.Clock.last g.K.Clock.rests in
    let tells = g.B.BatchSink.tells in
    let s = c.args.self.now in
    let i = c.posting.invariant in
    delivered (sender_rules s) c.args.lines.now (sender_bucket s) (tells (sender_sink s)) (clock (sender_clock s)) c.posting.posts (sender_bucket c.posting.self)
    (tells (sender_sink c.posting.self)) (clock (sender_clock c.posting.self)) i.posts c.wait_for_turn.new.bucket (clock c.wait_for_turn.new.clock)
    (subst (λ w. Waited w (sender_bucket c.posting.self) (clock (sender_clock c.posting.self)) true c.wait_for_turn.new.bucket (clock c.wait_for_turn.new.clock)) i.wait
    c.if-not-wait_for_turn.ensures.waited)
    (tells c.put.new.self) c.in-Ok.ensures

pub returns-then-posts-tries-clause-sends : goal.returns-then-posts-tries-clause-sends
returns-then-posts-tries-clause-sends g c =
    let clock = clock_tells g.K.Clock.given g.K.Clock.last g.K.Clock.rests in
    let tells = g.B.BatchSink.tells in
    let s = c.args.self.now in
    let i = c.posting.invariant in
    let e : (sender_rules c.posting.self).tries ≡ (sender_rules s).tries = ap (λ (r : Rules). r.tries) i.rules in
    given_up (sender_rules s) c.args.lines.now (sender_bucket s) (tells (sender_sink s)) (clock (sender_clock s)) c.posting.posts (sender_bucket c.posting.self)
    (tells (sender_sink c.posting.self)) (clock (sender_clock c.posting.self)) i.posts c.wait_for_turn.new.bucket (clock c.wait_for_turn.new.clock)
    (subst (λ w. Waited w (sender_bucket c.posting.self) (clock (sender_clock c.posting.self)) true c.wait_for_turn.new.bucket (clock c.wait_for_turn.new.clock)) i.wait
    c.if-not-wait_for_turn.ensures.waited)
    (tells c.put.new.self) c.in-Err.last c.in-Err.ensures (omega (arith, c.if-posts-tries.true, e))

pub posting-preserved : goal.posting-preserved
posting-preserved g c =
    let clock = clock_tells g.K.Clock.given g.K.Clock.last g.K.Clock.rests in
    let tells = g.B.BatchSink.tells in
    let s = c.args.self.now in
    let i = c.posting.invariant in
    let e : (sender_rules c.posting.self).tries ≡ (sender_rules s).tries = ap (λ (r : Rules). r.tries) i.rules in
    let few = i.posts.few in
    record {
      posts = posts_more (sender_rules s) c.args.lines.now (sender_bucket s) (tells (sender_sink s)) (clock (sender_clock s)) c.posting.posts
          (sender_bucket c.posting.self) (tells (sender_sink c.posting.self)) (clock (sender_clock c.posting.self)) i.posts c.wait_for_turn.new.bucket
          (clock c.wait_for_turn.new.clock)
          (subst (λ w. Waited w (sender_bucket c.posting.self) (clock (sender_clock c.posting.self)) true c.wait_for_turn.new.bucket (clock c.wait_for_turn.new.clock)) i.wait
          c.if-not-wait_for_turn.ensures.waited)
          (tells c.put.new.self) c.in-Err.last c.in-Err.ensures (omega (arith, c.if-posts-tries.false, few));
      behind = c.wait_for_turn.ensures.behind;
      rules = i.rules;
      wait =
          let e : suc c.posting.posts ≡ c.posting.posts + 1 = omega arith in
          c.next_wait-wait.ensures ∙ (ap (next_wait (sender_rules s).wait) i.wait ∙ ap (wait_after (sender_rules s).wait) e);
    }
