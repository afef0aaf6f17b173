use Rattle.std.proofs.Common.{◌≡◌, ◌≤◌, ◌-◌}
use Rattle.retry_throttle.specs.Clocks.{clock_tells}
use Rattle.retry_throttle.specs.Pauses.{wait_after}
use Rattle.retry_throttle.specs.Senders.{sender_sink, sender_clock, sender_bucket, sender_rules}
use Rattle.retry_throttle.specs.Sendings.{Posts}
use Rattle.retry_throttle.proofs.sender.Sender.send.Given as goal

abbrev pub invariant-posting : goal.invariant-posting
invariant-posting g l = record {
  posts : Posts (sender_rules l.fn.self) l.fn.lines (sender_bucket l.fn.self) (g.B.BatchSink.tells (sender_sink l.fn.self))
      (clock_tells g.K.Clock.given g.K.Clock.last g.K.Clock.rests (sender_clock l.fn.self))
      l.posts (sender_bucket l.self) (g.B.BatchSink.tells (sender_sink l.self))
      (clock_tells g.K.Clock.given g.K.Clock.last g.K.Clock.rests (sender_clock l.self));
  behind : (sender_bucket l.self).last ≤ g.K.Clock.last (sender_clock l.self);
  rules : sender_rules l.self ≡ sender_rules l.fn.self;
  wait : l.wait ≡ wait_after (sender_rules l.fn.self).wait l.posts;
}

abbrev pub decreases-posting : goal.decreases-posting
decreases-posting g l = (sender_rules l.fn.self).tries - l.posts
