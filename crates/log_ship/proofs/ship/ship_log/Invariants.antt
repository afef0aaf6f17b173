use Rattle.std.proofs.Common.{◌≡◌, ◌≤◌, ◌-◌}
use Rattle.front_base.specs.declared.audit_id.TheConstants.{MOST_REQUESTS}
use Rattle.log_ship.specs.Shipped.{SoFar}
use Rattle.log_ship.specs.Sides.{side_of}
use Rattle.retry_throttle.specs.Senders.{sender_bucket, sender_clock, sender_rules}
use Rattle.log_ship.proofs.ship.ship_log.Given as goal

abbrev pub invariant-shipping : goal.invariant-shipping
invariant-shipping g l = record {
  so_far : SoFar (record { limits = l.fn.limits; rules = sender_rules l.fn.sender }) (side_of g.B.BatchSink.tells g.K.Clock.given g.K.Clock.last g.K.Clock.rests l.fn.sender)
      (g.S.Source.left l.fn.input) (g.S.Source.left l.input) l.fn.before l.lines l.buffer l.batch l.tally (side_of g.B.BatchSink.tells g.K.Clock.given g.K.Clock.last g.K.Clock.rests l.sender);
  few : l.lines ≤ MOST_REQUESTS;
  behind : (sender_bucket l.sender).last ≤ g.K.Clock.last (sender_clock l.sender);
  rules : sender_rules l.sender ≡ sender_rules l.fn.sender;
  later : g.S.Source.read_faults l.fn.input ≤ g.S.Source.read_faults l.input;
  calm : g.S.Source.read_faults l.input ≡ g.S.Source.read_faults l.fn.input;
}

abbrev pub decreases-shipping : goal.decreases-shipping
decreases-shipping g l = MOST_REQUESTS - l.lines
