-- What contracts see of a sender.
use Rattle.retry_throttle.specs.Buckets.{Level}
use Rattle.retry_throttle.specs.Sendings.{Rules}
use Rattle.retry_throttle.specs.declared.sender.Sender.{Sender}

module _ {B K : Type 0} where
  abbrev pub sender_sink : Sender B K → B
  sender_sink sender = sender.sink

  abbrev pub sender_clock : Sender B K → K
  sender_clock sender = sender.clock

  abbrev pub sender_bucket : Sender B K → Level
  sender_bucket sender = sender.bucket

  abbrev pub sender_rules : Sender B K → Rules
  sender_rules sender = record { tries = sender.tries; wait = sender.wait }
