-- What contracts see of a sender.
use Rattle.std.specs.Prelude.{ℕ, List, Option}
use Rattle.truncate_backend.specs.Tries.{SinkTells}
use Rattle.retry_throttle.specs.Clocks.{clock_tells}
use Rattle.retry_throttle.specs.Senders.{sender_sink, sender_clock, sender_bucket}
use Rattle.retry_throttle.specs.declared.sender.Sender.{Sender}
use Rattle.log_ship.specs.Chains.{Side}

abbrev pub side_of : {B K : Type 0} → (B → SinkTells) → (K → Option (List ℕ)) → (K → ℕ) → (K → ℕ) → Sender B K → Side
side_of tells given last rests sender =
    record { sink = tells (sender_sink sender); clock = clock_tells given last rests (sender_clock sender); bucket = sender_bucket sender }
