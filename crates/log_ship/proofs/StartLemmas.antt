-- How a run begins.
use Rattle.std.proofs.Common.{List, subst}
use Rattle.front_base.specs.Line.{Line}
use Rattle.log_ship.specs.Chains.{Side, Posted}
use Rattle.retry_throttle.specs.Buckets.{Level, full}
use Rattle.retry_throttle.specs.Shippings.{Ships}
use Rattle.retry_throttle.specs.declared.sent.Sent.{Sent}
use Rattle.log_ship.specs.Paces.{Told, Begins, rules_of}
use Rattle.log_ship.specs.declared.pace.ShipPace.{ShipPace}

-- all batches of a run are sent over a bucket that was full at its first moment
pub from_full : (pace : ShipPace) (old : Told) (start stop : Side) (batches : List (List Line)) (ends : List Sent) (begins : Begins pace old start)
    → (posted : Posted (rules_of pace) start batches ends stop)
    → Ships (rules_of pace) start.sink.text (full pace.rate pace.burst begins.first) batches posted.outcomes stop.bucket
from_full pace old start stop batches ends begins posted =
    subst (λ (z : Level). Ships (rules_of pace) start.sink.text z batches posted.outcomes stop.bucket) begins.bucket_is posted.ships
