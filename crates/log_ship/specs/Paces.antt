-- How fast lines are shipped.
use Rattle.std.specs.Prelude.{◌≡◌, ◌≤◌, ◌-◌, ◌*◌, ◌^◌, ℕ, [], ◌∷◌}
use Rattle.batch_backend.specs.declared.limits.Limits.{Limits}
use Rattle.log_ship.specs.Chains.{Side}
use Rattle.log_ship.specs.Shipped.{Setup}
use Rattle.retry_throttle.specs.Buckets.{full}
use Rattle.retry_throttle.specs.Clocks.{ClockTells, Passed}
use Rattle.retry_throttle.specs.Sendings.{Rules}
use Rattle.log_ship.specs.declared.pace.ShipPace.{ShipPace}
use Rattle.truncate_backend.specs.Tries.{SinkTells}

-- each number is in its range
pub record IsWithin (pace : ShipPace) : Type 0 where
  pub lines : 1 ≤ pace.max_lines
  pub tries : (1 ≤ pace.tries) × (pace.tries ≤ 10)
  pub rate : (1 ≤ pace.rate) × (pace.rate ≤ 1000)
  pub burst : (1 ≤ pace.burst) × (pace.burst ≤ 1000)
  pub wait : (1 ≤ pace.wait_ms) × (pace.wait_ms ≤ 30000)
  pub from : (1 ≤ pace.from_line) × (pace.from_line ≤ 2 ^ 48)

-- no line of a batch waits for others that may come
abbrev pub limits_of : ShipPace → Limits
limits_of pace = record { lines = pace.max_lines; bytes = pace.max_bytes; wait = 0 }

abbrev pub rules_of : ShipPace → Rules
rules_of pace = record { tries = pace.tries; wait = pace.wait_ms * 1000 }

-- how many lines stand before the first one that is shipped
abbrev pub before_of : ShipPace → ℕ
before_of pace = pace.from_line - 1

abbrev pub setup_of : ShipPace → Setup
setup_of pace = record { limits = limits_of pace; rules = rules_of pace }

-- what a sink and a clock tell
pub record Told : Type 0 where
  pub sink : SinkTells
  pub clock : ClockTells

abbrev pub told_by : SinkTells → ClockTells → Told
told_by sink clock = record { sink = sink; clock = clock }

-- the clock gave one moment, at which the bucket is full; nothing was posted
pub record Begins (pace : ShipPace) (old : Told) (start : Side) : Type 0 where
  pub first : ℕ
  pub moment : Passed old.clock (first ∷ []) 0 start.clock
  pub bucket_is : start.bucket ≡ full pace.rate pace.burst first
  pub sink_is : start.sink ≡ old.sink
