-- That a run is the one that was planned.
use Rattle.std.specs.Prelude.{◌≡◌, ℕ, List, length, slice_get, IfSome, is_some, true}
use Rattle.queue_drain.specs.declared.drain_end.DrainEnd.{DrainEnd}
use Rattle.rehearse_plan.specs.Planned.{Follows}
use Rattle.rehearse_plan.specs.Summary.{line_count}
use Rattle.serve_runs.specs.declared.ended.Ended.{Ended}
use Rattle.serve_runs.specs.declared.ended.RunStatus.TheVariants.{Done}
use Rattle.session_core.specs.declared.exchange.Exchange.{Exchange}

-- a drainer wrote a line for each event, and lost none
pub record HasWritten {S K : Type 0} (start count : ℕ) (drain : DrainEnd S K) : Type 0 where
  pub written : drain.written ≡ line_count start count
  pub none_lost : drain.lost ≡ 0

-- each bay has the exchanges of its requests, in order, each as it was planned; and the webhook has the lines of all events
pub record Agrees {R L W H K Y D : Type 0} (told : Y → List Exchange) (start count bays : ℕ) (ended : Ended R L W H K Y D) : Type 0 where
  pub done : ended.status ≡ Done
  pub all : length ended.bays.items ≡ bays
  pub each : (bay : ℕ) → IfSome (slice_get ended.bays.items bay) (λ end. Follows start count bays bay (told end.diary))
  pub lines : IfSome ended.hook.drain (HasWritten start count)
  pub drained : is_some ended.hook.drain ≡ true
