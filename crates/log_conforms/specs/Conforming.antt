-- What an auditor may rely on who checks the log of a whole run (Kubernetes, "Auditing": audit backends).
use Rattle.std.specs.Prelude.{◌≡◌, ℕ, List, [], slice_get, Option, Some, None}
use Rattle.audit_check.specs.Conforms.{AllConform}
use Rattle.audit_core.specs.declared.settings.Settings.{Settings}
use Rattle.audit_core.specs.declared.sinks.Sink.{Sink}
use Rattle.bay_logs.specs.Woven.{texts}
use Rattle.front_base.specs.Line.{Line}
use Rattle.front_plants.specs.Fresh.{SinkOpens}
use Rattle.serve_bays.specs.declared.options.RunOptions.{RunOptions}
use Rattle.policy_rules.specs.declared.policy.Policy.{Policy}
use Rattle.run_laws.specs.Told.{BatchesTell}
use Rattle.serve_roles.specs.Doors.{BayHandles}
use Rattle.serve_roles.specs.declared.bay_end.BayEnd.{BayEnd}
use Rattle.session_core.specs.declared.exchange.Exchange.{Exchange}
use Rattle.shared_queue.specs.Bays.{of_bay}
use Rattle.sink_lanes.specs.declared.ending.SinkEnd.{SinkEnd}
use Rattle.truncate_backend.specs.Tries.{Try, done_of, lines_of}
use Rattle.truncate_backend.specs.declared.sink.BatchSink as sinks

-- the lines of these tries, joined, conform to the policy, and so do those that were written
pub record TriesConform (policy : Policy) (tries : List Try) : Type 0 where
  pub tried : AllConform policy [] (texts (lines_of tries))
  pub written : AllConform policy [] (texts (done_of tries))

-- the run is told by tries of the sink's drainer, and these conform
pub record BatchesConform {R L N W H K Y D C S : Type 0} (h : BayHandles R L N W H K Y D C) (s : sinks.Ghosts S) (opens : SinkOpens) (set : Settings) (sink : Sink)
    (options : RunOptions) (allots : List ℕ) (xs : ℕ → List Exchange) (bays : List (BayEnd R L K Y D)) (end : SinkEnd S K) : Type 0 where
  pub told : BatchesTell h s opens set sink options allots xs bays end
  pub conform : TriesConform set.policy told.tries

-- these are the lines of a bay's own sink, which tells its tries. Where there is no such sink, there are none
abbrev pub AreTried : {S : Type 0} → sinks.Ghosts S → Option S → List Line → Type 0
AreTried s None lines = lines ≡ []
AreTried s (Some to) lines = (tries : List Try) × ((s.tells to).tries ≡ Some tries) × (lines ≡ lines_of tries)

-- the lines that bays put to sinks of their own, in any order of the bays' turns
abbrev pub AreTriedByBays : {S : Type 0} → sinks.Ghosts S → List S → List Line → Type 0
AreTriedByBays s own lines = (bay : ℕ) → AreTried s (slice_get own bay) (of_bay bay lines)
