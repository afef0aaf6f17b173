-- What a whole run leaves to read, and the bytes of its sinks by that (Kubernetes, "Auditing": audit backends).
use Rattle.std.specs.Prelude.{◌≡◌, ◌==◌, ℕ, Bool, if◌then◌else◌, List, [], ◌∷◌, ◌++◌, map, take, drop, Option, Some, None, option_map, IfSome}
use Rattle.audit_core.specs.declared.offers.Outcome.{Outcome}
use Rattle.audit_core.specs.declared.settings.Settings.{Settings}
use Rattle.audit_core.specs.declared.sinks.Sink.{Sink}
use Rattle.audit_core.specs.declared.sinks.Sink.TheVariants.{Log, Webhook}
use Rattle.audit_core.specs.declared.sinks.SinkMode.{SinkMode}
use Rattle.audit_core.specs.declared.sinks.SinkMode.TheVariants.{Off, Batch, Blocking, Strict}
use Rattle.event_offers.specs.Taken.{is_taken, is_tried}
use Rattle.front_base.specs.Line.{Line}
use Rattle.front_plants.specs.Fresh.{Openings}
use Rattle.front_plants.specs.Plants.{PlantTells}
use Rattle.log_sink.specs.Texts.{log_text}
use Rattle.serve_bays.specs.declared.options.RunOptions.{RunOptions}
use Rattle.queue_drain.specs.declared.drain_end.DrainEnd.{DrainEnd}
use Rattle.role_threads.specs.Lists.{AllPairs}
use Rattle.run_laws.specs.Told.{lines_by}
use Rattle.serve_roles.specs.Doors.{BayHandles}
use Rattle.serve_runs.specs.Served.{RunServed, run_exchanges}
use Rattle.serve_runs.specs.declared.ended.Ended.{Ended}
use Rattle.session_core.specs.declared.exchange.Exchange.{Exchange}
use Rattle.sink_lanes.specs.declared.ending.SinkEnd.{SinkEnd}
use Rattle.truncate_backend.specs.Tries.{SinkTells, Try, lines_of}
use Rattle.truncate_backend.specs.declared.sink.BatchSink as sinks
use Rattle.truncate_backend.specs.declared.tries.TryNote.{TryNote}
use Rattle.webhook_sink.specs.Hooked.{hook_text}

-- ---- a run to read

-- of a sink: of which bay each line was that it was tried with, in order, and what was noted of its tries
pub record SinkRecord : Type 0 where
  pub turns : List ℕ
  pub notes : List TryNote

-- of a run: the exchanges of each bay, and what there is of each sink of the log and of the webhook, where that tells its tries
pub record RunRecord : Type 0 where
  pub exchanges : ℕ → List Exchange
  pub log : List (Option SinkRecord)
  pub hook : List (Option SinkRecord)

-- ---- the bytes by that

-- lines by turns: with each turn goes the first line that is left of that bay
abbrev pub by_turns : List ℕ → (ℕ → List Line) → List Line
by_turns [] parts = []
by_turns (bay ∷ turns) parts =
    take 1 (parts bay) ++ by_turns turns (λ k. if bay == k then drop 1 (parts k) else parts k)

-- each note cuts a try from the lines, of whose text as many bytes were sent as it says
abbrev pub cut_bytes : (List Line → List ℕ) → List TryNote → List Line → List ℕ
cut_bytes text [] lines = []
cut_bytes text (note ∷ notes) lines = take note.sent (text (take note.lines lines)) ++ cut_bytes text notes (drop note.lines lines)

-- a buffer has the lines of the offers that were taken; a sink that is written to at once was also tried with those that failed
abbrev pub is_put : SinkMode → Outcome → Bool
is_put Off = is_tried
is_put Batch = is_taken
is_put Blocking = is_tried
is_put Strict = is_tried

-- what a sink of that mode was sent, by the exchanges of each bay
abbrev pub bytes_by : (List Line → List ℕ) → SinkMode → Settings → Sink → (ℕ → List Exchange) → SinkRecord → List ℕ
bytes_by text mode set sink xs r = cut_bytes text r.notes (by_turns r.turns (λ bay. lines_by (is_put mode) set sink (xs bay) bay))

-- of each sink of the log, and of the webhook
pub record AuditBytes : Type 0 where
  pub log : List (Option (List ℕ))
  pub hook : List (Option (List ℕ))

-- those of one of the sinks
abbrev pub bytes_for : AuditBytes → Sink → List (Option (List ℕ))
bytes_for bytes Log = bytes.log
bytes_for bytes Webhook = bytes.hook

-- all audit bytes of a run with that record, by its settings and the URL of its webhook
abbrev pub audit_bytes : Settings → List ℕ → RunRecord → AuditBytes
audit_bytes set url run = record {
  log = map (option_map (bytes_by log_text set.log set Log run.exchanges)) run.log;
  hook = map (option_map (bytes_by (hook_text url) set.hook set Webhook run.exchanges)) run.hook;
}

-- ---- the record of a run

abbrev pub turns_of : List Line → List ℕ
turns_of lines = map (λ (l : Line). l.bay) lines

abbrev pub notes_of : List Try → List TryNote
notes_of tries = map (λ (t : Try). t.note) tries

abbrev pub sink_record : List Try → SinkRecord
sink_record tries = record { turns = turns_of (lines_of tries); notes = notes_of tries }

module _ {S K : Type 0} where
  abbrev pub drained : Option (DrainEnd S K) → List S
  drained None = []
  drained (Some drain) = drain.sink ∷ []

  -- its sinks: the drainer's one in mode batch, and each bay's own where lines are written at once
  abbrev pub sinks_of : SinkMode → SinkEnd S K → List S
  sinks_of Off end = []
  sinks_of Batch end = drained end.drain
  sinks_of Blocking end = end.own.items
  sinks_of Strict end = end.own.items

  abbrev pub sink_records : sinks.Ghosts S → SinkMode → SinkEnd S K → List (Option SinkRecord)
  sink_records s mode end = map (λ to. option_map sink_record (s.tells to).tries) (sinks_of mode end)

module _ {R L N W H K Y D C : Type 0} {h : BayHandles R L N W H K Y D C} {T : Type 0} {set : Settings} {options : RunOptions} {opens : Openings}
    {before after : PlantTells C} {tables : List R} {ended : Ended R L W H K Y D} where
  abbrev pub run_record : RunServed h T set options opens before after tables ended → RunRecord
  run_record served = record {
    exchanges = run_exchanges served;
    log = sink_records h.log set.log ended.log;
    hook = sink_records h.hook set.hook ended.hook;
  }

-- where its port told from the first byte on what it was given, and tells it still, and the sink tells its tries: these are the bytes
abbrev pub WasGiven : Option (Option (List ℕ)) → SinkTells → Option (List ℕ) → Type 0
WasGiven opened sink bytes =
    opened ≡ Some (Some []) → (given : List ℕ) → sink.sent ≡ Some (Some given) → IfSome bytes (λ own. given ≡ own)

-- and so of each of these sinks
abbrev pub AreGiven : {S : Type 0} → sinks.Ghosts S → Option (Option (List ℕ)) → List S → List (Option (List ℕ)) → Type 0
AreGiven s opened all bytes = AllPairs (λ to own. WasGiven opened (s.tells to) own) all bytes
