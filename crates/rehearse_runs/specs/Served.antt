-- What was rehearsed: a run of `serve` over memory.
use Rattle.std.specs.Prelude.{◌≡◌, ℕ, List, [], All, Some, IfSome, slice_get}
use Rattle.apiservice_table.specs.declared.table_routes.TableRoutes.{TableRoutes}
use Rattle.front_plants.specs.MemorySinks.{told_openings}
use Rattle.front_plants.specs.Plants.{PlantTells, no_faults}
use Rattle.front_ports.specs.declared.mem_bytes.MemBytes.{MemBytes}
use Rattle.front_ports.specs.declared.mem_clock.MemClock.{MemClock}
use Rattle.front_ports.specs.declared.mem_dial.MemDial.{MemDial}
use Rattle.front_ports.specs.declared.mem_door.MemDoor.{MemDoor}
use Rattle.log_sink.specs.declared.log.LogSink.{LogSink}
use Rattle.shared_runs.specs.Setup.{settings_of, options_of}
use Rattle.rehearse_plan.specs.Planned.{Follows}
use Rattle.rehearse_plan.specs.Words.{Asked}
use Rattle.front_ports.specs.Memory.{MemConn}
use Rattle.rehearse_runs.specs.Handles.{mem_handles}
use Rattle.rehearse_setting.specs.Sent.{IsDue}
use Rattle.rehearse_setting.specs.Setting.{IsConfig, Opens, words_of}
use Rattle.serve_config.specs.declared.config.ServeConfig.{ServeConfig}
use Rattle.serve_runs.specs.Served.{RunServed, run_exchanges}
use Rattle.serve_runs.specs.declared.ended.Ended.{Ended}
use Rattle.session_core.specs.declared.diary.MemDiary.{MemDiary}
use Rattle.truncate_backend.specs.declared.mem_notes.MemNotes.{MemNotes}
use Rattle.webhook_sink.specs.declared.webhook.WebhookSink.{WebhookSink}

-- what a run over memory leaves
abbrev pub MemEnded : Type 0
MemEnded = Ended TableRoutes MemDial (LogSink MemBytes MemNotes) (WebhookSink MemDial MemNotes) MemClock MemDiary MemDoor

-- A run of `serve`, as the words and files of a rehearsal ask for it: by the settings and options that they state, with routes that
-- begin with their APIServices, over a plant that was asked for nothing yet, and by which each bay is due one connection that sends the
-- requests of that bay
pub record WasServed (T : Type 0) (bays : ℕ) (plan : Asked) (ended : MemEnded) : Type 0 where
  pub config : ServeConfig
  pub config_is : IsConfig (words_of plan.count bays) config
  pub tables : List TableRoutes
  pub opens : All (Opens (words_of plan.count bays)) tables
  pub before : PlantTells MemConn
  pub after : PlantTells MemConn
  pub unused : (before.made ≡ Some []) × (before.faults ≡ no_faults)
  pub sent : IsDue plan.start plan.count bays before.due
  pub run : RunServed mem_handles T (settings_of config.words config.loaded) (options_of config.words config.words.listen) told_openings
      before after tables ended

-- each bay of that run had the exchanges that were planned for it, in order
abbrev pub ServedAsPlanned : (T : Type 0) (bays : ℕ) (plan : Asked) (ended : MemEnded) → WasServed T bays plan ended → Type 0
ServedAsPlanned T bays plan ended was =
    (bay : ℕ) → IfSome (slice_get ended.bays.items bay) (λ end. Follows plan.start plan.count bays bay (run_exchanges was.run bay))
