-- A diary in memory has the exchanges of its bay.
use Rattle.std.proofs.Common.{◌≡◌, ℕ, List, [], ◌++◌, Option, Some, None, IfSome, sym, ap, subst}
use Rattle.any_lane.specs.declared.lane.AnyLane.{AnyLane}
use Rattle.apiservice_table.specs.declared.table_routes.TableRoutes.{TableRoutes}
use Rattle.audit_core.specs.declared.settings.Settings.{Settings}
use Rattle.bay_runs.specs.Runs.{exchanges_of}
use Rattle.front_plants.specs.Fresh.{SinkOpens}
use Rattle.front_ports.specs.Told.{Adds}
use Rattle.front_ports.specs.declared.mem_bytes.MemBytes.{MemBytes}
use Rattle.front_ports.specs.declared.mem_clock.MemClock.{MemClock}
use Rattle.front_ports.specs.declared.mem_dial.MemDial.{MemDial}
use Rattle.front_ports.specs.declared.mem_door.MemDoor.{MemDoor}
use Rattle.log_sink.specs.declared.log.LogSink.{LogSink}
use Rattle.rehearse_plan.specs.Planned.{Follows}
use Rattle.front_ports.specs.Memory.{MemConn}
use Rattle.rehearse_runs.specs.Handles.{mem_handles}
use Rattle.serve_roles.specs.declared.bay_end.BayEnd.{BayEnd}
use Rattle.serve_runs.specs.Served.{BayServed, exchanges_if}
use Rattle.session_core.specs.Bays.{BayState}
use Rattle.session_core.specs.Diaries.{noted}
use Rattle.session_core.specs.declared.diary.MemDiary.{MemDiary}
use Rattle.session_core.specs.declared.exchange.Exchange.{Exchange}
use Rattle.truncate_backend.specs.declared.mem_notes.MemNotes.{MemNotes}
use Rattle.webhook_sink.specs.declared.webhook.WebhookSink.{WebhookSink}

-- a diary that was empty, and tells its notes at the end
notes_are : (old new : Option (List Exchange)) (more own : List Exchange) → IfSome old (λ z. z ≡ []) → Adds old new more → new ≡ Some own → own ≡ more
notes_are None new more own f g e = absurd cc
notes_are (Some w) new more own f g e =
    let is : own ≡ w ++ more = cc in
    subst (λ z. own ≡ z ++ more) f is

module _ {T : Type 0} (set : Settings) (log_new hook_new : SinkOpens) (boot : ℕ) (due : ℕ → Option (List MemConn)) (tables : List TableRoutes)
    (logs : List (AnyLane (LogSink MemBytes MemNotes) T)) (hooks : List (AnyLane (WebhookSink MemDial MemNotes) T)) where
  pub as_planned : (start count bays bay : ℕ) (o : Option (BayEnd TableRoutes MemDial MemClock MemDiary MemDoor))
      (s : IfSome o (BayServed mem_handles set log_new hook_new boot due tables logs hooks bay))
      → IfSome o (λ end. Follows start count bays bay (noted end.diary))
      → IfSome o (λ end. Follows start count bays bay (exchanges_if mem_handles set log_new hook_new boot due tables logs hooks bay o s))
  as_planned start count bays bay None s f = tt
  as_planned start count bays bay (Some end) s f =
      subst (Follows start count bays bay)
      (notes_are s.m.notes s.n.notes (exchanges_of s.runs.all) (noted end.diary) s.opens.diary s.told.noted (ap (λ (n : BayState). n.notes) s.ends)) f
