-- What an answer of a bay leaves.
use Rattle.std.specs.Prelude.{ℕ, Bool, true, ◌&&◌, if◌then◌else◌, List, Option, Some, None, ⊤}
use Rattle.audit_core.specs.Answer.{status_of}
use Rattle.audit_core.specs.declared.link_note.LinkNote.{LinkNote}
use Rattle.audit_core.specs.declared.routed.Handling.{Handling}
use Rattle.front_base.specs.declared.stage.Stage.TheVariants.{ResponseComplete}
use Rattle.model_offers.specs.Turns.{SettledTo}
use Rattle.stage_event.specs.declared.facts.Kept.{Kept}
use Rattle.model_worlds.specs.Setup.{Setup}
use Rattle.model_worlds.specs.Steps.{can_finish, due, finished_with, handling_in, is_ready}
use Rattle.model_worlds.specs.declared.state.Exchange.{Exchange}
use Rattle.model_worlds.specs.declared.state.Open.{Open}
use Rattle.model_worlds.specs.declared.state.Shared.{Shared}

-- an exchange was answered with that status and body
abbrev pub finished_by : Setup → LinkNote → ℕ → Kept → ℕ → Open → Open
finished_by setup link status reply moment o =
    let facts = record o.exchange.facts { status = status; reply = reply; complete = moment } in
    record {
      exchange = record o.exchange { facts = facts; link = link };
      phase = record o.phase { finished = true; last = moment };
      waiting = due setup ResponseComplete o.exchange.level facts;
    }

-- it was answered as it was handled, and settled
abbrev pub FinishesCurrent : Setup → Handling → LinkNote → Kept → ℕ → List Exchange → Option Open → List Exchange
    → Option Open → Type 0
FinishesCurrent setup handling link reply moment closed None new_closed current = ⊤
FinishesCurrent setup handling link reply moment closed (Some o) new_closed current =
    SettledTo (finished_with setup handling link reply moment o) closed new_closed current

-- how an exchange is handled, where it can be answered so
abbrev pub answer_to : Setup → LinkNote → ℕ → Shared → Option Open → Option Handling
answer_to setup link moment sh None = None
answer_to setup link moment sh (Some o) =
    if is_ready o moment && can_finish o.exchange.level o (status_of (handling_in setup sh o) link)
    then Some (handling_in setup sh o)
    else None
