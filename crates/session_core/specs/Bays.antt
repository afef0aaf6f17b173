-- What a bay tells.
use Rattle.std.specs.Prelude.{◌≤◌, ◌+◌, ◌*◌, ℕ, List, Option}
use Rattle.apiservice_rows.specs.Row.{Row}
use Rattle.apiservice_table.specs.declared.change.Change.{Change}
use Rattle.apiservice_table.specs.declared.routes.Routes as routes
use Rattle.audit_core.specs.declared.settings.Settings.{Settings}
use Rattle.event_offers.specs.declared.offering.TheConstants.{MOST_OFFERED}
use Rattle.event_offers.specs.Lanes.{LanesState, lanes_state, AreLanesOf}
use Rattle.event_offers.specs.declared.lanes.Lanes.{Lanes}
use Rattle.exchange_replies.specs.Sent.{DialState}
use Rattle.forward_link.specs.Exchange.{LinkState}
use Rattle.front_base.specs.AuditId.{AuditId}
use Rattle.front_base.specs.declared.audit_id.TheConstants.{MOST_REQUESTS}
use Rattle.front_base.specs.declared.line.TheConstants.{MOST_LINE_BYTES}
use Rattle.front_ports.specs.declared.clock.Clock as clocks
use Rattle.front_ports.specs.declared.dial.Dial as dials
use Rattle.front_ports.specs.declared.stream.ByteSink as byte_sinks
use Rattle.front_ports.specs.declared.stream.Link as links
use Rattle.front_ports.specs.declared.stream.Source as sources
use Rattle.session_core.specs.declared.bay.Bay.{Bay}
use Rattle.session_core.specs.declared.diary.Diary as diaries
use Rattle.session_core.specs.declared.exchange.Exchange.{Exchange}
use Rattle.truncate_backend.specs.declared.lane.Lane as lanes

-- the word of its audit IDs, how many requests it served, the rows before any change, the changes that it has seen and its
-- own ones, its dial and its lanes, the moment that its clock answered last and all that it answered, and its diary
pub record BayState : Type 0 where
  pub boot : ℕ
  pub number : ℕ
  pub opening : List Row
  pub seen : List Change
  pub own : List (ℕ × Change)
  pub dial : DialState
  pub lanes : LanesState
  pub last : ℕ
  pub given : Option (List ℕ)
  pub notes : Option (List Exchange)

-- the lanes of a bay, the moment that its clock answered last, and all that it answered
pub record Recording : Type 0 where
  pub lanes : LanesState
  pub last : ℕ
  pub given : Option (List ℕ)

abbrev pub recording : {A B K : Type 0} → lanes.Ghosts A → lanes.Ghosts B → clocks.Ghosts K → Lanes A B → K → Recording
recording a b k own clock = record { lanes = lanes_state a b own; last = k.last clock; given = k.given clock }

abbrev pub dial_state : {D L : Type 0} → dials.Ghosts D L → D → DialState
dial_state d dial = record { calls = d.calls dial; faults = d.faults dial; link_faults = d.link_faults dial }

abbrev pub link_state : {K : Type 0} → sources.Ghosts K → byte_sinks.Ghosts K → links.Ghosts K → K → LinkState
link_state s b l link = record {
  left = s.left link;
  written = b.written link;
  number = l.number link;
  faults = s.read_faults link + b.write_faults link;
}

abbrev pub bay_state : {R D L A B K Y : Type 0} → routes.Ghosts R → dials.Ghosts D L → lanes.Ghosts A → lanes.Ghosts B
    → clocks.Ghosts K → diaries.Ghosts Y → Bay R D A B K Y → BayState
bay_state r d a b k y own = record {
  boot = own.boot;
  number = own.number;
  opening = r.opening own.routes;
  seen = r.seen own.routes;
  own = r.own own.routes;
  dial = dial_state d own.dial;
  lanes = lanes_state a b own.lanes;
  last = k.last own.clock;
  given = k.given own.clock;
  notes = y.notes own.diary;
}

-- the audit ID of its next request
abbrev pub next_id : BayState → AuditId
next_id m = record { boot = m.boot; bay = m.lanes.bay; number = m.number }

-- it may serve: an event fits in a line, its lanes are those of the sinks that are on, and it has offered to each three lines for
-- each request at most
pub record IsReady (set : Settings) (m : BayState) : Type 0 where
  pub max : set.max_event ≤ MOST_LINE_BYTES
  pub lanes : AreLanesOf set m.lanes
  pub few : m.number ≤ MOST_REQUESTS
  pub log : m.lanes.log.lines ≤ 3 * m.number
  pub hook : m.lanes.hook.lines ≤ 3 * m.number

-- so many events more may be offered
pub record CanOffer (set : Settings) (m : LanesState) (more : ℕ) : Type 0 where
  pub max : set.max_event ≤ MOST_LINE_BYTES
  pub lanes : AreLanesOf set m
  pub log : m.log.lines + more ≤ MOST_OFFERED
  pub hook : m.hook.lines + more ≤ MOST_OFFERED
