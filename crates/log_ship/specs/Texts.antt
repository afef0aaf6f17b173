-- The lines that can be shipped.
use Rattle.std.specs.Prelude.{◌≡◌, ◌⊎◌, ℕ, List}
use Rattle.audit_reader.specs.Plain.{Fits, IsPlain}
use Rattle.event_text.specs.Line.{line_text}
use Rattle.json_span.specs.Value.{IsText}
use Rattle.stage_event.specs.declared.event.Event.{Event}
use Rattle.log_ship.specs.declared.texts.LineFault.{LineFault}
use Rattle.log_ship.specs.declared.texts.LineFault.TheVariants as faults

-- the line of a plain audit event, as `serve` and `explain` write it. Its objects may nest as deep as a JSON text may, so the line one deeper
pub record IsEventLine (line : List ℕ) : Type 0 where
  pub event : Event
  pub fits : Fits event
  pub plain : IsPlain event
  pub line_is : line_text event ≡ line

-- a JSON text, or the line of an event
abbrev pub IsShippable : List ℕ → Type 0
IsShippable line = IsText line ⊎ IsEventLine line

-- why it is not known to be one: it isn't, or memory ran out
abbrev pub RefusedFor : Type 0 → LineFault → Type 0
RefusedFor P faults.NotShippable = ¬ P
RefusedFor P faults.NoMemory = Unit {0}
