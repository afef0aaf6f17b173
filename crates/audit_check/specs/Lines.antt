-- The lines of a log, and the stages that they have of one request.
use Rattle.std.specs.Prelude.{◌≡◌, ℕ, ◌<◌, ◌≤◌, List, Option, Some, None}
use Rattle.std.specs.List.{Contains}
use Rattle.audit_reader.specs.Plain.{Fits, IsPlain}
use Rattle.event_text.specs.Line.{line_text}
use Rattle.front_base.specs.AuditId.{AuditId}
use Rattle.front_base.specs.declared.stage.Stage.{Stage}
use Rattle.front_base.specs.declared.stage.Stage.TheVariants.{RequestReceived, ResponseStarted, ResponseComplete, Panic}
use Rattle.stage_event.specs.declared.event.Event.{Event}

-- the text is the line of a plain event. No two events have one line
pub record IsLine (e : Event) (text : List ℕ) : Type 0 where
  pub fits : Fits e
  pub plain : IsPlain e
  pub spells : line_text e ≡ text

-- the order of stages in the life of a request
abbrev pub rank : Stage → ℕ
rank RequestReceived = 0
rank ResponseStarted = 1
rank ResponseComplete = 2
rank Panic = 3

-- one of the lines is of that stage of the request with that ID
pub record HasStage (lines : List (List ℕ)) (id : AuditId) (stage : Stage) : Type 0 where
  pub event : Event
  pub text : List ℕ
  pub contained : Contains lines text
  pub line : IsLine event text
  pub of_it : event.id ≡ id
  pub at_it : event.stage ≡ stage

-- no line has this stage of the request, or a later one
abbrev pub IsNext : List (List ℕ) → AuditId → Stage → Type 0
IsNext lines id stage = (earlier : Stage) → HasStage lines id earlier → rank earlier < rank stage

-- the last stage that the lines have of the request, if they have any
abbrev pub IsLast : List (List ℕ) → AuditId → Option Stage → Type 0
IsLast lines id None = (stage : Stage) → HasStage lines id stage → ⊥
IsLast lines id (Some last) = HasStage lines id last × ((stage : Stage) → HasStage lines id stage → rank stage ≤ rank last)
