-- Whether the lines of an audit log conform to a policy (Kubernetes, "Auditing").
use Rattle.std.specs.Prelude.{◌≡◌, ℕ, ◌≤◌, ◌<◌, List, [], ◌∷◌, ◌++◌, Option, Some, None, Result, Ok, Err}
use Rattle.front_base.specs.AuditId.{AuditId}
use Rattle.front_base.specs.declared.info.Info.{Info}
use Rattle.front_base.specs.declared.stage.Stage.{Stage}
use Rattle.policy_rules.specs.declared.decision.Decision.{Decision}
use Rattle.policy_rules.specs.declared.policy.Policy.{Policy}
use Rattle.stage_event.specs.declared.event.Event.{Event}
use Rattle.event_members.specs.declared.fault.EventFault.{EventFault}
use Rattle.event_members.specs.declared.fault.EventFault.TheVariants as reader
use Rattle.audit_check.specs.Agreement.{info_of, IsInPlace, IsDecided, decision_on}
use Rattle.audit_check.specs.Lines.{IsLine, IsNext, IsLast, rank}
use Rattle.audit_check.specs.Seen.{Seen, Checked, last_seen}
use Rattle.audit_check.specs.declared.checker.Mark.{Mark}
use Rattle.audit_check.specs.declared.fault.LineFault.{LineFault}
use Rattle.audit_check.specs.declared.fault.LineFault.TheVariants as fault

-- A line conforms after others: it is the line of an event, which agrees with its request and with the policy, and no
-- line before it has its stage of this request or a later one.
pub record Conforms (policy : Policy) (before : List (List ℕ)) (text : List ℕ) : Type 0 where
  pub event : Event
  pub line : IsLine event text
  pub in_place : IsInPlace (info_of event) event
  pub decided : IsDecided (decision_on policy (info_of event) event) event
  pub next : IsNext before event.id event.stage

-- each line conforms after those before it
abbrev pub AllConform : Policy → List (List ℕ) → List (List ℕ) → Type 0
AllConform policy before [] = Unit {0}
AllConform policy before (text ∷ lines) = Conforms policy before text × AllConform policy (before ++ text ∷ []) lines

-- ---- what is answered of a line

-- a text that is no event's line is out of form
abbrev pub fault_of : EventFault → LineFault
fault_of reader.NotAnEvent = fault.Form
fault_of reader.NoMemory = fault.NoMemory

-- it is of this event, which doesn't agree with its request
pub record IsMisplaced (text : List ℕ) : Type 0 where
  pub event : Event
  pub line : IsLine event text
  pub not_in_place : ¬ (IsInPlace (info_of event) event)

-- it is of this event, which agrees with its request, but not with what the policy decides
pub record IsUndecided (policy : Policy) (text : List ℕ) (decision : Decision) : Type 0 where
  pub event : Event
  pub line : IsLine event text
  pub in_place : IsInPlace (info_of event) event
  pub chosen : decision ≡ decision_on policy (info_of event) event
  pub not_decided : ¬ (IsDecided decision event)

-- it is of this event, which agrees with its request and the policy, but lines before it came as far: to this stage
pub record IsLate (policy : Policy) (before : List (List ℕ)) (text : List ℕ) (reached : Stage) : Type 0 where
  pub event : Event
  pub line : IsLine event text
  pub in_place : IsInPlace (info_of event) event
  pub decided : IsDecided (decision_on policy (info_of event) event) event
  pub last : IsLast before event.id (Some reached)
  pub late : rank event.stage ≤ rank reached

-- The answer is the one that is due: the first of the reasons why the line doesn't conform, in this order, unless
-- memory ran out.
abbrev pub Judges : Policy → List (List ℕ) → List ℕ → Result (Unit {0}) LineFault → Type 0
Judges policy before text (Ok done) = Conforms policy before text
Judges policy before text (Err fault.Form) = (e : Event) → ¬ (IsLine e text)
Judges policy before text (Err fault.Place) = IsMisplaced text
Judges policy before text (Err (fault.Level decision)) = IsUndecided policy text decision
Judges policy before text (Err (fault.Stage last)) = IsLate policy before text last
Judges policy before text (Err fault.NoMemory) = Unit {0}

-- memory didn't run out
abbrev pub IsKnown : Result (Unit {0}) LineFault → Type 0
IsKnown (Ok done) = Unit {0}
IsKnown (Err fault.Form) = Unit {0}
IsKnown (Err fault.Place) = Unit {0}
IsKnown (Err (fault.Level decision)) = Unit {0}
IsKnown (Err (fault.Stage last)) = Unit {0}
IsKnown (Err fault.NoMemory) = ⊥

-- the checker has accepted these lines, and no others
pub record HasAccepted (policy : Policy) (before : List (List ℕ)) (checked : Checked) : Type 0 where
  pub same : checked.policy ≡ policy
  pub last : (id : AuditId) → IsLast before id (last_seen checked.seen id)

-- ---- for private clauses

-- the stage comes after the last one
abbrev pub ComesAfter : Option Stage → Stage → Type 0
ComesAfter None stage = Unit {0}
ComesAfter (Some last) stage = rank last < rank stage

-- the stage doesn't come after this one, which is the last
pub record IsNotAfter (seen : Option Stage) (stage reached : Stage) : Type 0 where
  pub last : seen ≡ Some reached
  pub late : rank stage ≤ rank reached

-- whether a stage comes after the last one is answered so
abbrev pub Orders : Option Stage → Stage → Result (Unit {0}) LineFault → Type 0
Orders seen stage (Ok done) = ComesAfter seen stage
Orders seen stage (Err fault.Form) = ⊥
Orders seen stage (Err fault.Place) = ⊥
Orders seen stage (Err (fault.Level decision)) = ⊥
Orders seen stage (Err (fault.Stage last)) = IsNotAfter seen stage last
Orders seen stage (Err fault.NoMemory) = ⊥

-- the event passes, given what its request asked for
pub record Passes (policy : Policy) (seen : Seen) (info : Info) (e : Event) : Type 0 where
  pub in_place : IsInPlace info e
  pub decided : IsDecided (decision_on policy info e) e
  pub after : ComesAfter (last_seen seen e.id) e.stage

-- it fails by its level or its stage
pub record FailsByLevel (policy : Policy) (info : Info) (e : Event) (decision : Decision) : Type 0 where
  pub in_place : IsInPlace info e
  pub chosen : decision ≡ decision_on policy info e
  pub not_decided : ¬ (IsDecided decision e)

pub record FailsByStage (policy : Policy) (seen : Seen) (info : Info) (e : Event) (before : Stage) : Type 0 where
  pub in_place : IsInPlace info e
  pub decided : IsDecided (decision_on policy info e) e
  pub not_after : IsNotAfter (last_seen seen e.id) e.stage before

abbrev pub FailsBy : Policy → Seen → Info → Event → LineFault → Type 0
FailsBy policy seen info e fault.Form = ⊥
FailsBy policy seen info e fault.Place = ¬ (IsInPlace info e)
FailsBy policy seen info e (fault.Level decision) = FailsByLevel policy info e decision
FailsBy policy seen info e (fault.Stage before) = FailsByStage policy seen info e before
FailsBy policy seen info e fault.NoMemory = Unit {0}

abbrev pub JudgesEvent : Policy → Seen → Info → Event → Result (Unit {0}) LineFault → Type 0
JudgesEvent policy seen info e (Ok done) = Passes policy seen info e
JudgesEvent policy seen info e (Err f) = FailsBy policy seen info e f

-- the line of an event that passes
pub record IsMark (policy : Policy) (seen : Seen) (text : List ℕ) (mark : Mark) : Type 0 where
  pub event : Event
  pub line : IsLine event text
  pub passes : Passes policy seen (info_of event) event
  pub id : mark.id ≡ event.id
  pub stage : mark.stage ≡ event.stage

-- the line of an event that fails
pub record FailsAs (policy : Policy) (seen : Seen) (text : List ℕ) (f : LineFault) : Type 0 where
  pub event : Event
  pub line : IsLine event text
  pub fails : FailsBy policy seen (info_of event) event f

abbrev pub Fails : Policy → Seen → List ℕ → LineFault → Type 0
Fails policy seen text fault.Form = (e : Event) → ¬ (IsLine e text)
Fails policy seen text fault.Place = FailsAs policy seen text fault.Place
Fails policy seen text (fault.Level decision) = FailsAs policy seen text (fault.Level decision)
Fails policy seen text (fault.Stage before) = FailsAs policy seen text (fault.Stage before)
Fails policy seen text fault.NoMemory = Unit {0}

abbrev pub Marks : Policy → Seen → List ℕ → Result Mark LineFault → Type 0
Marks policy seen text (Ok mark) = IsMark policy seen text mark
Marks policy seen text (Err f) = Fails policy seen text f
