-- How an event is judged, and a line by its event.
use Rattle.std.proofs.Common.{◌≡◌, ℕ, List, Option, Some, None, Result, Ok, Err, refl, sym, ap, ◌∙◌, subst}
use Rattle.front_base.specs.declared.info.Info.{Info}
use Rattle.policy_rules.specs.declared.policy.Policy.{Policy}
use Rattle.stage_event.specs.declared.event.Event.{Event}
use Rattle.event_text.specs.Line.{line_text}
use Rattle.audit_reader.specs.Plain.{Fits, IsPlain, Reads}
use Rattle.event_members.specs.declared.fault.EventFault.{EventFault}
use Rattle.event_members.specs.declared.fault.EventFault.TheVariants as reader
use Rattle.audit_check.specs.Agreement.{info_of, decision_on, IsInPlace, IsDecided}
use Rattle.audit_check.specs.Conforms.{JudgesEvent, FailsBy, Fails, Orders, fault_of}
use Rattle.audit_check.specs.Lines.{IsLine}
use Rattle.audit_check.specs.Seen.{Seen, last_seen}
use Rattle.audit_check.specs.declared.fault.LineFault.{LineFault}
use Rattle.audit_check.specs.declared.fault.LineFault.TheVariants as fault

-- an event that agrees with its request and the policy is judged by its stage
pub ordered : (policy : Policy) (seen : Seen) (info : Info) (e : Event) (r : Result (Unit {0}) LineFault) → IsInPlace info e → IsDecided (decision_on policy info e) e → Orders (last_seen seen e.id) e.stage r → JudgesEvent policy seen info e r
ordered policy seen info e (Ok done) p d o = record { in_place = p; decided = d; after = o }
ordered policy seen info e (Err fault.Form) p d o = absurd o
ordered policy seen info e (Err fault.Place) p d o = absurd o
ordered policy seen info e (Err (fault.Level decision)) p d o = absurd o
ordered policy seen info e (Err (fault.Stage last)) p d o = record { in_place = p; decided = d; not_after = o }
ordered policy seen info e (Err fault.NoMemory) p d o = absurd o

-- a line fails as its event does
pub fails_as : (policy : Policy) (seen : Seen) (text : List ℕ) (e : Event) (f : LineFault) → IsLine e text → FailsBy policy seen (info_of e) e f → Fails policy seen text f
fails_as policy seen text e fault.Form line h = absurd h
fails_as policy seen text e fault.Place line h = record { event = e; line = line; fails = h }
fails_as policy seen text e (fault.Level decision) line h = record { event = e; line = line; fails = h }
fails_as policy seen text e (fault.Stage last) line h = record { event = e; line = line; fails = h }
fails_as policy seen text e fault.NoMemory line h = tt

-- a text that wasn't read
pub unread : (policy : Policy) (seen : Seen) (text : List ℕ) (f : EventFault) → ((e : Event) → Fits e → IsPlain e → line_text e ≡ text → Reads (Err f) e) → Fails policy seen text (fault_of f)
unread policy seen text reader.NotAnEvent h = λ e line. h e line.fits line.plain line.spells
unread policy seen text reader.NoMemory h = tt
