-- Lines that can be shipped.
use Rattle.std.proofs.Common.{◌≡◌, ◌⊎◌, ⊎_elim, inl, inr, ℕ, List, Result, Ok, Err, IfErr, OnOk}
use Rattle.std.specs.Prelude.{⊤}
use Rattle.audit_reader.specs.Plain.{Fits, IsPlain}
use Rattle.event_text.specs.Line.{line_text}
use Rattle.json_span.specs.Value.{IsText}
use Rattle.stage_event.specs.declared.event.Event.{Event}
use Rattle.log_ship.specs.Texts.{IsEventLine, IsShippable, RefusedFor}
use Rattle.log_ship.specs.declared.texts.LineFault.{LineFault}
use Rattle.log_ship.specs.declared.texts.LineFault.TheVariants as faults

pub is_event : (line : List ℕ) (e : Event) → Fits e → IsPlain e → line_text e ≡ line → IsEventLine line
is_event line e fits plain same = record { event = e; fits = fits; plain = plain; line_is = same }

pub no_event : (line : List ℕ) → ((e : Event) → Fits e → IsPlain e → line_text e ≡ line → ⊥) → ¬ (IsEventLine line)
no_event line none h = none h.event h.fits h.plain h.line_is

refused : (line : List ℕ) → (¬ (IsText line)) → (fault : LineFault) → RefusedFor (IsEventLine line) fault → RefusedFor (IsShippable line) fault
refused line t faults.NotShippable e = λ h. ⊎_elim t e h
refused line t faults.NoMemory e = tt

-- what no JSON text is can be shipped where it is an event's line
pub by_event : {T : Type 0} (line : List ℕ) (r : Result T LineFault) → OnOk r (IsEventLine line) → OnOk r (IsShippable line)
by_event line (Ok u) h = inr h
by_event line (Err fault) h = tt

pub by_no_event : {T : Type 0} (line : List ℕ) (r : Result T LineFault) → (¬ (IsText line)) → IfErr r (RefusedFor (IsEventLine line))
    → IfErr r (RefusedFor (IsShippable line))
by_no_event line (Ok u) t h = tt
by_no_event line (Err fault) t h = refused line t fault h
