-- Logs of bays, woven into one.
use Rattle.std.proofs.Common.{◌≡◌, ℕ, ◌==◌, Bool, true, false, List, [], ◌∷◌, ◌++◌, sym, ap, ◌∙◌, arith, subst}
use Rattle.std.specs.Prelude.{if◌then◌else◌}
use Rattle.std.proofs.lemmas.Bool.Decides.{nat_tests}
use Rattle.std.specs.List.{AllByRecursion}
use Rattle.audit_check.specs.Conforms.{Conforms, AllConform}
use Rattle.audit_check.specs.Lines.{IsLine, HasStage}
use Rattle.bay_logs.specs.Woven.{texts}
use Rattle.bay_logs.proofs.PartLemmas.{IsOwnStage, stage_old, stage_new, stage_cases, own_text}
use Rattle.front_base.specs.AuditId.{AuditId}
use Rattle.front_base.specs.Line.{Line}
use Rattle.front_base.specs.declared.stage.Stage.{Stage}
use Rattle.policy_rules.specs.declared.policy.Policy.{Policy}
use Rattle.shared_queue.specs.Bays.{of_bay}
use Rattle.stage_event.specs.declared.event.Event.{Event}

-- the law of the reader: no two events have one line
abbrev pub OneEvent : Type 0
OneEvent = (a b : Event) (text : List ℕ) → IsLine a text → IsLine b text → a ≡ b

-- the text is the line of a request of that bay
pub record IsOfBay (bay : ℕ) (text : List ℕ) : Type 0 where
  pub event : Event
  pub line : IsLine event text
  pub bay_is : event.id.bay ≡ bay

-- a bay's log after its lines before: it conforms, and each of its lines is of a request of that bay
pub record IsLogOf (policy : Policy) (bay : ℕ) (before lines : List (List ℕ)) : Type 0 where
  pub conforms : AllConform policy before lines
  pub own : AllByRecursion (IsOfBay bay) lines

same_number : (n : ℕ) → (n == n) ≡ true
same_number n = grind (arith, nat_tests)

-- what a bay's log is after a line that is or isn't of it
log_after : (b : Bool) (policy : Policy) (bay : ℕ) (before : List (List ℕ)) (line : Line) (lines : List Line)
    → IsLogOf policy bay before (texts (if b then line ∷ lines else lines)) → IsLogOf policy bay (if b then before ++ line.bytes ∷ [] else before) (texts lines)
log_after true policy bay before line lines h = record { conforms = h.conforms.1; own = h.own.1 }
log_after false policy bay before line lines h = h

log_first : (b : Bool) (policy : Policy) (bay : ℕ) (before : List (List ℕ)) (line : Line) (lines : List Line) → b ≡ true
    → IsLogOf policy bay before (texts (if b then line ∷ lines else lines)) → Conforms policy before line.bytes × IsOfBay bay line.bytes
log_first true policy bay before line lines e h = (h.conforms.0, h.own.0)
log_first false policy bay before line lines e h = absurd (cc e)

-- the lines before of each bay have the stages of its requests
abbrev HasAll : List (List ℕ) → (ℕ → List (List ℕ)) → Type 0
HasAll before own = (id : AuditId) (stage : Stage) → HasStage before id stage → HasStage (own id.bay) id stage

has_old : (b : Bool) (lines : List (List ℕ)) (text : List ℕ) (id : AuditId) (stage : Stage) → HasStage lines id stage → HasStage (if b then lines ++ text ∷ [] else lines) id stage
has_old true lines text id stage h = stage_old lines text id stage h
has_old false lines text id stage h = h

has_new : (b : Bool) (lines : List (List ℕ)) (text : List ℕ) (id : AuditId) (stage : Stage) → b ≡ true → IsOwnStage text id stage → HasStage (if b then lines ++ text ∷ [] else lines) id stage
has_new true lines text id stage e h = stage_new lines text id stage h
has_new false lines text id stage e h = absurd (cc e)

same_if : (m n : ℕ) → m ≡ n → (m == n) ≡ true
same_if m n e = subst (λ k. (m == k) ≡ true) e (same_number m)

has_line : OneEvent → (before : List (List ℕ)) (own : ℕ → List (List ℕ)) (line : Line) → HasAll before own → IsOfBay line.bay line.bytes
    → HasAll (before ++ line.bytes ∷ []) (λ bay. if line.bay == bay then own bay ++ line.bytes ∷ [] else own bay)
has_line law before own line all of = λ id stage has.
    stage_cases (HasStage (if line.bay == id.bay then own id.bay ++ line.bytes ∷ [] else own id.bay) id stage) before (line.bytes ∷ []) id stage has
    (λ old. has_old (line.bay == id.bay) (own id.bay) line.bytes id stage (all id stage old))
    (λ new.
    let is : of.event ≡ new.event = law of.event new.event line.bytes of.line (own_text line.bytes id stage new) in
    let bay_is : line.bay ≡ id.bay = sym of.bay_is ∙ (ap (λ (e : Event). e.id.bay) is ∙ ap (λ (i : AuditId). i.bay) new.of_it) in
    has_new (line.bay == id.bay) (own id.bay) line.bytes id stage (same_if line.bay id.bay bay_is) new)

pub woven_after : OneEvent → (policy : Policy) (before : List (List ℕ)) (own : ℕ → List (List ℕ)) (lines : List Line) → HasAll before own
    → ((bay : ℕ) → IsLogOf policy bay (own bay) (texts (of_bay bay lines))) → AllConform policy before (texts lines)
woven_after law policy before own [] all each = tt
woven_after law policy before own (line ∷ lines) all each =
    let first = log_first (line.bay == line.bay) policy line.bay (own line.bay) line (of_bay line.bay lines) (same_number line.bay) (each line.bay) in
    let c = first.0 in
    let of = first.1 in
    let is : of.event ≡ c.event = law of.event c.event line.bytes of.line c.line in
    let bay_is : c.event.id.bay ≡ line.bay = sym (ap (λ (e : Event). e.id.bay) is) ∙ of.bay_is in (
      record {
        event = c.event;
        line = c.line;
        in_place = c.in_place;
        decided = c.decided;
        next = λ earlier has. c.next earlier (subst (λ (bay : ℕ). HasStage (own bay) c.event.id earlier) bay_is (all c.event.id earlier has));
      },
      woven_after law policy (before ++ line.bytes ∷ []) (λ bay. if line.bay == bay then own bay ++ line.bytes ∷ [] else own bay) lines
          (has_line law before own line all of)
          (λ bay. log_after (line.bay == bay) policy bay (own bay) line (of_bay bay lines) (each bay)),
    )

-- lines of bays conform where each bay's do
pub woven_conform : OneEvent → (policy : Policy) (lines : List Line) → ((bay : ℕ) → IsLogOf policy bay [] (texts (of_bay bay lines))) → AllConform policy [] (texts lines)
woven_conform law policy lines each = woven_after law policy [] (λ bay. []) lines (λ id stage has. has) each
