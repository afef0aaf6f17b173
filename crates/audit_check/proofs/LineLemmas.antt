-- One line more.
use Rattle.std.proofs.Common.{◌≡◌, ℕ, ◌<◌, ◌+◌, List, [], ◌∷◌, ◌++◌, length, get_or, refl, sym, ap, ◌∙◌, arith, ◌⊎◌, inl, inr, ⊎_elim, subst}
use Rattle.std.specs.List.{Contains}
use Rattle.std.proofs.lemmas.List.Elements.{Contains-append_cases, Contains-append_left, Contains-append_right}
use Rattle.event_text.specs.Line.{line_text}
use Rattle.front_base.specs.AuditId.{AuditId}
use Rattle.front_base.specs.declared.stage.Stage.{Stage}
use Rattle.stage_event.specs.declared.event.Event.{Event}
use Rattle.audit_reader.specs.Plain.{Fits, IsPlain}
use Rattle.audit_check.specs.Lines.{IsLine, HasStage}

-- the law of the reader: no two events have one line
abbrev pub OneEvent : Type 0
OneEvent = (a b : Event) → Fits a → IsPlain a → Fits b → IsPlain b → line_text a ≡ line_text b → a ≡ b

pub one_event : OneEvent → (a b : Event) (text : List ℕ) → IsLine a text → IsLine b text → a ≡ b
one_event law a b text p q = law a b p.fits p.plain q.fits q.plain (p.spells ∙ sym q.spells)

only_one : (x y : List ℕ) → Contains (x ∷ []) y → y ≡ x
only_one x y h = first h.0 h.1 h.2
  where
    first : (k : ℕ) → k < length (x ∷ []) → get_or (x ∷ []) k y ≡ y → y ≡ x
    first k small e = let zero : k ≡ 0 = omega arith in sym e ∙ ap (λ i. get_or (x ∷ []) i y) zero

contains_self : (x : List ℕ) → Contains (x ∷ []) x
contains_self x = (0, omega arith, refl)

-- a stage of one line more is one of the lines before, or that of the line
abbrev pub IsNew : Event → AuditId → Stage → Type 0
IsNew e id stage = (e.id ≡ id) × (e.stage ≡ stage)

pub more_cases : OneEvent → (lines : List (List ℕ)) (e : Event) (text : List ℕ) → IsLine e text → (id : AuditId) (stage : Stage) → HasStage (lines ++ text ∷ []) id stage → HasStage lines id stage ⊎ IsNew e id stage
more_cases law lines e text line id stage h =
    ⊎_elim
    (λ (old : Contains lines h.text). inl (record { event = h.event; text = h.text; contained = old; line = h.line; of_it = h.of_it; at_it = h.at_it }))
    (λ (new : Contains (text ∷ []) h.text).
    let same : h.text ≡ text = only_one text h.text new in
    let own : h.event ≡ e = one_event law h.event e text (subst (IsLine h.event) same h.line) line in
    inr (ap (λ (x : Event). x.id) (sym own) ∙ h.of_it, ap (λ (x : Event). x.stage) (sym own) ∙ h.at_it))
    (Contains-append_cases lines (text ∷ []) h.text h.contained)

pub more_old : (lines : List (List ℕ)) (text : List ℕ) (id : AuditId) (stage : Stage) → HasStage lines id stage → HasStage (lines ++ text ∷ []) id stage
more_old lines text id stage h =
    record { event = h.event; text = h.text; contained = Contains-append_left lines (text ∷ []) h.text h.contained; line = h.line; of_it = h.of_it; at_it = h.at_it }

pub more_new : (lines : List (List ℕ)) (e : Event) (text : List ℕ) → IsLine e text → HasStage (lines ++ text ∷ []) e.id e.stage
more_new lines e text line =
    record { event = e; text = text; contained = Contains-append_right lines (text ∷ []) text (contains_self text); line = line; of_it = refl; at_it = refl }
