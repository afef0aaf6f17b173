-- What a checker answers is due, and what it remembers is of the lines that it accepted.
use Rattle.std.proofs.Common.{◌≡◌, ℕ, ◌<◌, ◌≤◌, Bool, true, false, List, [], ◌∷◌, ◌++◌, Option, Some, None, Err, refl, sym, ap, ◌∙◌, arith, ◌⊎◌, ⊎_elim, subst}
use Rattle.std.specs.Prelude.{if◌then◌else◌}
use Rattle.std.specs.List.{Contains}
use Rattle.front_base.specs.AuditId.{AuditId}
use Rattle.front_base.specs.declared.stage.Stage.{Stage}
use Rattle.policy_rules.specs.declared.policy.Policy.{Policy}
use Rattle.stage_event.specs.declared.event.Event.{Event}
use Rattle.audit_check.specs.Agreement.{info_of, decision_on, IsDecided}
use Rattle.audit_check.specs.Conforms.{Conforms, Judges, HasAccepted, ComesAfter, IsMark, Fails}
use Rattle.audit_check.specs.Lines.{IsLine, HasStage, IsNext, IsLast, rank}
use Rattle.audit_check.specs.Seen.{Seen, Checked, is_same, last_seen}
use Rattle.audit_check.specs.declared.checker.Mark.{Mark}
use Rattle.audit_check.specs.declared.fault.LineFault.{LineFault}
use Rattle.audit_check.specs.declared.fault.LineFault.TheVariants as fault
use Rattle.audit_check.proofs.SeenLemmas.{one_id, same_self}
use Rattle.audit_check.proofs.LineLemmas.{OneEvent, IsNew, more_cases, more_old, more_new}

-- ---- answers

pub nothing_last : (id : AuditId) (seen : Option Stage) → seen ≡ None → IsLast [] id seen
nothing_last id seen e = subst (IsLast [] id) (sym e) (λ stage has. none has.text has.contained)
  where
    none : (x : List ℕ) → Contains [] x → ⊥
    none x h = absurd (omega (arith, h.1))

next_by : (before : List (List ℕ)) (id : AuditId) (stage : Stage) (seen : Option Stage) → IsLast before id seen → ComesAfter seen stage → IsNext before id stage
next_by before id stage None h k = λ earlier has. absurd (h earlier has)
next_by before id stage (Some last) h k = λ earlier has. rises (rank earlier) (rank last) (rank stage) (h.1 earlier has) k
  where
    rises : (a b c : ℕ) → a ≤ b → b < c → a < c
    rises a b c p q = omega arith

pub mark_conforms : (own policy : Policy) (seen : Seen) (before : List (List ℕ)) (text : List ℕ) (mark : Mark) → IsMark own seen text mark → own ≡ policy → ((id : AuditId) → IsLast before id (last_seen seen id)) → Conforms policy before text
mark_conforms own policy seen before text mark h e lasts =
    record {
      event = h.event;
      line = h.line;
      in_place = h.passes.in_place;
      decided = subst (λ (p : Policy). IsDecided (decision_on p (info_of h.event) h.event) h.event) e h.passes.decided;
      next = next_by before h.event.id h.event.stage (last_seen seen h.event.id) (lasts h.event.id) h.passes.after;
    }

pub fails_judged : (own policy : Policy) (seen : Seen) (before : List (List ℕ)) (text : List ℕ) (f : LineFault) → Fails own seen text f → own ≡ policy → ((id : AuditId) → IsLast before id (last_seen seen id)) → Judges policy before text (Err f)
fails_judged own policy seen before text fault.Form h e lasts = h
fails_judged own policy seen before text fault.Place h e lasts = record { event = h.event; line = h.line; not_in_place = h.fails }
fails_judged own policy seen before text (fault.Level decision) h e lasts =
    record {
      event = h.event;
      line = h.line;
      in_place = h.fails.in_place;
      chosen = h.fails.chosen ∙ ap (λ (p : Policy). decision_on p (info_of h.event) h.event) e;
      not_decided = h.fails.not_decided;
    }
fails_judged own policy seen before text (fault.Stage stage) h e lasts =
    record {
      event = h.event;
      line = h.line;
      in_place = h.fails.in_place;
      decided = subst (λ (p : Policy). IsDecided (decision_on p (info_of h.event) h.event) h.event) e h.fails.decided;
      last = subst (IsLast before h.event.id) h.fails.not_after.last (lasts h.event.id);
      late = h.fails.not_after.late;
    }
fails_judged own policy seen before text fault.NoMemory h e lasts = tt

-- ---- one line more

last_other : OneEvent → (before : List (List ℕ)) (e : Event) (text : List ℕ) → IsLine e text → (id : AuditId) → (e.id ≡ id → ⊥) → (seen : Option Stage) → IsLast before id seen → IsLast (before ++ text ∷ []) id seen
last_other law before e text line id other None h =
    λ stage has. ⊎_elim (λ (old : HasStage before id stage). h stage old) (λ (new : IsNew e id stage). other new.0) (more_cases law before e text line id stage has)
last_other law before e text line id other (Some last) h = (
  more_old before text id last h.0,
  λ stage has. ⊎_elim (λ (old : HasStage before id stage). h.1 stage old) (λ (new : IsNew e id stage). absurd (other new.0)) (more_cases law before e text line id stage has),
)

last_own : OneEvent → (before : List (List ℕ)) (e : Event) (text : List ℕ) → IsLine e text → IsNext before e.id e.stage → IsLast (before ++ text ∷ []) e.id (Some e.stage)
last_own law before e text line next = (
  more_new before e text line,
  λ stage has. ⊎_elim
      (λ (old : HasStage before e.id stage). weaker (rank stage) (rank e.stage) (next stage old))
      (λ (new : IsNew e e.id stage). subst (λ (s : Stage). rank s ≤ rank e.stage) new.1 (omega arith))
      (more_cases law before e text line e.id stage has),
)
  where
    weaker : (a b : ℕ) → a < b → a ≤ b
    weaker a b h = omega arith

last_if : OneEvent → (before : List (List ℕ)) (e : Event) (text : List ℕ) → IsLine e text → IsNext before e.id e.stage → (id : AuditId) (seen : Option Stage) → IsLast before id seen →
    (b : Bool) → is_same e.id id ≡ b → IsLast (before ++ text ∷ []) id (if b then Some e.stage else seen)
last_if law before e text line next id seen h true same =
    subst (λ (i : AuditId). IsLast (before ++ text ∷ []) i (Some e.stage)) (one_id e.id id same) (last_own law before e text line next)
last_if law before e text line next id seen h false same =
    last_other law before e text line id (λ (k : e.id ≡ id). absurd (cc (same, same_self e.id, ap (is_same e.id) k))) seen h

pub line_accepted : OneEvent → (own policy : Policy) (seen : Seen) (before : List (List ℕ)) (text : List ℕ) (mark : Mark) (new : Checked) → IsMark own seen text mark → HasAccepted policy before (record { policy = own; seen = seen }) →
    new.policy ≡ own → ((q : AuditId) → last_seen new.seen q ≡ (if is_same mark.id q then Some mark.stage else last_seen seen q)) → HasAccepted policy (before ++ text ∷ []) new
line_accepted law own policy seen before text mark new h accepted same told =
    let e = h.event in
    let next = next_by before e.id e.stage (last_seen seen e.id) (accepted.last e.id) h.passes.after in
    record {
      same = same ∙ accepted.same;
      last = λ id.
          subst (IsLast (before ++ text ∷ []) id)
          (sym (told id ∙ ap (λ (m : Mark). if is_same m.id id then Some m.stage else last_seen seen id) (marked mark e.id e.stage h.id h.stage)))
          (last_if law before e text h.line next id (last_seen seen id) (accepted.last id) (is_same e.id id) refl);
    }
  where
    marked : (mark : Mark) (id : AuditId) (stage : Stage) → mark.id ≡ id → mark.stage ≡ stage → mark ≡ record { id = id; stage = stage }
    marked mark id stage p q = λ i. record { id = p i; stage = q i }
