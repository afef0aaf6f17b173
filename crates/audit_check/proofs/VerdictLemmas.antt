-- No line is judged in two ways.
use Rattle.std.proofs.Common.{◌≡◌, ℕ, ◌<◌, ◌≤◌, List, Some, Result, Ok, Err, refl, sym, ap, ◌∙◌, subst, arith, ◌⊎◌, inl, inr}
use Rattle.front_base.specs.declared.stage.Stage.{Stage}
use Rattle.front_base.specs.declared.stage.Stage.TheVariants.{RequestReceived, ResponseStarted, ResponseComplete, Panic}
use Rattle.policy_rules.specs.declared.decision.Decision.{Decision}
use Rattle.policy_rules.specs.declared.policy.Policy.{Policy}
use Rattle.stage_event.specs.declared.event.Event.{Event}
use Rattle.audit_check.specs.Agreement.{info_of, decision_on, IsInPlace, IsDecided}
use Rattle.audit_check.specs.Conforms.{Judges, IsKnown}
use Rattle.audit_check.specs.Lines.{IsLine, IsNext, IsLast, rank}
use Rattle.audit_check.specs.declared.fault.LineFault.{LineFault}
use Rattle.audit_check.specs.declared.fault.LineFault.TheVariants as fault
use Rattle.audit_check.proofs.LineLemmas.{OneEvent, one_event}

-- what holds of the event of a line that is judged so
abbrev JudgedAs : Policy → List (List ℕ) → Event → Result (Unit {0}) LineFault → Type 0
JudgedAs policy before e (Ok done) = IsInPlace (info_of e) e × IsDecided (decision_on policy (info_of e) e) e × IsNext before e.id e.stage
JudgedAs policy before e (Err fault.Form) = ⊥
JudgedAs policy before e (Err fault.Place) = IsInPlace (info_of e) e → ⊥
JudgedAs policy before e (Err (fault.Level decision)) = IsInPlace (info_of e) e × (decision ≡ decision_on policy (info_of e) e) × (IsDecided (decision_on policy (info_of e) e) e → ⊥)
JudgedAs policy before e (Err (fault.Stage last)) = IsInPlace (info_of e) e × IsDecided (decision_on policy (info_of e) e) e × IsLast before e.id (Some last) × (rank e.stage ≤ rank last)
JudgedAs policy before e (Err fault.NoMemory) = ⊥

-- it is of no event, or of one that is judged so
abbrev Judged : Policy → List (List ℕ) → List ℕ → Result (Unit {0}) LineFault → Type 0
Judged policy before text r = (((e : Event) → IsLine e text → ⊥) × (r ≡ Err fault.Form)) ⊎ ((e : Event) × IsLine e text × JudgedAs policy before e r)

judged : (policy : Policy) (before : List (List ℕ)) (text : List ℕ) (r : Result (Unit {0}) LineFault) → IsKnown r → Judges policy before text r → Judged policy before text r
judged policy before text (Ok done) known h = inr (h.event, h.line, (h.in_place, h.decided, h.next))
judged policy before text (Err fault.Form) known h = inl (h, refl)
judged policy before text (Err fault.Place) known h = inr (h.event, h.line, h.not_in_place)
judged policy before text (Err (fault.Level decision)) known h =
    inr (h.event, h.line, (h.in_place, h.chosen, λ d. h.not_decided (subst (λ (x : Decision). IsDecided x h.event) (sym h.chosen) d)))
judged policy before text (Err (fault.Stage last)) known h = inr (h.event, h.line, (h.in_place, h.decided, h.last, h.late))
judged policy before text (Err fault.NoMemory) known h = absurd known

too_late : (a b c : ℕ) → a < b → b ≤ a → ⊥
too_late a b c p q = absurd (omega (arith, p, q))

one_rank : (a b : Stage) → rank a ≡ rank b → a ≡ b
one_rank RequestReceived RequestReceived e = refl
one_rank RequestReceived ResponseStarted e = absurd (omega (arith, e))
one_rank RequestReceived ResponseComplete e = absurd (omega (arith, e))
one_rank RequestReceived Panic e = absurd (omega (arith, e))
one_rank ResponseStarted RequestReceived e = absurd (omega (arith, e))
one_rank ResponseStarted ResponseStarted e = refl
one_rank ResponseStarted ResponseComplete e = absurd (omega (arith, e))
one_rank ResponseStarted Panic e = absurd (omega (arith, e))
one_rank ResponseComplete RequestReceived e = absurd (omega (arith, e))
one_rank ResponseComplete ResponseStarted e = absurd (omega (arith, e))
one_rank ResponseComplete ResponseComplete e = refl
one_rank ResponseComplete Panic e = absurd (omega (arith, e))
one_rank Panic RequestReceived e = absurd (omega (arith, e))
one_rank Panic ResponseStarted e = absurd (omega (arith, e))
one_rank Panic ResponseComplete e = absurd (omega (arith, e))
one_rank Panic Panic e = refl

late_not_next : (before : List (List ℕ)) (e : Event) (last : Stage) → IsNext before e.id e.stage → IsLast before e.id (Some last) → rank e.stage ≤ rank last → ⊥
late_not_next before e last next is late = too_late (rank last) (rank e.stage) 0 (next last is.0) late

same : (policy : Policy) (before : List (List ℕ)) (e : Event) (a b : Result (Unit {0}) LineFault) → JudgedAs policy before e a → JudgedAs policy before e b → a ≡ b
same policy before e (Ok x) (Ok y) p q = refl
same policy before e (Ok x) (Err fault.Form) p q = absurd q
same policy before e (Ok x) (Err fault.Place) p q = absurd (q p.0)
same policy before e (Ok x) (Err (fault.Level d)) p q = absurd (q.2 p.1)
same policy before e (Ok x) (Err (fault.Stage s)) p q = absurd (late_not_next before e s p.2 q.2 q.3)
same policy before e (Ok x) (Err fault.NoMemory) p q = absurd q
same policy before e (Err fault.Form) b p q = absurd p
same policy before e (Err fault.Place) (Ok y) p q = absurd (p q.0)
same policy before e (Err fault.Place) (Err fault.Form) p q = absurd q
same policy before e (Err fault.Place) (Err fault.Place) p q = refl
same policy before e (Err fault.Place) (Err (fault.Level d)) p q = absurd (p q.0)
same policy before e (Err fault.Place) (Err (fault.Stage s)) p q = absurd (p q.0)
same policy before e (Err fault.Place) (Err fault.NoMemory) p q = absurd q
same policy before e (Err (fault.Level c)) (Ok y) p q = absurd (p.2 q.1)
same policy before e (Err (fault.Level c)) (Err fault.Form) p q = absurd q
same policy before e (Err (fault.Level c)) (Err fault.Place) p q = absurd (q p.0)
same policy before e (Err (fault.Level c)) (Err (fault.Level d)) p q = ap (λ (x : Decision). Err (fault.Level x)) (p.1 ∙ sym q.1)
same policy before e (Err (fault.Level c)) (Err (fault.Stage s)) p q = absurd (p.2 q.1)
same policy before e (Err (fault.Level c)) (Err fault.NoMemory) p q = absurd q
same policy before e (Err (fault.Stage r)) (Ok y) p q = absurd (late_not_next before e r q.2 p.2 p.3)
same policy before e (Err (fault.Stage r)) (Err fault.Form) p q = absurd q
same policy before e (Err (fault.Stage r)) (Err fault.Place) p q = absurd (q p.0)
same policy before e (Err (fault.Stage r)) (Err (fault.Level d)) p q = absurd (q.2 p.1)
same policy before e (Err (fault.Stage r)) (Err (fault.Stage s)) p q =
    ap (λ (x : Stage). Err (fault.Stage x)) (one_rank r s (both_most (rank r) (rank s) (q.2.1 r p.2.0) (p.2.1 s q.2.0)))
  where
    both_most : (a b : ℕ) → a ≤ b → b ≤ a → a ≡ b
    both_most a b h k = omega arith
same policy before e (Err (fault.Stage r)) (Err fault.NoMemory) p q = absurd q
same policy before e (Err fault.NoMemory) b p q = absurd p

pub one_verdict : OneEvent → (policy : Policy) (before : List (List ℕ)) (text : List ℕ) (a b : Result (Unit {0}) LineFault) → IsKnown a → IsKnown b → Judges policy before text a → Judges policy before text b → a ≡ b
one_verdict law policy before text a b known_a known_b p q = by_cases (judged policy before text a known_a p) (judged policy before text b known_b q)
  where
    by_cases : Judged policy before text a → Judged policy before text b → a ≡ b
    by_cases (inl x) (inl y) = x.1 ∙ sym y.1
    by_cases (inl x) (inr y) = absurd (x.0 y.0 y.1)
    by_cases (inr x) (inl y) = absurd (y.0 x.0 x.1)
    by_cases (inr x) (inr y) =
        let own : y.0 ≡ x.0 = one_event law y.0 x.0 text y.1 x.1 in
        same policy before x.0 a b x.2 (subst (λ (e : Event). JudgedAs policy before e b) own y.2)
