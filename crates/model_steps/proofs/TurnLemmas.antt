-- A turn of a bay, as a step of the whole.
use Rattle.std.proofs.Common.{◌≡◌, ◌≤◌, ℕ, zero, suc, Bool, List, [], ◌∷◌, length, Option, Some, Result, Ok, Err, IfOk, OnErr, refl, ap, sym, ◌∙◌}
use Rattle.std.specs.Prelude.{slice_get, slice_set}
use Rattle.http_edge.specs.declared.request.Request.{Request}
use Rattle.model_sinks.specs.Fixed.{Fixed, Keeps, setup_of}
use Rattle.model_sinks.specs.Running.{StepsTo, TurnsTo}
use Rattle.stage_event.specs.declared.facts.Kept.{Kept}
use Rattle.model_worlds.specs.Requests.{wish_of}
use Rattle.model_worlds.specs.Setup.{Setup}
use Rattle.model_worlds.specs.Steps.{Turn, at_bay, begin, step}
use Rattle.model_worlds.specs.declared.state.Bay.{Bay}
use Rattle.model_worlds.specs.declared.state.Shared.{Shared}
use Rattle.model_worlds.specs.declared.state.State.{State}
use Rattle.model_worlds.specs.declared.step.Step.{Step}
use Rattle.model_worlds.specs.declared.step.Step.TheVariants.{Begin}
use Rattle.model_worlds.specs.declared.step.StepAnswer.{StepAnswer}
use Rattle.model_worlds.specs.declared.step.StepAnswer.TheVariants.{Idle}

-- what was read, written back, changes nothing
set_read : {A : Type 0} (xs : List A) (i : ℕ) (x : A) → slice_get xs i ≡ Some x → slice_set xs i x ≡ xs
set_read [] i x h = refl
set_read (y ∷ ys) zero x h = let e : y ≡ x = cc in ap (λ z. z ∷ ys) (sym e)
set_read (y ∷ ys) (suc i) x h = ap (λ zs. y ∷ zs) (set_read ys i x h)

-- what turns of bays are as steps of the whole
abbrev pub AreTaken : Type 0
AreTaken =
    (s : State) (place : ℕ) (f : Shared → Bay → Option Turn) (b new : Bay) (sh : Shared) (answer : StepAnswer)
    → slice_get s.bays place ≡ Some b → TurnsTo (f s.shared b) s.shared b sh new answer
    → at_bay s place f ≡ record { state = record { shared = sh; bays = slice_set s.bays place new }; answer = answer }

-- the step of a bay that is there
pub turned_step : {E : Type 0} (taken : AreTaken) (own : Fixed) (s : State) (place : ℕ) (taken_step : Step)
    (f : Setup → Shared → Bay → Option Turn) (b new : Bay) (sh : Shared) (r : Result StepAnswer E)
    → slice_get s.bays place ≡ Some b
    → ((keep : Bool → List ℕ → Kept) → step (setup_of own keep) s taken_step ≡ at_bay s place (f (setup_of own keep)))
    → IfOk r (λ answer. (keep : Bool → List ℕ → Kept) → Keeps keep
    → TurnsTo (f (setup_of own keep) s.shared b) s.shared b sh new answer)
    → IfOk r (StepsTo own s taken_step (record { shared = sh; bays = slice_set s.bays place new }))
turned_step taken own s place taken_step f b new sh (Ok answer) at is h =
    λ keep k. is keep ∙ taken s place (f (setup_of own keep)) b new sh answer at (h keep k)
turned_step taken own s place taken_step f b new sh (Err e) at is h = tt

-- of those that ask nothing of what is kept of bodies
pub turned_any : {E : Type 0} (taken : AreTaken) (own : Fixed) (s : State) (place : ℕ) (taken_step : Step)
    (f : Setup → Shared → Bay → Option Turn) (b new : Bay) (sh : Shared) (r : Result StepAnswer E)
    → slice_get s.bays place ≡ Some b
    → ((keep : Bool → List ℕ → Kept) → step (setup_of own keep) s taken_step ≡ at_bay s place (f (setup_of own keep)))
    → IfOk r (λ answer. (keep : Bool → List ℕ → Kept) → TurnsTo (f (setup_of own keep) s.shared b) s.shared b sh new answer)
    → IfOk r (StepsTo own s taken_step (record { shared = sh; bays = slice_set s.bays place new }))
turned_any taken own s place taken_step f b new sh (Ok answer) at is h =
    λ keep k. is keep ∙ taken s place (f (setup_of own keep)) b new sh answer at (h keep)
turned_any taken own s place taken_step f b new sh (Err e) at is h = tt

-- the step of a bay that isn't there
abbrev pub AreIdle : Type 0
AreIdle =
    (s : State) (place : ℕ) (f : Shared → Bay → Option Turn) → length s.bays ≤ place
    → at_bay s place f ≡ record { state = s; answer = Idle }

pub idle_step : (idle : AreIdle) (own : Fixed) (s : State) (place : ℕ) (taken_step : Step)
    (f : Setup → Shared → Bay → Option Turn) → length s.bays ≤ place
    → ((keep : Bool → List ℕ → Kept) → step (setup_of own keep) s taken_step ≡ at_bay s place (f (setup_of own keep)))
    → StepsTo own s taken_step s Idle
idle_step idle own s place taken_step f past is = λ keep k. is keep ∙ idle s place (f (setup_of own keep)) past

-- where it lacked memory, all stays
pub same_state : {E : Type 0} (s : State) (place : ℕ) (b new : Bay) (sh : Shared) (r : Result StepAnswer E)
    → slice_get s.bays place ≡ Some b → OnErr r ((sh ≡ s.shared) × (new ≡ b))
    → OnErr r (record { shared = sh; bays = slice_set s.bays place new } ≡ s)
same_state s place b new sh (Ok answer) at h = tt
same_state s place b new sh (Err e) at h =
    rw (h.0, h.1) (ap (λ (bays : List Bay). record { shared = s.shared; bays = bays }) (set_read s.bays place b at))

pub same_bays : {E : Type 0} (s : State) (place : ℕ) (b new : Bay) (r : Result StepAnswer E)
    → slice_get s.bays place ≡ Some b → OnErr r (new ≡ b)
    → OnErr r (record { shared = s.shared; bays = slice_set s.bays place new } ≡ s)
same_bays s place b new (Ok answer) at h = tt
same_bays s place b new (Err e) at h =
    rw h (ap (λ (bays : List Bay). record { shared = s.shared; bays = bays }) (set_read s.bays place b at))

-- of a Begin, which leaves what bays share as it is, whatever that is
pub turned_begin : {E : Type 0} (taken : AreTaken) (own : Fixed) (s : State) (bay : ℕ) (peer : List ℕ) (r : Request)
    (moment : ℕ) (b new : Bay) (result : Result StepAnswer E) → slice_get s.bays bay ≡ Some b
    → IfOk result (λ answer. (keep : Bool → List ℕ → Kept) → Keeps keep → (any : Shared)
    → TurnsTo (begin (setup_of own keep) bay (wish_of (setup_of own keep) peer r moment) moment any b) any b any new answer)
    → IfOk result (StepsTo own s (Begin bay r peer moment)
    (record { shared = s.shared; bays = slice_set s.bays bay new }))
unfolding step
turned_begin taken own s bay peer r moment b new (Ok answer) at h = λ keep k.
    taken s bay (begin (setup_of own keep) bay (wish_of (setup_of own keep) peer r moment) moment) b new s.shared answer at
    (h keep k s.shared)
turned_begin taken own s bay peer r moment b new (Err e) at h = tt
