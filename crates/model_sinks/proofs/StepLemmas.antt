-- A step of a sink's writer, as a step of the whole.
use Rattle.std.proofs.Common.{◌≡◌, ℕ, Bool, true, false, Option, Some, None, Result, Ok, Err, IfOk, List, refl, ap, sym, ◌∙◌}
use Rattle.std.specs.Prelude.{slice_get, slice_set, if◌then◌else◌}
use Rattle.audit_core.specs.declared.sinks.Sink.{Sink}
use Rattle.audit_core.specs.declared.sinks.Sink.TheVariants.{Log, Webhook}
use Rattle.model_sinks.specs.Running.{DrainsTo, StepsTo, TurnsTo}
use Rattle.model_sinks.specs.Fixed.{Fixed, setup_of}
use Rattle.stage_event.specs.declared.facts.Kept.{Kept}
use Rattle.model_sinks.proofs.ListLemmas.{set_read}
use Rattle.model_worlds.specs.Steps.{Drained, Turn, can_take, cut_lines, drained, sink_at, step, take_front, take_line, turned, with_sink}
use Rattle.model_worlds.specs.declared.state.Bay.{Bay}
use Rattle.model_worlds.specs.declared.state.Shared.{Shared}
use Rattle.model_worlds.specs.declared.state.SinkState.{SinkState}
use Rattle.model_worlds.specs.declared.state.State.{State}
use Rattle.model_worlds.specs.declared.step.Step.TheVariants.{Take, Cut}
use Rattle.model_worlds.specs.declared.step.StepAnswer.{StepAnswer}
use Rattle.model_worlds.specs.declared.step.StepAnswer.TheVariants.{Idle}
use Rattle.model_worlds.specs.declared.step.TryTold.{TryTold}

pub sink_drained : (s : State) (sink : Sink) (done : Option Drained) (new : SinkState) (answer : StepAnswer)
    → DrainsTo done (sink_at s.shared sink) new answer
    → drained s sink done ≡ record { state = record s { shared = with_sink s.shared sink new }; answer = answer }
sink_drained s Log None new answer h = rw (h.0, h.1) refl
sink_drained s Webhook None new answer h = rw (h.0, h.1) refl
sink_drained s sink (Some d) new answer h = rw (h.0, h.1) refl

-- a step that can be taken, and one that can't
drains : (c : Bool) (d : Drained) (old new : SinkState) (answer : StepAnswer) → c ≡ true
    → d ≡ record { sink = new; answer = answer } → DrainsTo (if c then Some d else None) old new answer
drains c d old new answer h e = rw (h, e) (refl, refl)

drains_not : (c : Bool) (d : Drained) (old : SinkState) → c ≡ false → DrainsTo (if c then Some d else None) old old Idle
drains_not c d old h = rw h (refl, refl)

-- a turn that the bay at that place takes
pub turn_taken : (s : State) (place : ℕ) (done : Option Turn) (b new : Bay) (sh : Shared) (answer : StepAnswer)
    → slice_get s.bays place ≡ Some b → TurnsTo done s.shared b sh new answer
    → turned s place done ≡ record { state = record { shared = sh; bays = slice_set s.bays place new }; answer = answer }
turn_taken s place None b new sh answer at h =
    rw (h.0, h.1, h.2) (ap (λ bays. record { state = record { shared = s.shared; bays = bays }; answer = Idle })
    (sym (set_read s.bays place b at)))
turn_taken s place (Some t) b new sh answer at h = rw (h.0, h.1, h.2) refl

-- ---- the same of answers that may lack memory

pub take_at : {E : Type 0} (own : Fixed) (s : State) (sink : Sink) (r : Result StepAnswer E) (new : SinkState)
    → IfOk r (λ answer. (keep : Bool → List ℕ → Kept) → DrainsTo (take_line (setup_of own keep) sink (sink_at s.shared sink))
    (sink_at s.shared sink) new answer)
    → IfOk r (StepsTo own s (Take sink) (record s { shared = with_sink s.shared sink new }))
unfolding step
take_at own s sink (Ok answer) new h = λ keep k. sink_drained s sink _ new answer (h keep)
take_at own s sink (Err e) new h = tt

pub cut_at : {E : Type 0} (own : Fixed) (s : State) (sink : Sink) (works : TryTold) (r : Result StepAnswer E)
    (new : SinkState)
    → IfOk r (λ answer. (keep : Bool → List ℕ → Kept) → DrainsTo (cut_lines (setup_of own keep) works (sink_at s.shared sink))
    (sink_at s.shared sink) new answer)
    → IfOk r (StepsTo own s (Cut sink works) (record s { shared = with_sink s.shared sink new }))
unfolding step
cut_at own s sink works (Ok answer) new h = λ keep k. sink_drained s sink _ new answer (h keep)
cut_at own s sink works (Err e) new h = tt

-- ---- a line can be taken

pub takes : {E : Type 0} (own : Fixed) (sink : Sink) (can : Bool) (s new : SinkState) (r : Result StepAnswer E)
    → ((keep : Bool → List ℕ → Kept) → can ≡ can_take (setup_of own keep) sink s) → can ≡ true
    → IfOk r (λ answer. take_front s s.contents ≡ record { sink = new; answer = answer })
    → IfOk r (λ answer. (keep : Bool → List ℕ → Kept) → DrainsTo (take_line (setup_of own keep) sink s) s new answer)
takes own sink can s new (Ok answer) h taken e = λ keep. let is : can_take (setup_of own keep) sink s ≡ true = sym (h keep) ∙ taken in
    drains (can_take (setup_of own keep) sink s) (take_front s s.contents) s new answer is e
takes own sink can s new (Err fault) h taken e = tt

pub takes_not : (own : Fixed) (sink : Sink) (can : Bool) (s : SinkState)
    → ((keep : Bool → List ℕ → Kept) → can ≡ can_take (setup_of own keep) sink s) → can ≡ false
    → (keep : Bool → List ℕ → Kept) → DrainsTo (take_line (setup_of own keep) sink s) s s Idle
takes_not own sink can s h idle keep =
    let is : can_take (setup_of own keep) sink s ≡ false = sym (h keep) ∙ idle in
    drains_not (can_take (setup_of own keep) sink s) (take_front s s.contents) s is
