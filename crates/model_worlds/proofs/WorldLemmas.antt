-- Two worlds that show the same go on to show the same.
use Rattle.std.proofs.Common.{◌≡◌, ℕ, Bool, List, [], ◌∷◌, map, Option, Some, None, refl, ap, sym, ◌∙◌}
use Rattle.audit_core.specs.declared.link_note.LinkNote.{LinkNote}
use Rattle.stage_event.specs.declared.facts.Kept.{Kept}
use Rattle.model_worlds.proofs.HidingLemmas.{both}
use Rattle.model_worlds.proofs.StepLemmas.{low_stepped, low_link_at, low_reply_at, same_at_bay, same_at_sink, opened, begin_low, found_low, changed_low, started_low, finished_low, offered_low}
use Rattle.model_worlds.specs.Setup.{Setup}
use Rattle.model_worlds.specs.Steps
use Rattle.model_worlds.specs.Worlds
use Rattle.model_worlds.specs.declared.state.Open.{Open}
use Rattle.model_worlds.specs.declared.state.State.{State}
use Rattle.model_worlds.specs.declared.step.Step.{Step}
use Rattle.model_worlds.specs.declared.step.StepAnswer.{StepAnswer}
use Rattle.model_worlds.specs.declared.step.StepAnswer.TheVariants.{Begun, Found, Offered, Noted, Changed, Took, Wrote, Lost, Idle}

-- ---- any step, in one world

-- what a step shows
shown_of : Setup → State → Steps.Move → Steps.Stepped
shown_of setup s m = low_stepped (Worlds.current_at s (Worlds.bay_of m)) (Steps.move setup s m)

finish_move : (setup : Setup) (s : State) (bay : ℕ) (link : LinkNote) (reply : Kept) (m : ℕ) (o : Option Open)
    → low_stepped (Worlds.current_at s bay)
    (Steps.at_bay s bay (Steps.in_exchange (Steps.finished setup (low_link_at link o) (low_reply_at reply o) m)))
    ≡ shown_of setup s (Worlds.low_finish bay link reply m o)
unfolding shown_of low_link_at low_reply_at
finish_move setup s bay link reply m None = refl
finish_move setup s bay link reply m (Some o) = refl

move_low : (setup : Setup) (s : State) (m : Steps.Move)
    → shown_of setup s m ≡ shown_of setup (Worlds.low s) (Worlds.low_move s m)
unfolding shown_of
move_low setup s (Steps.BeginMove bay w moment) = same_at_bay _ _ (begin_low setup bay moment w) s bay
move_low setup s (Steps.FindMove bay seen) = same_at_bay _ _ (opened _ _ (found_low setup seen)) s bay
move_low setup s (Steps.OfferMove bay sink works) = same_at_bay _ _ (opened _ _ (offered_low setup bay sink works)) s bay
move_low setup s (Steps.StartedMove bay status moment) = same_at_bay _ _ (opened _ _ (started_low setup status moment)) s bay
move_low setup s (Steps.FinishMove bay link reply moment) =
    same_at_bay _ _ (opened _ _ (finished_low setup link reply moment)) s bay
    ∙ finish_move setup (Worlds.low s) bay link reply moment (Worlds.current_at s bay)
move_low setup s (Steps.ChangeMove bay) = same_at_bay _ _ (opened _ _ (changed_low setup)) s bay
move_low setup s (Steps.TakeMove sink) = same_at_sink s sink 0 (Steps.take_line setup sink)
move_low setup s (Steps.CutMove sink works) = same_at_sink s sink 0 (Steps.cut_lines setup works)

-- ---- one step, in two worlds

same_shown : (setup : Setup) (s t : State) (m n : Steps.Move) → Worlds.low s ≡ Worlds.low t
    → Worlds.low_move s m ≡ Worlds.low_move t n → shown_of setup s m ≡ shown_of setup t n
same_shown setup s t m n e h = move_low setup s m ∙ both (shown_of setup) e h ∙ sym (move_low setup t n)

pub same_step : (setup : Setup) (s t : State) (a b : Step) → Worlds.low s ≡ Worlds.low t
    → Worlds.shown_step setup s a ≡ Worlds.shown_step setup t b
    → Worlds.low (Steps.step setup s a).state ≡ Worlds.low (Steps.step setup t b).state
unfolding shown_of low_stepped Steps.step Worlds.shown_step
same_step setup s t a b e h =
    ap (λ d. d.state) (same_shown setup s t (Steps.move_of setup a) (Steps.move_of setup b) e h)

same_told : (setup : Setup) (s t : State) (a b : Step) → Worlds.low s ≡ Worlds.low t
    → Worlds.shown_step setup s a ≡ Worlds.shown_step setup t b
    → Worlds.shown_answer setup s a ≡ Worlds.shown_answer setup t b
unfolding shown_of low_stepped Steps.step Worlds.shown_step Worlds.shown_answer
same_told setup s t a b e h =
    ap (λ d. d.answer) (same_shown setup s t (Steps.move_of setup a) (Steps.move_of setup b) e h)

-- ---- lists of steps

pub worlds_low : (setup : Setup) (these those : List Step) (s t : State) → Worlds.low s ≡ Worlds.low t
    → Worlds.Alike setup s t these those
    → Worlds.low (Steps.after_steps setup s these) ≡ Worlds.low (Steps.after_steps setup t those)
worlds_low setup [] [] s t e h = e
worlds_low setup (a ∷ these) (b ∷ those) s t e h =
    worlds_low setup these those (Steps.step setup s a).state (Steps.step setup t b).state
    (same_step setup s t a b e h.0)
    h.1
worlds_low setup [] (b ∷ those) s t e h = absurd h
worlds_low setup (a ∷ these) [] s t e h = absurd h

pub worlds_answers : (setup : Setup) (these those : List Step) (s t : State) → Worlds.low s ≡ Worlds.low t
    → Worlds.Alike setup s t these those
    → Worlds.shown_answers setup s these ≡ Worlds.shown_answers setup t those
worlds_answers setup [] [] s t e h = refl
worlds_answers setup (a ∷ these) (b ∷ those) s t e h =
    both (λ (x : StepAnswer) (xs : List StepAnswer). x ∷ xs)
    (same_told setup s t a b e h.0)
    (worlds_answers setup these those (Steps.step setup s a).state (Steps.step setup t b).state
    (same_step setup s t a b e h.0)
    h.1)
worlds_answers setup [] (b ∷ those) s t e h = absurd h
worlds_answers setup (a ∷ these) [] s t e h = absurd h

pub worlds_shared : (setup : Setup) (these those : List Step) (s t : State) → Worlds.low s ≡ Worlds.low t
    → Worlds.Alike setup s t these those
    → (Steps.after_steps setup s these).shared ≡ (Steps.after_steps setup t those).shared
unfolding Worlds.low
worlds_shared setup these those s t e h = ap (λ v. v.shared) (worlds_low setup these those s t e h)

-- ---- which steps were taken

taken_low : (o : Option Open) (a : StepAnswer) → Worlds.is_taken a ≡ Worlds.is_taken (Worlds.low_answer o a)
taken_low o (Found row) = refl
taken_low o Begun = refl
taken_low o (Offered outcome) = refl
taken_low o Noted = refl
taken_low o (Changed fault) = refl
taken_low o (Took line) = refl
taken_low o (Wrote n) = refl
taken_low o (Lost n) = refl
taken_low o Idle = refl

taken_shown : (setup : Setup) (s : State) (steps : List Step)
    → map Worlds.is_taken (Steps.answers_to setup s steps) ≡ map Worlds.is_taken (Worlds.shown_answers setup s steps)
unfolding Worlds.shown_answer
taken_shown setup s [] = refl
taken_shown setup s (a ∷ steps) =
    both (λ (x : Bool) (xs : List Bool). x ∷ xs)
    (taken_low (Worlds.current_at s (Worlds.bay_of (Steps.move_of setup a))) (Steps.step setup s a).answer)
    (taken_shown setup (Steps.step setup s a).state steps)

pub worlds_taken : (setup : Setup) (these those : List Step) (s t : State) → Worlds.low s ≡ Worlds.low t
    → Worlds.Alike setup s t these those
    → map Worlds.is_taken (Steps.answers_to setup s these) ≡ map Worlds.is_taken (Steps.answers_to setup t those)
worlds_taken setup these those s t e h =
    taken_shown setup s these
    ∙ ap (map Worlds.is_taken) (worlds_answers setup these those s t e h)
    ∙ sym (taken_shown setup t those)
