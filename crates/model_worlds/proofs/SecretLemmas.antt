-- Two runs that differ in one step that looks the same.
use Rattle.std.proofs.Common.{◌≡◌, ℕ, List, [], ◌∷◌, ◌++◌, Option, Some, None, refl, ap, sym, ◌∙◌}
use Rattle.std.specs.Prelude.{option_map}
use Rattle.audit_core.specs.declared.link_note.LinkNote.{LinkNote}
use Rattle.audit_core.specs.declared.sinks.Sink.{Sink}
use Rattle.front_base.specs.Line.{Line}
use Rattle.front_base.specs.declared.level.Level.{Level}
use Rattle.front_base.specs.declared.level.Level.TheVariants as level
use Rattle.stage_event.specs.Views.{view}
use Rattle.stage_event.specs.declared.facts.Facts.{Facts}
use Rattle.stage_event.specs.declared.facts.Kept.{Kept}
use Rattle.model_worlds.proofs.StepLemmas.{current_at_low}
use Rattle.model_worlds.proofs.WorldLemmas.{same_step, worlds_shared}
use Rattle.model_worlds.specs.Setup.{Setup}
use Rattle.model_worlds.specs.Steps
use Rattle.model_worlds.specs.Worlds
use Rattle.model_worlds.specs.declared.state.Open.{Open}
use Rattle.model_worlds.specs.declared.state.State.{State}
use Rattle.model_worlds.specs.declared.step.Step.{Step}

-- ---- a step looks the same where the states do

same_reply_shown : (l : Level) (f : Facts) (reply : Kept)
    → Worlds.low_reply l f.info reply ≡ Worlds.low_reply l (view l f).info reply
same_reply_shown level.None f reply = refl
same_reply_shown level.Metadata f reply = refl
same_reply_shown level.Request f reply = refl
same_reply_shown level.RequestResponse f reply = refl

finish_low : (bay : ℕ) (link : LinkNote) (reply : Kept) (moment : ℕ) (o : Option Open)
    → Worlds.low_finish bay link reply moment o ≡ Worlds.low_finish bay link reply moment (option_map Worlds.low_open o)
finish_low bay link reply moment None = refl
finish_low bay link reply moment (Some o) =
    ap
    (λ k. Steps.FinishMove bay (Worlds.low_link o.exchange.level link) k moment)
    (same_reply_shown o.exchange.level o.exchange.facts reply)

finish_at_low : (s : State) (bay : ℕ) (link : LinkNote) (reply : Kept) (moment : ℕ)
    → Worlds.low_finish bay link reply moment (Worlds.current_at s bay)
    ≡ Worlds.low_finish bay link reply moment (Worlds.current_at (Worlds.low s) bay)
finish_at_low s bay link reply moment =
    finish_low bay link reply moment (Worlds.current_at s bay)
    ∙ ap (Worlds.low_finish bay link reply moment) (sym (current_at_low s bay))

same_move : (s t : State) (m : Steps.Move) → Worlds.low s ≡ Worlds.low t → Worlds.low_move s m ≡ Worlds.low_move t m
same_move s t (Steps.BeginMove bay w moment) e = refl
same_move s t (Steps.FindMove bay seen) e = refl
same_move s t (Steps.OfferMove bay sink works) e = refl
same_move s t (Steps.StartedMove bay status moment) e = refl
same_move s t (Steps.FinishMove bay link reply moment) e =
    finish_at_low s bay link reply moment
    ∙ ap (λ v. Worlds.low_finish bay link reply moment (Worlds.current_at v bay)) e
    ∙ sym (finish_at_low t bay link reply moment)
same_move s t (Steps.ChangeMove bay) e = refl
same_move s t (Steps.TakeMove sink) e = refl
same_move s t (Steps.CutMove sink works) e = refl

same_look : (setup : Setup) (s t : State) (a : Step) → Worlds.low s ≡ Worlds.low t
    → Worlds.shown_step setup s a ≡ Worlds.shown_step setup t a
unfolding Worlds.shown_step
same_look setup s t a e = same_move s t (Steps.move_of setup a) e

-- ---- the same steps are alike where the states look the same

pub alike_self : (setup : Setup) (steps : List Step) (s t : State) → Worlds.low s ≡ Worlds.low t
    → Worlds.Alike setup s t steps steps
alike_self setup [] s t e = tt
alike_self setup (a ∷ steps) s t e =
    let h = same_look setup s t a e in (
      h,
      alike_self setup steps (Steps.step setup s a).state (Steps.step setup t a).state (same_step setup s t a a e h),
    )

-- ---- one step that looks the same

after_both : (setup : Setup) (these those : List Step) (s : State)
    → Steps.after_steps setup s (these ++ those) ≡ Steps.after_steps setup (Steps.after_steps setup s these) those
after_both setup [] those s = refl
after_both setup (a ∷ these) those s = after_both setup these those (Steps.step setup s a).state

one_shared : (setup : Setup) (s : State) (before after : List Step) (this that : Step)
    → Worlds.shown_step setup (Steps.after_steps setup s before) this
    ≡ Worlds.shown_step setup (Steps.after_steps setup s before) that
    → (Steps.after_steps setup s (before ++ this ∷ after)).shared
    ≡ (Steps.after_steps setup s (before ++ that ∷ after)).shared
one_shared setup s before after this that h =
    let t = Steps.after_steps setup s before in
    let e = same_step setup t t this that refl h in
    ap (λ v. v.shared) (after_both setup before (this ∷ after) s)
    ∙ worlds_shared setup after after (Steps.step setup t this).state (Steps.step setup t that).state e
    (alike_self setup after (Steps.step setup t this).state (Steps.step setup t that).state e)
    ∙ ap (λ v. v.shared) (sym (after_both setup before (that ∷ after) s))

pub one_sink : (setup : Setup) (s : State) (before after : List Step) (this that : Step) (sink : Sink)
    (text : List Line → List ℕ)
    → Worlds.shown_step setup (Steps.after_steps setup s before) this
    ≡ Worlds.shown_step setup (Steps.after_steps setup s before) that
    → Worlds.sink_bytes text (Steps.sink_at (Steps.after_steps setup s (before ++ this ∷ after)).shared sink)
    ≡ Worlds.sink_bytes text (Steps.sink_at (Steps.after_steps setup s (before ++ that ∷ after)).shared sink)
one_sink setup s before after this that sink text h =
    ap (λ sh. Worlds.sink_bytes text (Steps.sink_at sh sink)) (one_shared setup s before after this that h)
