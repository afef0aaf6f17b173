-- One step more.
use Rattle.std.proofs.Common.{◌≡◌, List, [], ◌∷◌, ◌++◌, refl, ap, sym, subst, ◌∙◌}
use Rattle.model_steps.specs.Machine.{RunsTo}
use Rattle.model_sinks.specs.Fixed.{Fixed, setup_of}
use Rattle.model_sinks.specs.Running.{StepsTo}
use Rattle.model_worlds.specs.Setup.{Setup}
use Rattle.model_worlds.specs.Steps.{Stepped, after_steps, answers_to, step}
use Rattle.model_worlds.specs.declared.state.State.{State}
use Rattle.model_worlds.specs.declared.step.Step.{Step}
use Rattle.model_worlds.specs.declared.step.StepAnswer.{StepAnswer}

after-last : (setup : Setup) (done : List Step) (taken : Step) (s : State)
    → after_steps setup s (done ++ taken ∷ []) ≡ (step setup (after_steps setup s done) taken).state
after-last setup [] taken s = refl
after-last setup (own ∷ more) taken s = after-last setup more taken (step setup s own).state

answers-last : (setup : Setup) (done : List Step) (taken : Step) (s : State)
    → answers_to setup s (done ++ taken ∷ [])
    ≡ answers_to setup s done ++ (step setup (after_steps setup s done) taken).answer ∷ []
answers-last setup [] taken s = refl
answers-last setup (own ∷ more) taken s =
    ap (λ (answers : List StepAnswer). (step setup s own).answer ∷ answers)
    (answers-last setup more taken (step setup s own).state)

pub runs_on : (own : Fixed) (s t u : State) (done : List Step) (answers : List StepAnswer) (taken : Step)
    (answer : StepAnswer) → RunsTo own s done t answers → StepsTo own t taken u answer
    → RunsTo own s (done ++ taken ∷ []) u (answers ++ answer ∷ [])
runs_on own s t u done answers taken answer runs steps = λ keep k.
    let setup = setup_of own keep in
    let stepped : step setup (after_steps setup s done) taken ≡ record { state = u; answer = answer } =
    ap (λ (at : State). step setup at taken) (runs keep k).0 ∙ steps keep k in (
      after-last setup done taken s ∙ ap (λ (x : Stepped). x.state) stepped,
      answers-last setup done taken s
          ∙ ap (λ (x : Stepped). answers_to setup s done ++ x.answer ∷ []) stepped
          ∙ ap (λ (before : List StepAnswer). before ++ answer ∷ []) (runs keep k).1,
    )

pub runs_more : (own same : Fixed) (s t u : State) (done : List Step) (answers more : List StepAnswer) (taken : Step)
    → same ≡ own → RunsTo own s done t answers
    → (answer : StepAnswer) × StepsTo same t taken u answer × (more ≡ answers ++ answer ∷ [])
    → RunsTo own s (done ++ taken ∷ []) u more
runs_more own same s t u done answers more taken at runs (answer, steps, is) =
    subst
    (λ (all : List StepAnswer). RunsTo own s (done ++ taken ∷ []) u all)
    (sym is)
    (runs_on own s t u done answers taken answer runs
    (subst (λ (fixed : Fixed). StepsTo fixed t taken u answer) at steps))
