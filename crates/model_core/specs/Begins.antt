-- The Begins that a bay took, and the exchanges that they began.
use Rattle.std.specs.Prelude.{◌≡◌, ℕ, ◌+◌, Bool, true, false, ◌&&◌, ◌==◌, if◌then◌else◌, List, [], ◌∷◌, ◌++◌, Option, Some, None}
use Rattle.http_edge.specs.declared.request.Request.{Request}
use Rattle.model_worlds.specs.Requests.{Wish, wish_of}
use Rattle.model_worlds.specs.Setup.{Setup}
use Rattle.model_worlds.specs.Steps.{answers_to, start}
use Rattle.model_worlds.specs.declared.state.Bay.{Bay}
use Rattle.model_worlds.specs.declared.state.Exchange.{Exchange}
use Rattle.model_worlds.specs.declared.state.Open.{Open}
use Rattle.model_worlds.specs.declared.step.Step.{Step}
use Rattle.model_worlds.specs.declared.step.Step.TheVariants as step
use Rattle.model_worlds.specs.declared.step.StepAnswer.{StepAnswer}
use Rattle.model_worlds.specs.declared.step.StepAnswer.TheVariants.{Begun, Found, Offered, Noted, Changed, Took, Wrote, Lost, Idle}

-- ---- the Begins

-- a Begin that was taken: its place in the list of steps, and what it brought in
pub record Arrival : Type 0 where
  pub place : ℕ
  pub request : Request
  pub peer : List ℕ
  pub moment : ℕ

abbrev pub is_begun : StepAnswer → Bool
is_begun Begun = true
is_begun (Found row) = false
is_begun (Offered outcome) = false
is_begun Noted = false
is_begun (Changed fault) = false
is_begun (Took line) = false
is_begun (Wrote count) = false
is_begun (Lost count) = false
is_begun Idle = false

-- the step at that place, where it is a Begin that this bay took
abbrev pub arrivals_at : ℕ → ℕ → Step → StepAnswer → List Arrival
arrivals_at bay place (step.Begin at request peer moment) answer =
    if (at == bay) && is_begun answer
    then record { place = place; request = request; peer = peer; moment = moment } ∷ []
    else []
arrivals_at bay place (step.Find at seen) answer = []
arrivals_at bay place (step.Offer at sink works) answer = []
arrivals_at bay place (step.Started at status moment) answer = []
arrivals_at bay place (step.Finish at link reply moment) answer = []
arrivals_at bay place (step.Change at) answer = []
arrivals_at bay place (step.Take sink) answer = []
arrivals_at bay place (step.Cut sink works) answer = []

-- the Begins that a bay took among these steps, which stand from that place on and were answered so
abbrev pub arrivals : ℕ → ℕ → List Step → List StepAnswer → List Arrival
arrivals bay place [] answers = []
arrivals bay place (own ∷ steps) [] = []
arrivals bay place (own ∷ steps) (answer ∷ answers) =
    arrivals_at bay place own answer ++ arrivals bay (place + 1) steps answers

-- all that it took, in order
abbrev pub arrivals_in : Setup → ℕ → List Step → ℕ → List Arrival
arrivals_in setup bays steps bay = arrivals bay 0 steps (answers_to setup (start bays) steps)

-- ---- the exchanges

abbrev pub open_exchange : Option Open → List Exchange
open_exchange None = []
open_exchange (Some o) = o.exchange ∷ []

-- the exchanges of a bay: those that are over, and then the one that isn't
abbrev pub exchanges_of : Bay → List Exchange
exchanges_of b = b.closed ++ open_exchange b.current

-- what an exchange says of its request
abbrev pub wished : Exchange → Wish
wished x =
    record {
      level = x.level;
      target = x.facts.target;
      info = x.facts.info;
      user = x.facts.user;
      acting = x.facts.acting;
      peer = x.facts.peer;
      agent = x.facts.agent;
      errand = x.errand;
      asked = x.asked;
      is_head = x.is_head;
      managed = x.managed;
      body = x.facts.request;
    }

-- it is what the request means that this Begin brought in, and was received at that moment
pub record HasRequest (setup : Setup) (begin : Arrival) (x : Exchange) : Type 0 where
  pub means : wished x ≡ wish_of setup begin.peer begin.request begin.moment
  pub received : x.facts.received ≡ begin.moment

-- each of these Begins began one of these exchanges, in order, and there are no others
abbrev pub Began : Setup → List Arrival → List Exchange → Type 0
Began setup [] [] = Unit {0}
Began setup [] (x ∷ xs) = ⊥
Began setup (begin ∷ more) [] = ⊥
Began setup (begin ∷ more) (x ∷ xs) = HasRequest setup begin x × Began setup more xs
