-- What an offer of a bay leaves.
use Rattle.std.specs.Prelude.{◌≡◌, ℕ, Bool, false, ◌&&◌, List, [], ◌∷◌, Option, Some, None, ⊤}
use Rattle.audit_core.specs.Offers.{Due}
use Rattle.audit_core.specs.declared.offers.Outcome.{Outcome}
use Rattle.audit_core.specs.declared.sinks.Sink.{Sink}
use Rattle.model_sinks.specs.Running.{PushedTo}
use Rattle.model_worlds.specs.Setup.{Setup}
use Rattle.model_worlds.specs.Steps.{no_wait, noted, pushed, same_sink, settled}
use Rattle.model_worlds.specs.declared.state.Bay.{Bay}
use Rattle.model_worlds.specs.declared.state.Exchange.{Exchange}
use Rattle.model_worlds.specs.declared.state.Open.{Open}
use Rattle.model_worlds.specs.declared.state.Shared.{Shared}
use Rattle.model_worlds.specs.declared.step.TryTold.{TryTold}

-- the exchanges that are over and the one that isn't are those of `settled`, whatever the bay's numbers are
abbrev pub SettledTo : Open → List Exchange → List Exchange → Option Open → Type 0
SettledTo o closed new current =
    (b : Bay) → b.closed ≡ closed → settled b o ≡ record b { closed = new; current = current }

abbrev pub is_over : Option Open → Bool
is_over None = false
is_over (Some o) = o.phase.finished && no_wait o.waiting

abbrev pub Settles : Option Open → List Exchange → List Exchange → Option Open → Type 0
Settles None closed new current = ⊤
Settles (Some o) closed new current = SettledTo o closed new current

-- the next line that waits is for that sink
abbrev pub waits_for : Sink → List Due → Bool
waits_for sink [] = false
waits_for sink (w ∷ rest) = same_sink w.sink sink

abbrev pub can_offer : Option Open → Sink → Bool
can_offer None sink = false
can_offer (Some o) sink = waits_for sink o.waiting

-- the first of these that wait was offered, came to that, and was noted
abbrev pub OffersFirst : Setup → ℕ → TryTold → Shared → Open → Outcome → Shared → Open → List Due → Type 0
OffersFirst setup bay works sh o own new_sh new [] = ⊤
OffersFirst setup bay works sh o own new_sh new (w ∷ rest) =
    PushedTo (pushed setup bay works sh w) w.sink sh new_sh own × (new ≡ noted setup w rest own o)

-- then the exchange was settled
abbrev pub OffersCurrent : Setup → ℕ → TryTold → Shared → List Exchange → Option Open → Outcome → Shared → List Exchange
    → Option Open → Type 0
OffersCurrent setup bay works sh closed None own new_sh new_closed current = ⊤
OffersCurrent setup bay works sh closed (Some o) own new_sh new_closed current =
    (new : Open) × OffersFirst setup bay works sh o own new_sh new o.waiting × SettledTo new closed new_closed current
