-- Logs that are made of others.
use Rattle.std.specs.Prelude.{◌≡◌, ◌⊎◌, ℕ, Bool, List, [], ◌∷◌, map}
use Rattle.audit_core.specs.declared.offers.Outcome.{Outcome}
use Rattle.audit_core.specs.declared.settings.Settings.{Settings}
use Rattle.audit_core.specs.declared.sinks.Sink.{Sink}
use Rattle.connection_laws.specs.Whole.{offered_in, offers_in}
use Rattle.event_offers.specs.Taken.{lines_for}
use Rattle.front_base.specs.Line.{Line}
use Rattle.session_core.specs.declared.exchange.Exchange.{Exchange}
use Rattle.shared_queue.specs.Bays.{of_bay}

-- the texts of lines
abbrev pub texts : List Line → List (List ℕ)
texts lines = map (λ (l : Line). l.bytes) lines

-- some of these lines, in order
abbrev pub IsPart : List (List ℕ) → List (List ℕ) → Type 0
IsPart [] lines = Unit {0}
IsPart (line ∷ part) [] = ⊥
IsPart (line ∷ part) (first ∷ lines) = ((line ≡ first) × IsPart part lines) ⊎ IsPart (line ∷ part) lines

-- lines of bays in any order of their turns: of each bay they have, in order, the lines of those offers to the sink that became such
abbrev pub AreWoven : (Outcome → Bool) → Settings → Sink → (ℕ → List Exchange) → List Line → Type 0
AreWoven keeps set sink xs lines =
    (bay : ℕ) → of_bay bay lines ≡ lines_for keeps sink bay 0 (offered_in set (xs bay)) (offers_in (xs bay))
