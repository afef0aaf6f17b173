-- What the requests of a connection do together (Kubernetes, "Auditing").
use Rattle.std.specs.Prelude.{◌≡◌, ℕ, ◌+◌, ◌&&◌, Bool, true, false, List, [], ◌∷◌, ◌++◌, length, map, take, ⊤}
use Rattle.audit_core.specs.Offers.{Due, offers_due}
use Rattle.audit_core.specs.Owed.{owed}
use Rattle.audit_core.specs.declared.offers.OfferNote.{OfferNote}
use Rattle.audit_core.specs.declared.offers.Outcome.{Outcome}
use Rattle.audit_core.specs.declared.offers.Outcome.TheVariants as outcome
use Rattle.audit_core.specs.declared.settings.Settings.{Settings}
use Rattle.audit_core.specs.declared.sinks.Sink.{Sink}
use Rattle.event_offers.specs.Offering.{OffersAll, note_of}
use Rattle.event_offers.specs.Taken.{is_for}
use Rattle.front_ports.specs.Told.{Adds}
use Rattle.http_edge.specs.declared.request.Request.{Request}
use Rattle.session_core.specs.Bays.{BayState}
use Rattle.session_core.specs.declared.conn_end.ConnEnd.{ConnEnd}
use Rattle.session_core.specs.declared.conn_end.ConnEnd.TheVariants as conn_end
use Rattle.session_core.specs.declared.exchange.Exchange.{Exchange}

-- what all events that exchanges owe are due, one exchange after another
abbrev pub due_in : Settings → List Exchange → List Due
due_in set [] = []
due_in set (x ∷ xs) = offers_due set (owed x.decision x.facts) ++ due_in set xs

-- as much of what an exchange is due as became of it something, and of all of them
abbrev pub offered_of : Settings → Exchange → List Due
offered_of set x = take (length x.offers) (offers_due set (owed x.decision x.facts))

abbrev pub offered_in : Settings → List Exchange → List Due
offered_in set [] = []
offered_in set (x ∷ xs) = offered_of set x ++ offered_in set xs

-- the requests that they answered
abbrev pub requests_in : List Exchange → List Request
requests_in xs = map (λ x. x.request) xs

-- what became of all offers
abbrev pub offers_in : List Exchange → List OfferNote
offers_in [] = []
offers_in (x ∷ xs) = x.offers ++ offers_in xs

-- of what is due it is noted what became of it, in order
abbrev pub AreNotesOf : List Due → List OfferNote → Type 0
AreNotesOf [] notes = notes ≡ []
AreNotesOf (due ∷ dues) notes =
    (own : Outcome) × (rest : List OfferNote) × (notes ≡ note_of due own ∷ rest) × AreNotesOf dues rest

-- what was offered of an exchange is a prefix of what its events are due, and this is the rest
pub record IsOffered (set : Settings) (x : Exchange) (rest : List Due) : Type 0 where
  pub due_is : offers_due set (owed x.decision x.facts) ≡ offered_of set x ++ rest
  pub notes : AreNotesOf (offered_of set x) x.offers

-- of each exchange all was offered, but of the last one a rest may be left
abbrev pub EachOffered : Settings → List Exchange → List Due → Type 0
EachOffered set [] rest = rest ≡ []
EachOffered set (x ∷ []) rest = IsOffered set x rest
EachOffered set (x ∷ y ∷ more) rest = IsOffered set x [] × EachOffered set (y ∷ more) rest

-- a bay's diary, its lanes and its numbers tell these exchanges and no other: each offer that they are due was made, in order, and
-- noted, and nothing else was offered; but a rest may not have been reached
pub record Tells (set : Settings) (m n : BayState) (xs : List Exchange) (rest : List Due) : Type 0 where
  pub due_is : due_in set xs ≡ offered_in set xs ++ rest
  pub each : EachOffered set xs rest
  pub offered : OffersAll (offered_in set xs) m.lanes (offers_in xs) n.lanes
  pub noted : Adds m.notes n.notes xs
  pub number_is : n.number ≡ m.number + length xs

-- only want of memory leaves a rest
abbrev pub CanLeave : ConnEnd → List Due → Type 0
CanLeave (conn_end.Stopped end) rest = rest ≡ []
CanLeave conn_end.ReadFault rest = rest ≡ []
CanLeave conn_end.WriteFault rest = rest ≡ []
CanLeave conn_end.BackendCut rest = rest ≡ []
CanLeave conn_end.StreamSpent rest = rest ≡ []
CanLeave conn_end.NumbersSpent rest = rest ≡ []
CanLeave conn_end.NoMemory rest = ⊤

-- ---- counts

abbrev pub is_full : Outcome → Bool
is_full outcome.Taken = false
is_full outcome.Full = true
is_full outcome.Failed = false
is_full (outcome.TooLarge size) = false

abbrev pub is_failure : Outcome → Bool
is_failure outcome.Taken = false
is_failure outcome.Full = false
is_failure outcome.Failed = true
is_failure (outcome.TooLarge size) = false

abbrev pub one_if : Bool → ℕ
one_if true = 1
one_if false = 0

-- how many offers to a sink became such
abbrev pub count_of : (Outcome → Bool) → Sink → List OfferNote → ℕ
count_of such sink [] = 0
count_of such sink (note ∷ notes) = one_if (is_for sink note.sink && such note.outcome) + count_of such sink notes
