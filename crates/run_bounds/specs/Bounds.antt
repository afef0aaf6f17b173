-- Exchanges none of whose events is too large for a line (Kubernetes, "Auditing": audit backends).
use Rattle.std.specs.Prelude.{List}
use Rattle.std.specs.List.{AllByRecursion}
use Rattle.audit_core.specs.Owed.{owed}
use Rattle.audit_core.specs.declared.offers.OfferNote.{OfferNote}
use Rattle.audit_core.specs.declared.settings.Settings.{Settings}
use Rattle.request_bounds.specs.Bounds.{IsOffered, IsWritten}
use Rattle.session_core.specs.Exchange.{WasRead}
use Rattle.session_core.specs.declared.exchange.Exchange.{Exchange}
use Rattle.stage_event.specs.declared.event.Event.{Event}
use Rattle.truncate_backend.specs.Fits.{fitted}

-- of each event that is owed a line is written, at least without objects, and none was noted as too large
pub record Fits (set : Settings) (x : Exchange) : Type 0 where
  pub events : AllByRecursion (λ (e : Event). IsWritten (fitted e set.max_event)) (owed x.decision x.facts)
  pub offers : AllByRecursion (λ (note : OfferNote). IsOffered note.outcome) x.offers

-- and so for each of these
abbrev pub AllFit : Settings → List Exchange → Type 0
AllFit set xs = AllByRecursion (Fits set) xs

-- the request of each was read, so its head has no more bytes than a head may have
abbrev pub AllRead : List Exchange → Type 0
AllRead xs = AllByRecursion (λ (x : Exchange). WasRead x.request) xs
