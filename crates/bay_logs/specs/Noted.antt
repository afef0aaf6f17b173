-- What is known of a bay's exchanges, whatever came of them: each is recorded as a request of its own (Kubernetes, "Auditing").
use Rattle.std.specs.Prelude.{◌≡◌, ℕ, ◌+◌, List, [], ◌∷◌}
use Rattle.audit_check.specs.OwnLines.{IsRecorded}
use Rattle.audit_core.specs.declared.settings.Settings.{Settings}
use Rattle.audit_core.specs.declared.stamp.Stamp.{Stamp}
use Rattle.fact_ranges.specs.InRange.{AreInRange}
use Rattle.session_core.specs.declared.exchange.Exchange.{Exchange}

-- the request that it answered was recorded under the audit ID of that word, bay and number, with facts in the range of their types
pub record IsNoted (set : Settings) (boot bay number : ℕ) (x : Exchange) : Type 0 where
  pub stamp : Stamp
  pub id_is : stamp.id ≡ record { boot = boot; bay = bay; number = number }
  pub recorded : IsRecorded set stamp x.request x.decision x.facts
  pub in_range : AreInRange x.facts

-- and so is each of these, with numbers that go up by one from this one
abbrev pub AreNoted : Settings → ℕ → ℕ → ℕ → List Exchange → Type 0
AreNoted set boot bay number [] = Unit {0}
AreNoted set boot bay number (x ∷ xs) = IsNoted set boot bay number x × AreNoted set boot bay (number + 1) xs
