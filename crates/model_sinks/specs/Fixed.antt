-- What stays as it is while steps are taken.
use Rattle.std.specs.Prelude.{◌≡◌, ℕ, Bool, List}
use Rattle.apiservice_rows.specs.Row.{Row}
use Rattle.audit_core.specs.declared.settings.Settings.{Settings}
use Rattle.audit_core.specs.declared.sinks.Sink.{Sink}
use Rattle.audit_core.specs.declared.sinks.Sink.TheVariants.{Log, Webhook}
use Rattle.stage_event.specs.Kept.{IsKept}
use Rattle.stage_event.specs.declared.facts.Kept.{Kept}
use Rattle.model_worlds.specs.Setup.{Setup}
use Rattle.model_worlds.specs.declared.state.Limits.{Limits}

-- what contracts see of it: all but what is kept of bodies
pub record Fixed : Type 0 where
  pub settings : Settings
  pub opening : List Row
  pub boot : ℕ
  pub log_capacity : ℕ
  pub hook_capacity : ℕ
  pub limits : Limits

abbrev pub capacity_of : Fixed → Sink → ℕ
capacity_of own Log = own.log_capacity
capacity_of own Webhook = own.hook_capacity

-- as the laws of steps have it, with what is kept of each body
abbrev pub setup_of : Fixed → (Bool → List ℕ → Kept) → Setup
setup_of own keep =
    record {
      set = own.settings;
      opening = own.opening;
      boot = own.boot;
      capacity = capacity_of own;
      limits = own.limits;
      keep = keep;
    }

-- what is kept of a body is what events keep of it
abbrev pub Keeps : (Bool → List ℕ → Kept) → Type 0
Keeps keep = (omit : Bool) (body : List ℕ) (kept : Kept) → IsKept omit body kept → keep omit body ≡ kept
