-- What stays as it is while the steps are taken.
use Rattle.std.specs.Prelude.{ℕ, Bool, List}
use Rattle.apiservice_rows.specs.Row.{Row}
use Rattle.audit_core.specs.declared.settings.Settings.{Settings}
use Rattle.audit_core.specs.declared.sinks.Sink.{Sink}
use Rattle.stage_event.specs.declared.facts.Kept.{Kept}
use Rattle.model_worlds.specs.declared.state.Limits.{Limits}

pub record Setup : Type 0 where
  pub set : Settings
  -- the rows of the table before any change
  pub opening : List Row
  -- the word that audit IDs begin with
  pub boot : ℕ
  -- how many lines the buffer of a sink may hold
  pub capacity : Sink → ℕ
  -- how many lines its writer may try at once
  pub limits : Limits
  -- what is kept of a body, by whether managed fields are omitted. The server keeps what `IsKept` says, which is one answer
  -- for each body (`one_kept`); of the laws of this crate only one clause of `what_is_alike` asks for that
  pub keep : Bool → List ℕ → Kept
