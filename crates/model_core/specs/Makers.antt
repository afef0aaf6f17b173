-- Which exchanges made the changes of the table.
use Rattle.std.specs.Prelude.{ℕ, ◌+◌, Bool, true, false, not, ◌&&◌, ◌==◌, List, [], ◌∷◌, take, Option, Some, None, is_none}
use Rattle.apiservice_table.specs.declared.change.Change.{Change}
use Rattle.audit_core.specs.Offers.{has_refused}
use Rattle.model_worlds.specs.Setup.{Setup}
use Rattle.model_worlds.specs.Steps.{change_refusal}
use Rattle.model_worlds.specs.declared.state.Bay.{Bay}
use Rattle.model_worlds.specs.declared.state.Exchange.{Exchange}
use Rattle.model_worlds.specs.declared.state.Open.{Open}

-- a change is asked for, and the rows after those changes don't refuse it
abbrev pub is_accepted : Setup → List Change → Option Change → Bool
is_accepted setup before None = false
is_accepted setup before (Some change) = is_none (change_refusal setup before change)

-- where an exchange's change was decided, it is the one at that place
abbrev pub makes : Setup → List Change → ℕ → Exchange → Bool
makes setup changes place x = (x.seen == place) && is_accepted setup (take x.seen changes) x.asked

abbrev pub one_if : Bool → ℕ
one_if true = 1
one_if false = 0

-- how many exchanges that are over made the change at that place: the change was decided unless a strict sink failed
abbrev pub closed_makers : Setup → List Change → ℕ → List Exchange → ℕ
closed_makers setup changes place [] = 0
closed_makers setup changes place (x ∷ xs) =
    one_if (not (has_refused setup.set x.notes) && makes setup changes place x) + closed_makers setup changes place xs

abbrev pub open_makers : Setup → List Change → ℕ → Option Open → ℕ
open_makers setup changes place None = 0
open_makers setup changes place (Some o) = one_if (o.phase.decided && makes setup changes place o.exchange)

abbrev pub bay_makers : Setup → List Change → ℕ → Bay → ℕ
bay_makers setup changes place b = closed_makers setup changes place b.closed + open_makers setup changes place b.current

-- how many exchanges of all bays did
abbrev pub makers : Setup → List Change → ℕ → List Bay → ℕ
makers setup changes place [] = 0
makers setup changes place (b ∷ bs) = bay_makers setup changes place b + makers setup changes place bs
