-- What the body of a DELETE asks for (Kubernetes, "API reference": DeleteOptions, Preconditions).
use Rattle.std.specs.Prelude.{ℕ, ◌==◌, ◌||◌, ◌&&◌, Bool, true, false, is_some, if◌then◌else◌, List, length, Option, Some, None, codes}
use Rattle.serde_json.specs.Data.{Data, null, boolean, number, string, array, object, Items, no_items, item}
use Rattle.serde_json.specs.Find.{as_object}
use Rattle.json_value.specs.Members.{is_text, present}
use Rattle.json_value.specs.Read.{value_of}
use Rattle.write_bodies.specs.declared.deletion.Deletion.{Deletion}
use Rattle.write_bodies.specs.declared.deletion.Deletion.TheVariants.{Plain, Trial, Conditional}

-- the kind of such options, which they may leave out
abbrev pub is_kind : Option Data → Bool
is_kind None = true
is_kind (Some d) = is_text (codes "DeleteOptions") (Some d)

-- each item is the only kind of dry run that there is
abbrev pub are_all : Items → Bool
are_all no_items = true
are_all (item d ds) = is_text (codes "All") (Some d) && are_all ds

abbrev pub is_filled : Items → Bool
is_filled no_items = false
is_filled (item d ds) = true

-- a list of such kinds asks for a dry run, unless it is empty
abbrev pub trial_by : Items → Option Bool
trial_by ds = if are_all ds then Some (is_filled ds) else None

abbrev pub trial_in : Option Data → Option Bool
trial_in None = Some false
trial_in (Some null) = None
trial_in (Some (boolean b)) = None
trial_in (Some (number n)) = None
trial_in (Some (string s)) = None
trial_in (Some (array ds)) = trial_by ds
trial_in (Some (object ms)) = None

abbrev pub may_be_text : Option Data → Bool
may_be_text None = true
may_be_text (Some null) = false
may_be_text (Some (boolean b)) = false
may_be_text (Some (number n)) = false
may_be_text (Some (string s)) = true
may_be_text (Some (array ds)) = false
may_be_text (Some (object ms)) = false

-- the object must have the `uid` or the `resourceVersion` that is named
abbrev pub condition_of : Data → Option Bool
condition_of d =
    if is_some (as_object d) && (may_be_text (present (codes "uid") d) && may_be_text (present (codes "resourceVersion") d)) then
    Some (is_some (present (codes "uid") d) || is_some (present (codes "resourceVersion") d))
    else None

abbrev pub condition_in : Option Data → Option Bool
condition_in None = Some false
condition_in (Some d) = condition_of d

-- a condition comes before a dry run
abbrev pub kind_of : Bool → Bool → Deletion
kind_of conditional trial = if conditional then Conditional else if trial then Trial else Plain

abbrev pub by : Option Bool → Option Bool → Option Deletion
by None trial = None
by (Some conditional) None = None
by (Some conditional) (Some trial) = Some (kind_of conditional trial)

abbrev pub options_of : Data → Option Deletion
options_of d =
    if is_some (as_object d) && is_kind (present (codes "kind") d) then
    by (condition_in (present (codes "preconditions") d)) (trial_in (present (codes "dryRun") d))
    else None

abbrev pub options_if : Option Data → Option Deletion
options_if None = None
options_if (Some d) = options_of d

-- an empty body has none; any other must be such options
unfoldable pub deletion_of : List ℕ → Option Deletion
deletion_of body = if length body == 0 then Some Plain else options_if (value_of body)
