-- Whether a query asks for less than its path names: for some of the objects, or that a change be tried only (Kubernetes, "Labels and
-- Selectors", "Field Selectors", and "API concepts": dry-run).
use Rattle.std.specs.Prelude.{ℕ, ◌==◌, Bool, false, not, ◌||◌, ◌&&◌, List, [], ◌∷◌, Option, Some, None, codes, bytes_eq, if◌then◌else◌}
use Rattle.std.specs.List.{list_any, before_first, after_first}
use Rattle.form_urlencoded.specs.Form.{raw_pairs}
use Rattle.request_info.specs.Target.{query_of}
use Rattle.request_info.specs.Watch.{text_of}

abbrev pub is_selector : List ℕ → Bool
is_selector name = bytes_eq name (codes "labelSelector") || bytes_eq name (codes "fieldSelector")

-- the pair that asks for a dry run
abbrev pub is_trial : List ℕ → Bool
is_trial name = bytes_eq name (codes "dryRun")

-- a pair of the target's query asks for one, whatever its value is
abbrev pub asks_trial : List ℕ → Bool
asks_trial target = list_any (λ pair. is_trial (text_of pair.0)) (raw_pairs (query_of target))

-- a selector with a value, or a dry run of another kind than `All`, the only one that there is
abbrev pub is_selecting : List ℕ → List ℕ → Bool
is_selecting name value =
    (is_trial name && not (bytes_eq value (codes "All"))) || (is_selector name && not (bytes_eq value []))

-- a pair of the target's query is one
abbrev pub asks_selection : List ℕ → Bool
asks_selection target = list_any (λ pair. is_selecting (text_of pair.0) (text_of pair.1)) (raw_pairs (query_of target))

-- ---- one object by its name

abbrev pub is_equals : ℕ → Bool
is_equals b = b == 61

-- the field of a selector of one term, and the value that it is to have
abbrev pub field_of : List ℕ → List ℕ
field_of selector = before_first is_equals selector

abbrev pub wanted_of : List ℕ → List ℕ
wanted_of selector = after_first is_equals selector

-- a comma, an equals sign or a backslash, which a value in a field selector has escaped
abbrev pub is_escaped : ℕ → Bool
is_escaped b = b == 44 || (b == 61 || b == 92)

-- a name that a selector spells as it is
abbrev pub is_plain : List ℕ → Bool
is_plain name = not (bytes_eq name []) && not (list_any is_escaped name)

-- the name in `metadata.name=NAME`; other selectors have none
abbrev pub name_in : List ℕ → Option (List ℕ)
name_in selector =
    if bytes_eq (field_of selector) (codes "metadata.name") && is_plain (wanted_of selector) then Some (wanted_of selector) else None

abbrev pub name_if_any : Option (List ℕ) → Option (List ℕ)
name_if_any None = None
name_if_any (Some selector) = name_in selector

-- a field selector that isn't empty
abbrev pub is_field_selector : List ℕ → List ℕ → Bool
is_field_selector name value = bytes_eq name (codes "fieldSelector") && not (bytes_eq value [])

-- the first one of these pairs
unfoldable pub first_selector : List (List ℕ × List ℕ) → Option (List ℕ)
first_selector [] = None
first_selector (pair ∷ rest) =
    if is_field_selector (text_of pair.0) (text_of pair.1) then Some (text_of pair.1) else first_selector rest

-- the name that the first field selector of the target's query asks for, if it asks for one
abbrev pub selected_name : List ℕ → Option (List ℕ)
selected_name target = name_if_any (first_selector (raw_pairs (query_of target)))

-- a pair asks for the object of that name
abbrev pub asks_name : Option (List ℕ) → List ℕ → List ℕ → Bool
asks_name None name value = false
asks_name (Some wanted) name value =
    bytes_eq name (codes "fieldSelector")
    && (bytes_eq (field_of value) (codes "metadata.name") && bytes_eq (wanted_of value) wanted)

-- it asks for less in another way
abbrev pub is_else : Option (List ℕ) → List ℕ → List ℕ → Bool
is_else chosen name value = is_selecting name value && not (asks_name chosen name value)

-- a pair of the target's query asks for less than its path names, and not for the object of the selected name
abbrev pub asks_else : List ℕ → Bool
asks_else target =
    list_any (λ pair. is_else (selected_name target) (text_of pair.0) (text_of pair.1)) (raw_pairs (query_of target))
