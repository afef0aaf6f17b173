-- A list has at most as many items as values inside.
use Rattle.std.proofs.Common.{◌≡◌, ◌≤◌, List, [], ◌∷◌, length, Some, arith}
use Rattle.serde_json.specs.Data.{Data, null, boolean, number, string, array, object}
use Rattle.serde_json.specs.Find.{as_array}
use Rattle.serde_json.specs.View.{items_view}
use Rattle.serde_json.specs.declared.value.Value.{Value}
use Rattle.json_value.specs.Size.{inside, inside_items}

items_inside : (xs : List Value) → length xs ≤ inside_items (items_view xs)
items_inside [] = omega arith
items_inside (x ∷ xs) = omega (arith, items_inside xs)

pub list_inside : (d : Data) (xs : List Value) → Some (items_view xs) ≡ as_array d → length xs ≤ inside d
list_inside (array ds) xs e =
    let same : items_view xs ≡ ds = cc e in
    rw same at (items_inside xs)
list_inside null xs e = absurd (cc e)
list_inside (boolean b) xs e = absurd (cc e)
list_inside (number n) xs e = absurd (cc e)
list_inside (string s) xs e = absurd (cc e)
list_inside (object ms) xs e = absurd (cc e)
