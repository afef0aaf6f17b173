-- How many values stand inside a value.
use Rattle.std.specs.Prelude.{ℕ, suc, ◌+◌}
use Rattle.serde_json.specs.Data.{Data, null, boolean, number, string, array, object, Items, no_items, item, Members, no_members, member}

abbrev mutual
  pub inside : Data → ℕ
  inside null = 0
  inside (boolean b) = 0
  inside (number n) = 0
  inside (string s) = 0
  inside (array ds) = inside_items ds
  inside (object ms) = inside_members ms

  pub inside_items : Items → ℕ
  inside_items no_items = 0
  inside_items (item d ds) = suc (inside d + inside_items ds)

  pub inside_members : Members → ℕ
  inside_members no_members = 0
  inside_members (member k d ms) = suc (inside d + inside_members ms)
