-- The members of a JSON value.
use Rattle.std.specs.Prelude.{ℕ, Bool, true, false, List, Option, Some, None, option_and_then, Result, Ok}
use Rattle.std.specs.Str.{bytes_eq}
use Rattle.serde_json.specs.Data.{Data, null, boolean, number, string, array, object, Items}
use Rattle.serde_json.specs.Find.{get, as_array, as_bool, as_str}
use Rattle.json_value.specs.Results.{◌>>=◌, found_or}

abbrev pub not_null : Data → Option Data
not_null null = None
not_null (boolean b) = Some (boolean b)
not_null (number n) = Some (number n)
not_null (string s) = Some (string s)
not_null (array ds) = Some (array ds)
not_null (object ms) = Some (object ms)

-- the member of that name; null counts as absent
abbrev pub present : List ℕ → Data → Option Data
present name d = option_and_then not_null (get name d)

-- the member of that name of the member of another name
abbrev pub inner : List ℕ → List ℕ → Data → Option Data
inner outer name d = option_and_then (present name) (present outer d)

abbrev pub text_in : Option Data → Option (List ℕ)
text_in found = option_and_then as_str found

-- that very text
abbrev pub is_text : List ℕ → Option Data → Bool
is_text text None = false
is_text text (Some null) = false
is_text text (Some (boolean b)) = false
is_text text (Some (number n)) = false
is_text text (Some (string s)) = bytes_eq s text
is_text text (Some (array ds)) = false
is_text text (Some (object ms)) = false

abbrev pub is_object : Data → Bool
is_object null = false
is_object (boolean b) = false
is_object (number n) = false
is_object (string s) = false
is_object (array ds) = false
is_object (object ms) = true

-- what is read of a value that must be a list
abbrev pub listed : {A E : Type 0} → E → (Items → Result A E) → Data → Result A E
listed fault read d = found_or fault (as_array d) >>= read

-- what is read of a member that must be a list, and what stands for one that is absent
abbrev pub list_or : {A E : Type 0} → E → Result A E → (Items → Result A E) → Option Data → Result A E
list_or fault absent read None = absent
list_or fault absent read (Some d) = listed fault read d

-- a member that must be true or false, and what stands for one that is absent
abbrev pub bool_or : {E : Type 0} → E → Bool → Option Data → Result Bool E
bool_or fault absent None = Ok absent
bool_or fault absent (Some d) = found_or fault (as_bool d)
