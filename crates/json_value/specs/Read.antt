-- The value of a JSON text.
use Rattle.std.specs.Prelude.{◌≡◌, ℕ, List, Option, Some, None, Result, Ok, Err, if◌then◌else◌}
use Rattle.std.specs.Str.{is_utf8}
use Rattle.serde_json.specs.Data.{Data}
use Rattle.serde_json.specs.Read.{read}
use Rattle.json_value.specs.declared.fault.ValueError.{ValueError}
use Rattle.json_value.specs.declared.fault.ValueError.TheVariants.{NotJson, NoMemory}

-- the value that the bytes are as JSON (RFC 8259) in UTF-8; none where they are no such text, where arrays and objects
-- nest more than 127 deep, where a number is past the range of a double, and where an escape is half a surrogate pair
unfoldable pub value_of : List ℕ → Option Data
value_of bytes = if is_utf8 bytes then read bytes else None

-- bytes that were refused have no value, unless memory ran out
abbrev pub Fails : ValueError → Option Data → Type 0
Fails NotJson due = due ≡ None
Fails NoMemory due = Unit {0}

-- what was answered, seen by view, is the value that is due, unless memory ran out
abbrev pub Gives : {X : Type 0} → (X → Data) → Result X ValueError → Option Data → Type 0
Gives view (Ok x) due = due ≡ Some (view x)
Gives view (Err e) due = Fails e due
