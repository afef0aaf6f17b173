-- What a row carries of its object, as JSON without white space (Kubernetes, `meta/v1`: TableRow, PartialObjectMetadata).
use Rattle.std.specs.Prelude.{ℕ, List, ◌++◌, codes, Option, Some, None, if◌then◌else◌}
use Rattle.serde_json.specs.Data.{Data, null, boolean, number, string, array, object, put}
use Rattle.serde_json.specs.Written.{has_float, compact_text}
use Rattle.json_value.specs.Members.{present}
use Rattle.service_tables.specs.declared.include.IncludeObject.{IncludeObject}
use Rattle.service_tables.specs.declared.include.IncludeObject.TheVariants as include

abbrev pub metadata_in : Option Data → List ℕ
metadata_in None = codes "{}"
metadata_in (Some d) = if has_float d then codes "{}" else compact_text d

-- the metadata of an object; those that rows are read from have no number that isn't whole
abbrev pub metadata_text : Data → List ℕ
metadata_text d = metadata_in (present (codes "metadata") d)

unfoldable pub partial_text : List ℕ → List ℕ
partial_text metadata =
    codes "{\"kind\":\"PartialObjectMetadata\",\"apiVersion\":\"meta.k8s.io/v1\",\"metadata\":" ++ (metadata ++ codes "}")

-- an object with its kind and its version, which the items of a list may lack
abbrev pub with_head : Data → Data
with_head null = null
with_head (boolean b) = boolean b
with_head (number n) = number n
with_head (string s) = string s
with_head (array ds) = array ds
with_head (object ms) =
    object (put (codes "kind") (string (codes "APIService")) (put (codes "apiVersion") (string (codes "apiregistration.k8s.io/v1")) ms))

-- a value, which has no number that isn't whole
abbrev pub whole_text : Data → List ℕ
whole_text d = if has_float d then codes "null" else compact_text d

abbrev pub object_text : IncludeObject → Data → List ℕ
object_text include.None d = codes "null"
object_text include.Metadata d = partial_text (metadata_text d)
object_text include.Object d = whole_text (with_head d)
