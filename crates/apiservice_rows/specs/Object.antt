-- An APIService object (`apiregistration.k8s.io/v1`) and the row that it gives, or its first fault. `place` is its place
-- in a list, and None where it stands alone.
use Rattle.std.specs.Prelude.{ℕ, ◌+◌, ◌==◌, ◌&&◌, ◌||◌, nat_lt, Bool, true, false, if◌then◌else◌, List, [], ◌∷◌, length, Option, Some, None, is_some, option_and_then, Result, Ok, Err, codes}
use Rattle.std.specs.Char.{is_ascii_digit, is_ascii_lowercase}
use Rattle.std.specs.Str.{bytes_eq}
use Rattle.serde_json.specs.Data.{Data, Num, unsigned, negative, float, Items, no_items, item}
use Rattle.serde_json.specs.Find.{as_str, as_number}
use Rattle.serde_json.specs.Written.{compact_text}
use Rattle.json_value.specs.Head.{head_fault}
use Rattle.json_value.specs.Members.{present, inner, text_in, is_text, is_object, list_or}
use Rattle.json_value.specs.Read.{value_of}
use Rattle.json_value.specs.Results.{◌>>=◌, faultless, found_or}
use Rattle.apiservice_rows.specs.Row.{Row, own_name}
use Rattle.apiservice_rows.specs.declared.fault.RowFault.{RowFault}
use Rattle.apiservice_rows.specs.declared.fault.RowFault.TheVariants.{NotJson, BadField, NameMismatch, Range}
use Rattle.apiservice_rows.specs.declared.service.FoundService.{FoundService}
use Rattle.apiservice_rows.specs.declared.service.ServiceRef.{ServiceRef}

-- ---- what it is

-- an APIService of this version of its API, whose numbers are all whole and fit 64 bits
unfoldable pub head_of : Option ℕ → Data → Result (Unit {0}) RowFault
head_of place d = faultless (BadField place) (head_fault (is_some place) (codes "APIService") (codes "apiregistration.k8s.io/v1") d)

-- ---- whose it is

abbrev pub is_version_byte : ℕ → Bool
is_version_byte c = is_ascii_lowercase c || is_ascii_digit c || c == 45

abbrev pub is_name_byte : ℕ → Bool
is_name_byte c = is_version_byte c || c == 46

abbrev pub are_name_bytes : List ℕ → Bool
are_name_bytes [] = true
are_name_bytes (c ∷ rest) = is_name_byte c && are_name_bytes rest

abbrev pub are_version_bytes : List ℕ → Bool
are_version_bytes [] = true
are_version_bytes (c ∷ rest) = is_version_byte c && are_version_bytes rest

-- at most 253 lower-case letters, digits, `-` and `.`
abbrev pub is_group : List ℕ → Bool
is_group text = nat_lt (length text) 254 && are_name_bytes text

abbrev pub begins_with_letter : List ℕ → Bool
begins_with_letter [] = false
begins_with_letter (c ∷ rest) = is_ascii_lowercase c

-- 1 to 63 lower-case letters, digits and `-`, the first a letter
abbrev pub is_version : List ℕ → Bool
is_version text = nat_lt (length text) 64 && (begins_with_letter text && are_version_bytes text)

abbrev pub kept : (List ℕ → Bool) → Option (List ℕ) → Option (List ℕ)
kept test None = None
kept test (Some text) = if test text then Some text else None

abbrev pub is_not_empty : List ℕ → Bool
is_not_empty text = nat_lt 0 (length text)

unfoldable pub name_of : Option ℕ → Data → Result (List ℕ) RowFault
name_of place d =
    found_or (BadField place (codes "metadata.name")) (kept is_not_empty (text_in (inner (codes "metadata") (codes "name") d)))

abbrev pub some_group : Option ℕ → Data → Result (List ℕ) RowFault
some_group place d = found_or (BadField place (codes "spec.group")) (kept is_group (as_str d))

abbrev pub group_in : Option ℕ → Option Data → Result (List ℕ) RowFault
group_in place None = Ok []
group_in place (Some d) = some_group place d

-- absent is the core group, whose name is empty
unfoldable pub group_of : Option ℕ → Data → Result (List ℕ) RowFault
group_of place d = group_in place (inner (codes "spec") (codes "group") d)

unfoldable pub version_of : Option ℕ → Data → Result (List ℕ) RowFault
version_of place d =
    found_or (BadField place (codes "spec.version")) (kept is_version (text_in (inner (codes "spec") (codes "version") d)))

-- a whole number that fits 64 bits; one below 0 counts as 0, which is out of every range
abbrev pub whole : Num → Option ℕ
whole (unsigned n) = Some n
whole (negative z) = Some 0
whole (float x) = None

abbrev pub whole_in : Option Data → Option ℕ
whole_in found = option_and_then whole (option_and_then as_number found)

-- the number that `spec` has by that name; its path is given too
unfoldable pub priority_of : Option ℕ → List ℕ → List ℕ → Data → Result ℕ RowFault
priority_of place member name d = found_or (BadField place member) (whole_in (inner (codes "spec") name d))

unfoldable pub group_number_of : Option ℕ → Data → Result ℕ RowFault
group_number_of place d = priority_of place (codes "spec.groupPriorityMinimum") (codes "groupPriorityMinimum") d

unfoldable pub version_number_of : Option ℕ → Data → Result ℕ RowFault
version_number_of place d = priority_of place (codes "spec.versionPriority") (codes "versionPriority") d

-- ---- which service answers for it

abbrev pub some_present : Result FoundService RowFault → Result (Option FoundService) RowFault
some_present (Ok service) = Ok (Some service)
some_present (Err fault) = Err fault

abbrev pub is_service_name : List ℕ → Bool
is_service_name text = is_not_empty text && is_group text

-- the text that the service has by that name; its path is given too
unfoldable pub service_text : Option ℕ → List ℕ → List ℕ → Data → Result (List ℕ) RowFault
service_text place member name d = found_or (BadField place member) (kept is_service_name (text_in (present name d)))

abbrev pub port_in : Option ℕ → Option Data → Result ℕ RowFault
port_in place None = Ok 443
port_in place (Some d) = found_or (BadField place (codes "spec.service.port")) (whole_in (Some d))

-- the port of HTTPS where none is named, and in any range yet
unfoldable pub port_of : Option ℕ → Data → Result ℕ RowFault
port_of place d = port_in place (present (codes "port") d)

unfoldable pub present_service : Option ℕ → Data → Result FoundService RowFault
present_service place d = do
  namespace ← service_text place (codes "spec.service.namespace") (codes "namespace") d
  name ← service_text place (codes "spec.service.name") (codes "name") d
  port ← port_of place d
  Ok (record { namespace = namespace; name = name; port = port })

abbrev pub some_service : Option ℕ → Data → Result (Option FoundService) RowFault
some_service place d =
    if is_object d then some_present (present_service place d) else Err (BadField place (codes "spec.service"))

abbrev pub service_in : Option ℕ → Option Data → Result (Option FoundService) RowFault
service_in place None = Ok None
service_in place (Some d) = some_service place d

unfoldable pub service_of : Option ℕ → Data → Result (Option FoundService) RowFault
service_of place d = service_in place (inner (codes "spec") (codes "service") d)

-- ---- whether it is available

abbrev pub are_objects : Items → Bool
are_objects no_items = true
are_objects (item d ds) = is_object d && are_objects ds

-- the first condition of type `Available` has the status `True`, or there is none
abbrev pub is_available : Items → Bool
is_available no_items = true
is_available (item d ds) =
    if is_text (codes "Available") (present (codes "type") d) then
    is_text (codes "True") (present (codes "status") d)
    else is_available ds

abbrev pub available_by : Option ℕ → Items → Result Bool RowFault
available_by place ds =
    if are_objects ds then Ok (is_available ds) else Err (BadField place (codes "status.conditions"))

abbrev pub conditions_in : Option ℕ → Option Data → Result Bool RowFault
conditions_in place found = list_or (BadField place (codes "status.conditions")) (Ok true) (available_by place) found

abbrev pub some_status : Option ℕ → Data → Result Bool RowFault
some_status place d =
    if is_object d then conditions_in place (present (codes "conditions") d) else Err (BadField place (codes "status"))

abbrev pub status_in : Option ℕ → Option Data → Result Bool RowFault
status_in place None = Ok true
status_in place (Some d) = some_status place d

-- available where nothing is said
unfoldable pub available_of : Option ℕ → Data → Result Bool RowFault
available_of place d = status_in place (present (codes "status") d)

-- ---- the whole

unfoldable pub name_check : Option ℕ → List ℕ → List ℕ → List ℕ → Result (Unit {0}) RowFault
name_check place name version group =
    if bytes_eq name (own_name version group) then Ok tt else Err (NameMismatch place)

-- from 1 to most
unfoldable pub ranged : Option ℕ → List ℕ → ℕ → ℕ → Result ℕ RowFault
ranged place member most n = if nat_lt 0 n && nat_lt n (most + 1) then Ok n else Err (Range place member)

unfoldable pub group_ranged : Option ℕ → ℕ → Result ℕ RowFault
group_ranged place n = ranged place (codes "spec.groupPriorityMinimum") 20000 n

unfoldable pub version_ranged : Option ℕ → ℕ → Result ℕ RowFault
version_ranged place n = ranged place (codes "spec.versionPriority") 1000 n

unfoldable pub ranged_service : Option ℕ → Option FoundService → Result (Option ServiceRef) RowFault
ranged_service place None = Ok None
ranged_service place (Some s) = do
  port ← ranged place (codes "spec.service.port") 65535 s.port
  Ok (Some (record { namespace = s.namespace; name = s.name; port = port }))

-- the row of an object, or the first of its faults in this order
unfoldable pub row_of : Option ℕ → Data → Result Row RowFault
row_of place d = do
  head ← head_of place d
  name ← name_of place d
  group ← group_of place d
  version ← version_of place d
  group_number ← group_number_of place d
  version_number ← version_number_of place d
  found ← service_of place d
  available ← available_of place d
  same ← name_check place name version group
  group_priority ← group_ranged place group_number
  version_priority ← version_ranged place version_number
  service ← ranged_service place found
  Ok (record {
    name = name;
    group = group;
    version = version;
    group_priority = group_priority;
    version_priority = version_priority;
    service = service;
    available = available;
    object = compact_text d;
  })

-- the row of a text
unfoldable pub read_row : List ℕ → Result Row RowFault
read_row bytes = do
  d ← found_or NotJson (value_of bytes)
  row_of None d
