-- The endpoints of a file.
use Rattle.std.specs.Prelude.{ℕ, ◌+◌, ◌==◌, List, [], ◌∷◌, length, Option, option_and_then, Result, Ok, Err, if◌then◌else◌}
use Rattle.std.specs.Str.{is_utf8}
use Rattle.csv.specs.Reading.{default_config, records, strip_bom}
use Rattle.csv.specs.Records.{field_at}
use Rattle.front_base.specs.Address.{address_of}
use Rattle.front_base.specs.declared.address.Address.{Address}
use Rattle.json_value.specs.Results.{◌>>=◌, found_or}
use Rattle.apiservice_rows.specs.Object.{kept}
use Rattle.service_endpoints.specs.Key.{is_key}
use Rattle.service_endpoints.specs.declared.endpoint.Endpoint.{Endpoint}
use Rattle.service_endpoints.specs.declared.fault.BadEndpoint.TheVariants as bad
use Rattle.service_endpoints.specs.declared.fault.EndpointFault.{EndpointFault}
use Rattle.service_endpoints.specs.declared.fault.EndpointFault.TheVariants.{BadRow}

-- the field at a place, where it is there and is text
abbrev pub text_at : List (List ℕ) → ℕ → Option (List ℕ)
text_at fields i = kept is_utf8 (field_at fields i)

abbrev pub key_in : List (List ℕ) → Option (List ℕ)
key_in fields = kept is_key (text_at fields 0)

abbrev pub address_in : List (List ℕ) → Option Address
address_in fields = option_and_then address_of (text_at fields 1)

abbrev pub two_fields : ℕ → List (List ℕ) → Result (Unit {0}) EndpointFault
two_fields number fields = if length fields == 2 then Ok tt else Err (BadRow number bad.Fields)

-- what the fields of the row with this number say: a key and an address, and nothing else. The first check that fails
-- says why the row is refused
unfoldable pub record_of : ℕ → List (List ℕ) → Result Endpoint EndpointFault
record_of number fields = do
  two ← two_fields number fields
  key ← found_or (BadRow number bad.Key) (key_in fields)
  address ← found_or (BadRow number bad.Address) (address_in fields)
  Ok (record { key = key; address = address })

-- the endpoints of rows, of which the first has this number
unfoldable pub records_from : ℕ → List (List (List ℕ)) → Result (List Endpoint) EndpointFault
records_from number [] = Ok []
records_from number (row ∷ rows) = do
  first ← record_of number row
  others ← records_from (number + 1) rows
  Ok (first ∷ others)

-- the rows of a file, as `csv` reads them without headers and with any number of fields
abbrev pub rows_of : List ℕ → List (List (List ℕ))
rows_of bytes = records default_config (strip_bom bytes)

-- the endpoints of a file in their order, or the first fault
abbrev pub file_records : List ℕ → Result (List Endpoint) EndpointFault
file_records bytes = records_from 0 (rows_of bytes)
