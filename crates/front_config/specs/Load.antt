-- What the files of a configuration give.
use Rattle.std.specs.Prelude.{◌≡◌, ℕ, ◌≤◌, Bool, true, false, List, [], length, Option, Some, None, Result, Ok, Err, ⊤}
use Rattle.json_value.specs.Results.{◌>>=◌}
use Rattle.json_value.specs.Results as results
use Rattle.front_ports.specs.Cause.{Rose}
use Rattle.front_ports.specs.FileMap.{HasFile, HasLongFile, Notes}
use Rattle.front_base.specs.declared.file.TheConstants.{MOST_FILE_BYTES}
use Rattle.front_ports.specs.declared.files.FileFail.{FileFail}
use Rattle.front_ports.specs.declared.files.FileFail.TheVariants as fail
use Rattle.token_users.specs.File.{file_records}
use Rattle.token_users.specs.declared.record.Record.{Record}
use Rattle.token_users.specs.declared.fault.TokenFault.{TokenFault}
use Rattle.token_users.specs.declared.fault.TokenFault.TheVariants as token
use Rattle.apiservice_rows.specs.Row.{Row}
use Rattle.apiservice_rows.specs.RowList.{read_rows}
use Rattle.apiservice_rows.specs.declared.fault.RowFault.{RowFault}
use Rattle.apiservice_rows.specs.declared.fault.RowFault.TheVariants as row
use Rattle.apiservice_table.specs.Table.{Table, with_rows}
use Rattle.policy_rules.specs.Policy.{all_metadata}
use Rattle.policy_json.specs.Reading.{read_policy}
use Rattle.policy_rules.specs.declared.policy.Policy.{Policy}
use Rattle.policy_json.specs.declared.fault.PolicyFault.{PolicyFault}
use Rattle.policy_json.specs.declared.fault.PolicyFault.TheVariants as policy
use Rattle.service_endpoints.specs.File as ends
use Rattle.service_endpoints.specs.declared.endpoint.Endpoint.{Endpoint}
use Rattle.service_endpoints.specs.declared.fault.EndpointFault.{EndpointFault}
use Rattle.service_endpoints.specs.declared.fault.EndpointFault.TheVariants as end
use Rattle.command_options.specs.declared.files.FileNames.{FileNames}
use Rattle.front_config.specs.declared.files.Loaded.{Loaded}
use Rattle.front_config.specs.declared.fault.FileFault.TheVariants.{TooLong, NotJson, Token, PolicyFile, RowsFile, Endpoint as BadEndpoint}
use Rattle.front_config.specs.declared.fault.LoadFault.{LoadFault}
use Rattle.front_config.specs.declared.fault.LoadFault.TheVariants.{ReadFault, BadFile, NoMemory}
use Rattle.front_config.specs.declared.fault.Which.{Which}
use Rattle.front_config.specs.declared.fault.Which.TheVariants as file

-- what a read of a file gives: its bytes, or why there are none
abbrev pub Read : Type 0
Read = Result (List ℕ) FileFail

-- a read of the file of that name may have given this, the files being told. It may fail at any time
abbrev pub IsRead : Option (List (List ℕ × List ℕ)) → Option (List ℕ) → Read → Type 0
IsRead told None read = ⊤
IsRead told (Some name) (Ok bytes) = HasFile told name bytes × (length bytes ≤ MOST_FILE_BYTES)
IsRead told (Some name) (Err fail.TooLong) = HasLongFile told name
IsRead told (Some name) (Err fail.Fault) = ⊤
IsRead told (Some name) (Err fail.NoMemory) = ⊤

-- the bytes of a file, none where no file is named
abbrev pub bytes_in : Which → Option (List ℕ) → Read → Result (Option (List ℕ)) LoadFault
bytes_in which None read = Ok None
bytes_in which (Some name) (Ok bytes) = Ok (Some bytes)
bytes_in which (Some name) (Err fail.Fault) = Err (ReadFault which)
bytes_in which (Some name) (Err fail.TooLong) = Err (BadFile which TooLong)
bytes_in which (Some name) (Err fail.NoMemory) = Err NoMemory

abbrev pub token_answer : Result (List Record) TokenFault → Result (List Record) LoadFault
token_answer (Ok records) = Ok records
token_answer (Err (token.BadRow row why)) = Err (BadFile file.Tokens (Token row why))
token_answer (Err token.Input) = Err NoMemory
token_answer (Err token.NoMemory) = Err NoMemory

-- the records of a token file, none where no file is named
abbrev pub tokens_in : Option (List ℕ) → Result (List Record) LoadFault
tokens_in None = Ok []
tokens_in (Some bytes) = token_answer (file_records bytes)

abbrev pub tokens_of : Option (List ℕ) → Read → Result (List Record) LoadFault
tokens_of name read = bytes_in file.Tokens name read >>= tokens_in

abbrev pub policy_answer : List ℕ → Result Policy PolicyFault → Result Policy LoadFault
policy_answer bytes (Ok rules) = Ok rules
policy_answer bytes (Err policy.NoMemory) = Err NoMemory
policy_answer bytes (Err policy.NotJson) = Err (BadFile file.Policy (NotJson bytes))
policy_answer bytes (Err fault) = Err (BadFile file.Policy (PolicyFile fault))

-- the policy of a policy file; every request at level Metadata where no file is named
abbrev pub policy_in : Option (List ℕ) → Result Policy LoadFault
policy_in None = Ok all_metadata
policy_in (Some bytes) = policy_answer bytes (read_policy bytes)

abbrev pub policy_of : Option (List ℕ) → Read → Result Policy LoadFault
policy_of name read = bytes_in file.Policy name read >>= policy_in

abbrev pub rows_answer : List ℕ → Result (List Row) RowFault → Result (List Row) LoadFault
rows_answer bytes (Ok rows) = Ok rows
rows_answer bytes (Err row.NoMemory) = Err NoMemory
rows_answer bytes (Err row.NotJson) = Err (BadFile file.Services (NotJson bytes))
rows_answer bytes (Err fault) = Err (BadFile file.Services (RowsFile fault))

-- the table of these rows, before any change
abbrev pub opened : List Row → Table
opened rows = record { rows = with_rows rows []; changes = 0 }

-- the table of a file of APIService objects; of no rows where no file is named
abbrev pub table_in : Option (List ℕ) → Result Table LoadFault
table_in None = Ok (opened [])
table_in (Some bytes) = rows_answer bytes (read_rows bytes) >>= (λ rows. Ok (opened rows))

abbrev pub table_of : Option (List ℕ) → Read → Result Table LoadFault
table_of name read = bytes_in file.Services name read >>= table_in

abbrev pub endpoints_answer : Result (List Endpoint) EndpointFault → Result (List Endpoint) LoadFault
endpoints_answer (Ok records) = Ok records
endpoints_answer (Err (end.BadRow row why)) = Err (BadFile file.Endpoints (BadEndpoint row why))
endpoints_answer (Err end.Input) = Err NoMemory
endpoints_answer (Err end.NoMemory) = Err NoMemory

-- the endpoints of an endpoints file, none where no file is named
abbrev pub endpoints_in : Option (List ℕ) → Result (List Endpoint) LoadFault
endpoints_in None = Ok []
endpoints_in (Some bytes) = endpoints_answer (ends.file_records bytes)

abbrev pub endpoints_of : Option (List ℕ) → Read → Result (List Endpoint) LoadFault
endpoints_of name read = bytes_in file.Endpoints name read >>= endpoints_in

-- what the reads of the files gave
pub record Reads : Type 0 where
  pub tokens : Read
  pub policy : Read
  pub services : Read
  pub endpoints : Read

-- reads of the files of these names may have given this, the files being told
pub record AreRead (told : Option (List (List ℕ × List ℕ))) (names : FileNames) (reads : Reads) : Type 0 where
  pub tokens : IsRead told names.tokens reads.tokens
  pub policy : IsRead told names.policy reads.policy
  pub services : IsRead told names.services reads.services
  pub endpoints : IsRead told names.endpoints reads.endpoints

-- what the files that are named give, one after the other: the first that isn't read or is refused is the answer
unfoldable pub load_of : FileNames → Reads → Result Loaded LoadFault
load_of names reads = do
  records ← tokens_of names.tokens reads.tokens
  rules ← policy_of names.policy reads.policy
  table ← table_of names.services reads.services
  endpoints ← endpoints_of names.endpoints reads.endpoints
  Ok (record { tokens = records; policy = rules; table = table; endpoints = endpoints })

-- ---- answers

abbrev pub is_memory : LoadFault → Bool
is_memory (ReadFault which) = false
is_memory (BadFile which fault) = false
is_memory NoMemory = true

-- what is answered is what is due, unless memory ran out
abbrev pub Gives : {A : Type 0} → Result A LoadFault → Result A LoadFault → Type 0
Gives = results.Gives is_memory (λ a. a)

-- the name that the words give for a file
abbrev pub name_for : FileNames → Which → Option (List ℕ)
name_for names file.Tokens = names.tokens
name_for names file.Policy = names.policy
name_for names file.Services = names.services
name_for names file.Endpoints = names.endpoints

-- only where the count of faults rose is a file said not to be read, and the name told then is that of this file.
-- Otherwise what is told of the last failure stays
abbrev pub HasCause : {A : Type 0} → FileNames → ℕ → ℕ → Option (Option (List ℕ)) → Option (Option (List ℕ)) → Result A LoadFault → Type 0
HasCause names before after failed now (Err (ReadFault which)) = Rose before after × Notes failed now (name_for names which)
HasCause names before after failed now (Err (BadFile which fault)) = now ≡ failed
HasCause names before after failed now (Err NoMemory) = now ≡ failed
HasCause names before after failed now (Ok a) = now ≡ failed
