-- Files that are read and checked one after the other.
use Rattle.std.proofs.Common.{◌≡◌, ℕ, List, Option, Some, None, Result, Ok, Err}
use Rattle.front_ports.specs.FileMap.{KeepsFiles}
use Rattle.front_ports.specs.declared.files.FileFail.TheVariants as fail
use Rattle.token_users.specs.File.{file_records}
use Rattle.token_users.specs.declared.record.Record.{Record}
use Rattle.token_users.specs.declared.fault.TokenFault.{TokenFault}
use Rattle.token_users.specs.declared.fault.TokenFault.TheVariants as token
use Rattle.json_value.specs.Results.{◌>>=◌, fault_of}
use Rattle.service_endpoints.specs.File as ends
use Rattle.service_endpoints.specs.declared.endpoint.Endpoint.{Endpoint}
use Rattle.service_endpoints.specs.declared.fault.EndpointFault.{EndpointFault}
use Rattle.service_endpoints.specs.declared.fault.EndpointFault.TheVariants as end
use Rattle.front_config.specs.Load.{Read, IsRead, Gives, HasCause, token_answer, tokens_in, policy_answer, policy_in, rows_answer, opened, table_in, endpoints_answer, endpoints_in}
use Rattle.apiservice_rows.specs.Row.{Row}
use Rattle.apiservice_rows.specs.RowList.{read_rows}
use Rattle.apiservice_rows.specs.declared.fault.RowFault.{RowFault}
use Rattle.apiservice_rows.specs.declared.fault.RowFault.TheVariants as row
use Rattle.policy_json.specs.Reading.{read_policy}
use Rattle.policy_rules.specs.declared.policy.Policy.{Policy}
use Rattle.policy_json.specs.declared.fault.PolicyFault.{PolicyFault}
use Rattle.policy_json.specs.declared.fault.PolicyFault.TheVariants as policy
use Rattle.command_options.specs.declared.files.FileNames.{FileNames}
use Rattle.front_config.specs.declared.fault.LoadFault.{LoadFault}
use Rattle.front_config.specs.declared.fault.LoadFault.TheVariants.{ReadFault, BadFile, NoMemory}
use Rattle.front_config.specs.declared.fault.Which.{Which}

-- what is given after a first reading is given by both
pub gives_next : {A B : Type 0} (first : Result A LoadFault) (a : A) (next : A → Result B LoadFault) (result : Result B LoadFault)
    → first ≡ Ok a → Gives result (next a) → Gives result (first >>= next)
gives_next first a next result e h = rw e h

-- bytes that were read are no fault of reading
pub cause_of_bytes : {A : Type 0} (names : FileNames) (before after : ℕ) (failed now : Option (Option (List ℕ)))
    (due result : Result A LoadFault) → ((which : Which) → fault_of due ≡ Some (ReadFault which) → ⊥)
    → now ≡ failed → Gives result due → HasCause names before after failed now result
cause_of_bytes names before after failed now due (Ok a) none e h = e
cause_of_bytes names before after failed now due (Err NoMemory) none e h = e
cause_of_bytes names before after failed now due (Err (BadFile which why)) none e h = e
cause_of_bytes names before after failed now due (Err (ReadFault which)) none e h = absurd (none which h)

tokens_answered : (answer : Result (List Record) TokenFault) (which : Which)
    → fault_of (token_answer answer) ≡ Some (ReadFault which) → ⊥
tokens_answered (Ok records) which e = cc e
tokens_answered (Err (token.BadRow row why)) which e = cc e
tokens_answered (Err token.Input) which e = cc e
tokens_answered (Err token.NoMemory) which e = cc e

pub tokens_are_read : (bytes : Option (List ℕ)) (which : Which) → fault_of (tokens_in bytes) ≡ Some (ReadFault which) → ⊥
tokens_are_read None which e = cc e
tokens_are_read (Some bytes) which e = tokens_answered (file_records bytes) which e

policy_answered : (bytes : List ℕ) (answer : Result Policy PolicyFault) (which : Which)
    → fault_of (policy_answer bytes answer) ≡ Some (ReadFault which) → ⊥
policy_answered bytes (Ok rules) which e = cc e
policy_answered bytes (Err policy.NoMemory) which e = cc e
policy_answered bytes (Err policy.NotJson) which e = cc e
policy_answered bytes (Err policy.NoRules) which e = cc e
policy_answered bytes (Err (policy.BadField rule name)) which e = cc e
policy_answered bytes (Err (policy.BothKinds rule)) which e = cc e
policy_answered bytes (Err (policy.BadUrl rule)) which e = cc e
policy_answered bytes (Err (policy.NamesWithoutResources rule)) which e = cc e

pub policy_is_read : (bytes : Option (List ℕ)) (which : Which) → fault_of (policy_in bytes) ≡ Some (ReadFault which) → ⊥
policy_is_read None which e = cc e
policy_is_read (Some bytes) which e = policy_answered bytes (read_policy bytes) which e

rows_answered : (bytes : List ℕ) (answer : Result (List Row) RowFault) (which : Which)
    → fault_of (rows_answer bytes answer >>= (λ rows. Ok (opened rows))) ≡ Some (ReadFault which) → ⊥
rows_answered bytes (Ok rows) which e = cc e
rows_answered bytes (Err row.NoMemory) which e = cc e
rows_answered bytes (Err row.NotJson) which e = cc e
rows_answered bytes (Err (row.BadField item member)) which e = cc e
rows_answered bytes (Err (row.NameMismatch item)) which e = cc e
rows_answered bytes (Err (row.Range item member)) which e = cc e
rows_answered bytes (Err (row.Repeated item name)) which e = cc e
rows_answered bytes (Err row.Full) which e = cc e

pub table_is_read : (bytes : Option (List ℕ)) (which : Which) → fault_of (table_in bytes) ≡ Some (ReadFault which) → ⊥
table_is_read None which e = cc e
table_is_read (Some bytes) which e = rows_answered bytes (read_rows bytes) which e

endpoints_answered : (answer : Result (List Endpoint) EndpointFault) (which : Which)
    → fault_of (endpoints_answer answer) ≡ Some (ReadFault which) → ⊥
endpoints_answered (Ok records) which e = cc e
endpoints_answered (Err (end.BadRow row why)) which e = cc e
endpoints_answered (Err end.Input) which e = cc e
endpoints_answered (Err end.NoMemory) which e = cc e

pub endpoints_are_read : (bytes : Option (List ℕ)) (which : Which) → fault_of (endpoints_in bytes) ≡ Some (ReadFault which) → ⊥
endpoints_are_read None which e = cc e
endpoints_are_read (Some bytes) which e = endpoints_answered (ends.file_records bytes) which e

-- a read may always fail
pub fault_may_be_read : (told : Option (List (List ℕ × List ℕ))) (name : Option (List ℕ)) → IsRead told name (Err fail.Fault)
fault_may_be_read told None = tt
fault_may_be_read told (Some name) = tt

-- what may be read of files that stayed could be read before
pub read_kept : (old new : Option (List (List ℕ × List ℕ))) (name : Option (List ℕ)) (read : Read)
    → KeepsFiles old new → IsRead new name read → IsRead old name read
read_kept (Some files) new name read e h = rw e at h
read_kept None new None read e h = tt
read_kept None new (Some name) (Ok bytes) e h = (tt, h.1)
read_kept None new (Some name) (Err fail.TooLong) e h = tt
read_kept None new (Some name) (Err fail.Fault) e h = tt
read_kept None new (Some name) (Err fail.NoMemory) e h = tt
