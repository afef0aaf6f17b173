-- The keys of endpoints.
use Rattle.std.specs.Prelude.{◌≡◌, ℕ, ◌<◌, ◌&&◌, ◌||◌, Bool, true, false, List, ◌∷◌, ◌++◌, Option, Some, None, is_some, codes, decimal}
use Rattle.std.specs.Str.{bytes_eq}
use Rattle.front_base.specs.Address.{port_of}
use Rattle.front_base.specs.Cut.{cut_at}
use Rattle.apiservice_rows.specs.Object.{is_service_name}
use Rattle.apiservice_rows.specs.declared.service.ServiceRef.{ServiceRef}

-- the key of the delegate, which answers for the rows that have no service
abbrev pub delegate_key : List ℕ
delegate_key = codes "local"

-- the key of where paths go that nothing else serves
abbrev pub others_key : List ℕ
others_key = codes "others"

-- the key of a service: its namespace, a slash, its name, a colon and its port in decimal
abbrev pub service_key : ServiceRef → List ℕ
service_key s = s.namespace ++ 47 ∷ (s.name ++ 58 ∷ decimal s.port)

-- the key of what answers for a row: of its service, or of the delegate
abbrev pub key_of : Option ServiceRef → List ℕ
key_of None = delegate_key
key_of (Some s) = service_key s

-- 1 to 65535, without leading zeros
abbrev pub is_port : List ℕ → Bool
is_port text = is_some (port_of text)

-- both parts are there, and pass their tests
abbrev pub are_parts : (List ℕ → Bool) → (List ℕ → Bool) → Option (List ℕ × List ℕ) → Bool
are_parts first second None = false
are_parts first second (Some parts) = first parts.0 && second parts.1

-- a name that an APIService's service may have, a colon and a port
abbrev pub is_name_and_port : List ℕ → Bool
is_name_and_port text = are_parts is_service_name is_port (cut_at 58 text)

-- the same after a namespace and a slash
unfoldable pub is_service_key : List ℕ → Bool
is_service_key text = are_parts is_service_name is_name_and_port (cut_at 47 text)

abbrev pub is_key : List ℕ → Bool
is_key text = bytes_eq text delegate_key || bytes_eq text others_key || is_service_key text

-- a service as an APIService may name it
pub record IsService (s : ServiceRef) : Type 0 where
  pub namespace : is_service_name s.namespace ≡ true
  pub name : is_service_name s.name ≡ true
  pub some_port : 0 < s.port
  pub low_port : s.port < 65536
