-- Where a service, the delegate, or what serves the other paths is reached.
use Rattle.std.specs.Prelude.{◌≡◌, ◌≤◌, ℕ, suc, List, [], ◌∷◌, length, Option, Some, None, option_map, bytes_eq, if◌then◌else◌, String}
use Rattle.std.specs.BTreeMap.{BTreeMap, get_by_text}
use Rattle.std.specs.List.{AllByRecursion}
use Rattle.front_base.specs.declared.address.Address.{Address}
use Rattle.apiservice_rows.specs.declared.service.ServiceRef.{ServiceRef}
use Rattle.service_endpoints.specs.Key.{key_of, others_key}
use Rattle.service_endpoints.specs.declared.endpoint.Endpoint.{Endpoint}
use Rattle.service_endpoints.specs.declared.key.TheConstants.{MOST_KEY_BYTES}

abbrev pub later_or : {A : Type 0} → Option A → Option A → Option A
later_or None earlier = earlier
later_or (Some x) earlier = Some x

-- the address of a key: that of its last endpoint
unfoldable pub last_address : List ℕ → List Endpoint → Option Address
last_address key [] = None
last_address key (first ∷ others) =
    later_or (last_address key others) (if bytes_eq first.key key then Some first.address else None)

-- where a service is reached, or without one the delegate
abbrev pub endpoint_of : List Endpoint → Option ServiceRef → Option Address
endpoint_of records service = last_address (key_of service) records

-- where paths go that nothing else serves
abbrev pub others_of : List Endpoint → Option Address
others_of records = last_address others_key records

-- ---- how the code finds it

-- the place of a key's last endpoint
unfoldable pub last_place : List ℕ → List Endpoint → Option ℕ
last_place key [] = None
last_place key (first ∷ others) =
    later_or (option_map suc (last_place key others)) (if bytes_eq first.key key then Some 0 else None)

-- no key is longer than a key can be
abbrev pub AreShort : List Endpoint → Type 0
AreShort records = AllByRecursion (λ r. length r.key ≤ MOST_KEY_BYTES) records

-- a map has for each key the place of its last endpoint
pub record HasPlaces {Y : Type 0} (places : BTreeMap (String Y) ℕ) (records : List Endpoint) : Type 0 where
  pub found : (key : List ℕ) → get_by_text places key ≡ last_place key records
  pub short : AreShort records
