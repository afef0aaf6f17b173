-- The values of a query (WHATWG URL, "application/x-www-form-urlencoded parsing").
use Rattle.std.specs.Prelude.{ℕ, List, Option}
use Rattle.form_urlencoded.specs.Form.{raw_pairs}
use Rattle.request_info.specs.Target.{query_of}
use Rattle.request_info.specs.Watch.{first_value}

-- the value of the first pair of that name in the target's query
abbrev pub query_value : List ℕ → List ℕ → Option (List ℕ)
query_value name target = first_value name (raw_pairs (query_of target))
