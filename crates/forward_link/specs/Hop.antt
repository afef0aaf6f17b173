-- Headers that concern one connection alone and are not sent on (RFC 9110, section 7.6.1).
use Rattle.std.specs.Prelude.{ℕ, Bool, ◌||◌, List, [], ◌∷◌, codes}
use Rattle.std.specs.List.{list_any}
use Rattle.http_head.specs.Connection.{has_option}
use Rattle.http_head.specs.Name.{is_named, name_begins}
use Rattle.http_head.specs.declared.header.Header.{Header}

-- a header has one of these names
abbrev pub is_one_of : List (List ℕ) → Header → Bool
is_one_of names header = list_any (λ name. is_named name header.name) names

-- the hop headers that have names of their own
abbrev pub hop_names : List (List ℕ)
hop_names =
    codes "connection" ∷ codes "keep-alive" ∷ codes "te" ∷ codes "trailer" ∷ codes "transfer-encoding"
    ∷ codes "upgrade" ∷ []

-- a hop header among these headers: by its name, by the prefix `proxy-`, or since a Connection header names it
abbrev pub is_hop : List Header → Header → Bool
is_hop headers header =
    is_one_of hop_names header || (name_begins (codes "proxy-") header.name || has_option header.name headers)
