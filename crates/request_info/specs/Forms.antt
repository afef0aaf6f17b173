-- The forms of paths, each by the parts that it has (Kubernetes, "API concepts": resource URIs, and the API server's type
-- RequestInfo).
use Rattle.std.specs.Prelude.{◌≡◌, ◌≢◌, ℕ, ◌⊎◌, true, false, List, [], ◌∷◌, ◌++◌, codes, bytes_eq}
use Rattle.std.specs.List.{All}
use Rattle.request_info.specs.Resource.{Api, Named, is_of_namespaces}
use Rattle.request_info.specs.Watch.{text_of, is_yes}

-- `api/VERSION/PART..` or `apis/GROUP/VERSION/PART..`
abbrev pub IsApiPath : List (List ℕ) → Api → Type 0
IsApiPath parts api =
    (api.parts ≢ [])
    × (((api.group ≡ []) × (parts ≡ codes "api" ∷ api.version ∷ api.parts))
    ⊎ (parts ≡ codes "apis" ∷ api.group ∷ api.version ∷ api.parts))

-- `RESOURCE`, `RESOURCE/NAME` or `RESOURCE/NAME/SUBRESOURCE`, where what follows a subresource counts for nothing
abbrev pub IsObject : List (List ℕ) → List ℕ → List ℕ → List ℕ → Type 0
IsObject parts resource name subresource =
    ((parts ≡ resource ∷ []) × (name ≡ []) × (subresource ≡ []))
    ⊎ ((parts ≡ resource ∷ name ∷ []) × (subresource ≡ []))
    ⊎ ((more : List (List ℕ)) × (parts ≡ resource ∷ name ∷ subresource ∷ more))

-- in the cluster: any resource but `namespaces`, and of `namespaces` the collection
abbrev pub IsInCluster : List (List ℕ) → Named → Type 0
IsInCluster parts named =
    (named.namespace ≡ []) × IsObject parts named.resource named.name named.subresource
    × ((bytes_eq named.resource (codes "namespaces") ≡ false) ⊎ (parts ≡ named.resource ∷ []))

-- in a namespace: `namespaces/NAMESPACE` and any resource but `status` and `finalize`
abbrev pub IsInNamespace : List (List ℕ) → Named → Type 0
IsInNamespace parts named =
    (rest : List (List ℕ)) × (parts ≡ codes "namespaces" ∷ named.namespace ∷ rest)
    × IsObject rest named.resource named.name named.subresource × (is_of_namespaces named.resource ≡ false)

-- a namespace itself: `namespaces/NAMESPACE`, alone or with `status` or `finalize`
abbrev pub IsNamespace : List (List ℕ) → Named → Type 0
IsNamespace parts named =
    (named.resource ≡ codes "namespaces") × (named.name ≡ named.namespace)
    × (((parts ≡ codes "namespaces" ∷ named.namespace ∷ []) × (named.subresource ≡ []))
    ⊎ ((more : List (List ℕ)) × (parts ≡ codes "namespaces" ∷ named.namespace ∷ named.subresource ∷ more)
    × (is_of_namespaces named.subresource ≡ true)))

-- the verbs that may stand after the version
abbrev pub IsSpecialVerb : List ℕ → Type 0
IsSpecialVerb verb = (verb ≡ codes "watch") ⊎ (verb ≡ codes "proxy")

-- the first pair named `watch` has a value other than `false` and `0`
abbrev pub HasWatch : List (List ℕ × List ℕ) → Type 0
HasWatch pairs =
    (before after : List (List ℕ × List ℕ)) × (pair : List ℕ × List ℕ)
    × (pairs ≡ before ++ pair ∷ after) × All (λ p. text_of p.0 ≢ codes "watch") before
    × (text_of pair.0 ≡ codes "watch") × (is_yes (text_of pair.1) ≡ true)
