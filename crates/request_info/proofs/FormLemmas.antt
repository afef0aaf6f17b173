-- What the forms of paths name.
use Rattle.std.proofs.Common.{◌≡◌, ◌≢◌, ℕ, ◌⊎◌, inl, inr, Bool, true, false, cond, List, [], ◌∷◌, Option, Some, None, if◌then◌else◌, codes, bytes_eq, refl, sym, ap, ◌∙◌, subst, arith}
use Rattle.std.proofs.lemmas.Bool.{cond-true, cond-false}
use Rattle.std.proofs.lemmas.Slice.Eq.{bytes_eq-Decides}
use Rattle.request_info.specs.Resource.{Api, Named, names, core_api, group_api, api_of, is_of_namespaces, object_in, in_namespace, named_by}
use Rattle.request_info.specs.Forms.{IsApiPath, IsObject, IsInCluster, IsInNamespace, IsNamespace}

same_text : (a b : List ℕ) → bytes_eq a b ≡ true → a ≡ b
same_text a b e = (bytes_eq-Decides a b).0 e

-- ---- the API

core_is : (parts : List (List ℕ)) (root : List ℕ) (api : Api) → root ≡ codes "api" → core_api parts ≡ Some api → IsApiPath (root ∷ parts) api
core_is [] root api r e = absurd (cc e)
core_is (v ∷ []) root api r e = absurd (cc e)
core_is (v ∷ first ∷ parts) root api r e =
    let is : record { group = []; version = v; parts = first ∷ parts } ≡ api = cc e in
    subst (λ a. IsApiPath (root ∷ v ∷ first ∷ parts) a) is (λ none. absurd (cc none), inl (refl, ap (λ x. x ∷ v ∷ first ∷ parts) r))

group_is : (parts : List (List ℕ)) (root : List ℕ) (api : Api) → root ≡ codes "apis" → group_api parts ≡ Some api → IsApiPath (root ∷ parts) api
group_is [] root api r e = absurd (cc e)
group_is (g ∷ []) root api r e = absurd (cc e)
group_is (g ∷ v ∷ []) root api r e = absurd (cc e)
group_is (g ∷ v ∷ first ∷ parts) root api r e =
    let is : record { group = g; version = v; parts = first ∷ parts } ≡ api = cc e in
    subst (λ a. IsApiPath (root ∷ g ∷ v ∷ first ∷ parts) a) is (λ none. absurd (cc none), inr (ap (λ x. x ∷ g ∷ v ∷ first ∷ parts) r))

pub api_is : (parts : List (List ℕ)) (api : Api) → api_of parts ≡ Some api → IsApiPath parts api
api_is [] api e = absurd (cc e)
api_is (root ∷ parts) api e = by_root (bytes_eq root (codes "api")) (bytes_eq root (codes "apis")) refl refl e
  where
    by_root : (t u : Bool) → bytes_eq root (codes "api") ≡ t → bytes_eq root (codes "apis") ≡ u
        → (if t then core_api parts else if u then group_api parts else None) ≡ Some api → IsApiPath (root ∷ parts) api
    by_root true u p q e = core_is parts root api (same_text root (codes "api") p) e
    by_root false true p q e = group_is parts root api (same_text root (codes "apis") q) e
    by_root false false p q e = absurd (cc e)

core_of : (version : List ℕ) (parts : List (List ℕ)) → parts ≢ [] → core_api (version ∷ parts) ≡ Some (record { group = []; version = version; parts = parts })
core_of version [] h = absurd (h refl)
core_of version (first ∷ parts) h = refl

group_of : (group version : List ℕ) (parts : List (List ℕ)) → parts ≢ []
    → group_api (group ∷ version ∷ parts) ≡ Some (record { group = group; version = version; parts = parts })
group_of group version [] h = absurd (h refl)
group_of group version (first ∷ parts) h = refl

pub api_from : (parts : List (List ℕ)) (api : Api) → IsApiPath parts api → api_of parts ≡ Some api
api_from parts api (some, inl (group, is)) =
    ap api_of is ∙ core_of api.version api.parts some ∙ ap (λ g. Some (record { group = g; version = api.version; parts = api.parts })) (sym group)
api_from parts api (some, inr is) = ap api_of is ∙ group_of api.group api.version api.parts some

-- ---- what is named

object_is : (namespace first : List ℕ) (parts : List (List ℕ))
    → IsObject (first ∷ parts) (object_in namespace (first ∷ parts)).resource (object_in namespace (first ∷ parts)).name (object_in namespace (first ∷ parts)).subresource
object_is namespace first [] = inl (refl, refl, refl)
object_is namespace first (second ∷ []) = inr (inl (refl, refl))
object_is namespace first (second ∷ third ∷ more) = inr (inr (more, refl))

abbrev IsNamed : List (List ℕ) → Named → Type 0
IsNamed parts named = IsInCluster parts named ⊎ (IsInNamespace parts named ⊎ IsNamespace parts named)

named_is : (parts : List (List ℕ)) → parts ≢ [] → IsNamed parts (named_by parts)
named_is [] h = absurd (h refl)
named_is (first ∷ []) h = inl (refl, inl (refl, refl, refl), inr refl)
named_is (first ∷ second ∷ parts) h = by_first (bytes_eq first (codes "namespaces")) refl
  where
    by_third : first ≡ codes "namespaces" → (rest : List (List ℕ))
        → IsNamed (first ∷ second ∷ rest) (in_namespace second (first ∷ second ∷ rest) rest)
    by_third e [] = inr (inr (e, refl, inl (ap (λ x. x ∷ second ∷ []) e, refl)))
    by_third e (third ∷ more) = pick (is_of_namespaces third) refl
      where
        pick : (t : Bool) → is_of_namespaces third ≡ t
            → IsNamed (first ∷ second ∷ third ∷ more)
            (if t then object_in second (first ∷ second ∷ third ∷ more) else object_in second (third ∷ more))
        pick true own = inr (inr (e, refl, inr (more, ap (λ x. x ∷ second ∷ third ∷ more) e, own)))
        pick false own = inr (inl (third ∷ more, ap (λ x. x ∷ second ∷ third ∷ more) e, object_is second third more, own))

    by_first : (t : Bool) → bytes_eq first (codes "namespaces") ≡ t
        → IsNamed (first ∷ second ∷ parts)
        (if t then in_namespace second (first ∷ second ∷ parts) parts else object_in [] (first ∷ second ∷ parts))
    by_first true e = by_third (same_text first (codes "namespaces") e) parts
    by_first false e = inl (refl, object_is [] first (second ∷ parts), inl e)

pub named_forms : (parts : List (List ℕ)) (named : Named) → parts ≢ [] → named_by parts ≡ named → IsNamed parts named
named_forms parts named h e = subst (λ n. IsNamed parts n) e (named_is parts h)

object_of : (namespace resource name subresource : List ℕ) (parts : List (List ℕ)) → IsObject parts resource name subresource
    → object_in namespace parts ≡ names namespace resource name subresource
object_of namespace resource name subresource parts (inl (is, none, bare)) = rw (is, none, bare) refl
object_of namespace resource name subresource parts (inr (inl (is, bare))) = rw (is, bare) refl
object_of namespace resource name subresource parts (inr (inr (more, is))) = rw is refl

-- a path of the cluster
cluster_object : (parts : List (List ℕ)) (resource name subresource : List ℕ) → IsObject parts resource name subresource
    → bytes_eq resource (codes "namespaces") ≡ false → named_by parts ≡ object_in [] parts
cluster_object parts resource name subresource (inl (is, none, bare)) other = rw is refl
cluster_object parts resource name subresource (inr (inl (is, bare))) other = rw is (cond-false _ _ _ other)
cluster_object parts resource name subresource (inr (inr (more, is))) other = rw is (cond-false _ _ _ other)

in_cluster : (parts : List (List ℕ)) (named : Named) → IsInCluster parts named → named_by parts ≡ named
in_cluster parts named (none, object, inl other) =
    cluster_object parts named.resource named.name named.subresource object other
    ∙ object_of [] named.resource named.name named.subresource parts object
    ∙ ap (λ n. names n named.resource named.name named.subresource) (sym none)
in_cluster parts named (none, object, inr alone) =
    ap named_by alone ∙ sym (ap (object_in []) alone)
    ∙ object_of [] named.resource named.name named.subresource parts object
    ∙ ap (λ n. names n named.resource named.name named.subresource) (sym none)

in_any : (namespace resource name subresource : List ℕ) (rest : List (List ℕ)) → IsObject rest resource name subresource
    → is_of_namespaces resource ≡ false → named_by (codes "namespaces" ∷ namespace ∷ rest) ≡ object_in namespace rest
in_any namespace resource name subresource rest (inl (is, none, bare)) other = rw is (cond-false _ _ _ other)
in_any namespace resource name subresource rest (inr (inl (is, bare))) other = rw is (cond-false _ _ _ other)
in_any namespace resource name subresource rest (inr (inr (more, is))) other = rw is (cond-false _ _ _ other)

in_a_namespace : (parts : List (List ℕ)) (named : Named) → IsInNamespace parts named → named_by parts ≡ named
in_a_namespace parts named (rest, is, object, other) =
    ap named_by is
    ∙ in_any named.namespace named.resource named.name named.subresource rest object other
    ∙ object_of named.namespace named.resource named.name named.subresource rest object

a_namespace : (parts : List (List ℕ)) (named : Named) → IsNamespace parts named → named_by parts ≡ named
a_namespace parts named (resource, name, inl (is, none)) =
    ap named_by is
    ∙ ap (λ s. names named.namespace (codes "namespaces") named.namespace s) (sym none)
    ∙ ap (λ r. names named.namespace r named.namespace named.subresource) (sym resource)
    ∙ ap (λ n. names named.namespace named.resource n named.subresource) (sym name)
a_namespace parts named (resource, name, inr (more, is, own)) =
    ap named_by is
    ∙ cond-true _ _ _ own
    ∙ ap (λ r. names named.namespace r named.namespace named.subresource) (sym resource)
    ∙ ap (λ n. names named.namespace named.resource n named.subresource) (sym name)

pub forms_named : (parts : List (List ℕ)) (named : Named) → IsNamed parts named → named_by parts ≡ named
forms_named parts named (inl h) = in_cluster parts named h
forms_named parts named (inr (inl h)) = in_a_namespace parts named h
forms_named parts named (inr (inr h)) = a_namespace parts named h
