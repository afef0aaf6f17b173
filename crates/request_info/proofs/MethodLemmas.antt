-- The method of a request changes the verb of its information alone.
use Rattle.std.proofs.Common.{◌≡◌, ℕ, List, [], length, Bool, true, false, Option, Some, None, Ok, Err, refl, sym, ◌∙◌, cond}
use Rattle.std.specs.Prelude.{codes, ◌==◌, bytes_eq, if◌then◌else◌}
use Rattle.front_base.specs.declared.info.Info.{Info}
use Rattle.request_info.specs.Parts.{parts_of}
use Rattle.request_info.specs.Resource.{Api, api_of, part, is_special_verb, behind_verb, named_by}
use Rattle.request_info.specs.Target.{path_of, query_of}
use Rattle.request_info.specs.declared.fault.InfoFault.TheVariants.{NoKind}
use Rattle.request_info.specs.Request.{audit_info, recorded, decoded_info, path_info, method_verb, verb_of, resource_info}

-- what is asked for, but for the verb
abbrev aside : Info → Info
aside i = record i { verb = [] }

-- no method has the verb that takes the subresource away
by_tests : (a b c d e f : Bool) →
    bytes_eq (if a then codes "create" else if b then codes "update" else if c then codes "patch" else if d then codes "delete" else if e then codes "get" else if f then codes "get" else []) (codes "proxy") ≡ false
by_tests true b c d e f = refl
by_tests false true c d e f = refl
by_tests false false true d e f = refl
by_tests false false false true e f = refl
by_tests false false false false true f = refl
by_tests false false false false false true = refl
by_tests false false false false false false = refl

not_proxy : (m : List ℕ) → bytes_eq (method_verb m) (codes "proxy") ≡ false
not_proxy m = by_tests (bytes_eq m (codes "POST")) (bytes_eq m (codes "PUT")) (bytes_eq m (codes "PATCH")) (bytes_eq m (codes "DELETE")) (bytes_eq m (codes "GET")) (bytes_eq m (codes "HEAD"))

same_proxy : (special : Bool) (first one two : List ℕ) → bytes_eq one (codes "proxy") ≡ false → bytes_eq two (codes "proxy") ≡ false →
    bytes_eq (cond special first one) (codes "proxy") ≡ bytes_eq (cond special first two) (codes "proxy")
same_proxy true first one two p q = refl
same_proxy false first one two p q = rw (p, q) refl

by_kind : (m t path query : List ℕ) (api : Api) (empty : Bool) →
    aside (recorded m t (cond empty (Err NoKind) (Ok (resource_info query path api (verb_of m api.parts) (named_by (behind_verb api.parts))))))
    ≡ aside (recorded (codes "GET") t (cond empty (Err NoKind) (Ok (resource_info query path api (verb_of (codes "GET") api.parts) (named_by (behind_verb api.parts))))))
by_kind m t path query api true = refl
by_kind m t path query api false =
    let p = same_proxy (is_special_verb (part 0 api.parts)) (part 0 api.parts) (method_verb m) (method_verb (codes "GET")) (not_proxy m) (not_proxy (codes "GET")) in
    λ i. record {
      resource_request = true;
      path = path;
      verb = [];
      group = api.group;
      version = api.version;
      namespace = (named_by (behind_verb api.parts)).namespace;
      resource = (named_by (behind_verb api.parts)).resource;
      subresource = cond (p i) [] (named_by (behind_verb api.parts)).subresource;
      name = (named_by (behind_verb api.parts)).name;
    }

by_api : (m t path query : List ℕ) (api : Option Api) → aside (recorded m t (path_info m query path api)) ≡ aside (recorded (codes "GET") t (path_info (codes "GET") query path api))
by_api m t path query None = refl
by_api m t path query (Some api) = by_kind m t path query api (length (behind_verb api.parts) == 0)

by_path : (m t query : List ℕ) (path : Option (List ℕ)) → aside (recorded m t (decoded_info m query path)) ≡ aside (recorded (codes "GET") t (decoded_info (codes "GET") query path))
by_path m t query None = refl
by_path m t query (Some path) = by_api m t path query (api_of (parts_of path))

verb_aside : (m t : List ℕ) → aside (audit_info m t) ≡ aside (audit_info (codes "GET") t)
verb_aside m t = by_path m t (query_of t) (path_of t)

pub method_aside : (m n t : List ℕ) → aside (audit_info m t) ≡ aside (audit_info n t)
method_aside m n t = verb_aside m t ∙ sym (verb_aside n t)
