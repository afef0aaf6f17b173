-- How many bytes the parts of a path have in a line.
use Rattle.std.proofs.Common.{◌≡◌, ℕ, ◌+◌, ◌*◌, ◌≤◌, length, Bool, true, false, List, [], ◌∷◌, ◌++◌, Option, Some, None, Result, Ok, Err, map, ap, arith, lit≤, ⊎_elim}
use Rattle.std.specs.Prelude.{codes, bytes_eq, ◌==◌, ◌&&◌, if◌then◌else◌}
use Rattle.std.specs.Char.{digit_value, to_ascii_lowercase}
use Rattle.std.specs.List.{All, onto_first, position_or_len, slice_split}
use Rattle.std.specs.Str.{is_utf8}
use Rattle.std.proofs.lemmas.Bool.{cond_both, or_cases}
use Rattle.std.proofs.lemmas.List.{length-take, length-map}
use Rattle.std.proofs.lemmas.List.Elements.{All-nil, All-cons, All-head, All-tail, All-take}
use Rattle.std.proofs.lemmas.Slice.Eq.{bytes_eq-Decides}
use Rattle.front_base.specs.declared.info.Info.{Info}
use Rattle.percent_encoding.specs.Percent.{percent_decode, is_escape}
use Rattle.request_info.specs.Parts.{from_first, in_front, to_last, parts_of}
use Rattle.request_info.specs.Request.{audit_info, recorded, decoded_info, path_info, resource_info, other_info, method_verb, verb_of, collection_verb, refused_path}
use Rattle.request_info.specs.Resource.{Api, Named, api_of, core_api, group_api, part, behind_verb, is_special_verb, named_by, in_namespace, object_in, is_of_namespaces}
use Rattle.request_info.specs.Target.{path_of, query_of, spelled_path, decoded, begins_with_slash, are_escapes_whole, is_question_mark}
use Rattle.request_info.specs.Watch.{asks_watch}
use Rattle.request_info.specs.declared.fault.InfoFault.{InfoFault}
use Rattle.request_info.specs.declared.fault.InfoFault.TheVariants.{NoKind}
use Rattle.stage_event.specs.declared.event.ObjectRef.{ObjectRef}
use Rattle.stage_event.specs.Events.{object_ref, reference, is_named}
use Rattle.line_bounds.specs.Bounds.{text_size, named_size}

-- how much longer a text can be in a line
abbrev pub AnyIsBounded : Type 0
AnyIsBounded = (text : List ℕ) → text_size text ≤ 6 * length text

abbrev pub PrintedIsBounded : Type 0
PrintedIsBounded = (text : List ℕ) → All (λ b. 32 ≤ b) text → text_size text ≤ 2 * length text

abbrev pub SizesJoin : Type 0
SizesJoin = (text more : List ℕ) → text_size (text ++ more) ≡ text_size text + text_size more

All-one : (b : ℕ) → 32 ≤ b → All (λ b. 32 ≤ b) (b ∷ [])
All-one b h = All-cons (λ b. 32 ≤ b) b [] h (All-nil (λ b. 32 ≤ b))

nothing : AnyIsBounded → text_size [] ≡ 0
nothing any = let a = any [] in omega arith

-- ---- what a path spells

-- an escape of three bytes stands for one, which has six at most in a line
pub decoded-most : AnyIsBounded → PrintedIsBounded → SizesJoin → (s : List ℕ) → All (λ b. 32 ≤ b) s →
    text_size (percent_decode s) ≤ 2 * length s
unfolding percent_decode
decoded-most any printed joined [] h = printed [] h
decoded-most any printed joined (b ∷ []) h = printed (b ∷ []) h
decoded-most any printed joined (b ∷ c ∷ []) h = printed (b ∷ c ∷ []) h
decoded-most any printed joined (b ∷ high ∷ low ∷ rest) h =
    let after = All-tail (λ b. 32 ≤ b) b (high ∷ low ∷ rest) h in
    let last = All-tail (λ b. 32 ≤ b) low rest (All-tail (λ b. 32 ≤ b) high (low ∷ rest) after) in
    let spelled = 16 * digit_value high + digit_value low in
    let own = any (spelled ∷ []) in
    let others = decoded-most any printed joined rest last in
    let whole = joined (spelled ∷ []) (percent_decode rest) in
    let first = printed (b ∷ []) (All-one b (All-head (λ b. 32 ≤ b) b (high ∷ low ∷ rest) h)) in
    let later = decoded-most any printed joined (high ∷ low ∷ rest) after in
    let plain = joined (b ∷ []) (percent_decode (high ∷ low ∷ rest)) in
    cond_both (is_escape b high low) (spelled ∷ percent_decode rest) (b ∷ percent_decode (high ∷ low ∷ rest))
    (λ (l : List ℕ). text_size l ≤ 2 * length (b ∷ high ∷ low ∷ rest))
    (λ e. omega arith) (λ e. omega arith)

abbrev path_size : Option (List ℕ) → ℕ
path_size None = 0
path_size (Some path) = text_size path

pub path-most : AnyIsBounded → PrintedIsBounded → SizesJoin → (target : List ℕ) → All (λ b. 32 ≤ b) target →
    path_size (path_of target) ≤ 2 * length target
path-most any printed joined target h =
    let spelled : List ℕ = spelled_path target in
    let own : text_size (percent_decode spelled) ≤ 2 * length spelled =
    decoded-most any printed joined spelled (All-take (λ b. 32 ≤ b) (position_or_len is_question_mark target) target h) in
    let few : length spelled ≤ length target = omega (arith, length-take (position_or_len is_question_mark target) target) in
    cond_both (begins_with_slash target) (decoded spelled) None (λ (o : Option (List ℕ)). path_size o ≤ 2 * length target)
    (λ e. cond_both (are_escapes_whole 0 spelled && is_utf8 (percent_decode spelled)) (Some (percent_decode spelled)) None
    (λ (o : Option (List ℕ)). path_size o ≤ 2 * length target) (λ e. omega arith) (λ e. omega arith))
    (λ e. omega arith)

-- ---- the parts of a path

abbrev parts_size : List (List ℕ) → ℕ
parts_size [] = 0
parts_size (part ∷ parts) = text_size part + parts_size parts

onto-most : AnyIsBounded → SizesJoin → (x : ℕ) (parts : List (List ℕ)) → parts_size (onto_first x parts) ≤ text_size (x ∷ []) + parts_size parts
onto-most any joined x [] = omega arith
onto-most any joined x (part ∷ parts) = let a = joined (x ∷ []) part in omega arith

split-most : AnyIsBounded → SizesJoin → (p : ℕ → Bool) (xs : List ℕ) → parts_size (slice_split p xs) ≤ text_size xs
split-most any joined p [] = omega arith
split-most any joined p (x ∷ xs) =
    let rest = split-most any joined p xs in
    let whole = joined (x ∷ []) xs in
    let none = nothing any in
    let onto = onto-most any joined x (slice_split p xs) in
    cond_both (p x) ([] ∷ slice_split p xs) (onto_first x (slice_split p xs))
    (λ (ps : List (List ℕ)). parts_size ps ≤ text_size (x ∷ xs)) (λ e. omega arith) (λ e. omega arith)

first-most : (parts : List (List ℕ)) → parts_size (from_first parts) ≤ parts_size parts
unfolding from_first
first-most [] = omega arith
first-most (part ∷ parts) =
    let rest = first-most parts in
    cond_both (length part == 0) (from_first parts) (part ∷ parts)
    (λ (ps : List (List ℕ)). parts_size ps ≤ parts_size (part ∷ parts)) (λ e. omega arith) (λ e. omega arith)

in-front-most : (part : List ℕ) (parts : List (List ℕ)) → parts_size (in_front part parts) ≤ text_size part + parts_size parts
in-front-most part [] =
    cond_both (length part == 0) [] (part ∷ []) (λ (ps : List (List ℕ)). parts_size ps ≤ text_size part + parts_size [])
    (λ e. omega arith) (λ e. omega arith)
in-front-most part (next ∷ parts) = omega arith

last-most : (parts : List (List ℕ)) → parts_size (to_last parts) ≤ parts_size parts
unfolding to_last
last-most [] = omega arith
last-most (part ∷ parts) =
    let own = in-front-most part (to_last parts) in
    let rest = last-most parts in
    omega arith

pub parts-most : AnyIsBounded → SizesJoin → (path : List ℕ) → parts_size (parts_of path) ≤ text_size path
unfolding parts_of
parts-most any joined path =
    let a = split-most any joined (λ b. b == 47) path in
    let b = first-most (slice_split (λ b. b == 47) path) in
    let c = last-most (from_first (slice_split (λ b. b == 47) path)) in
    omega arith

-- ---- what they name

abbrev api_size : Option Api → ℕ
api_size None = 0
api_size (Some api) = text_size api.group + text_size api.version + parts_size api.parts

core-most : AnyIsBounded → (parts : List (List ℕ)) → api_size (core_api parts) ≤ parts_size parts
core-most any [] = omega arith
core-most any (version ∷ []) = omega arith
core-most any (version ∷ first ∷ parts) = let none = nothing any in omega arith

group-most : (parts : List (List ℕ)) → api_size (group_api parts) ≤ parts_size parts
group-most [] = omega arith
group-most (group ∷ []) = omega arith
group-most (group ∷ version ∷ []) = omega arith
group-most (group ∷ version ∷ first ∷ parts) = omega arith

api-most : AnyIsBounded → (parts : List (List ℕ)) → api_size (api_of parts) ≤ parts_size parts
api-most any [] = omega arith
api-most any (root ∷ parts) =
    let core = core-most any parts in
    let group = group-most parts in
    cond_both (bytes_eq root (codes "api")) (core_api parts) (if bytes_eq root (codes "apis") then group_api parts else None)
    (λ (o : Option Api). api_size o ≤ parts_size (root ∷ parts)) (λ e. omega arith)
    (λ e. cond_both (bytes_eq root (codes "apis")) (group_api parts) None
    (λ (o : Option Api). api_size o ≤ parts_size (root ∷ parts)) (λ e. omega arith) (λ e. omega arith))

behind-most : (parts : List (List ℕ)) → parts_size (behind_verb parts) ≤ parts_size parts
behind-most [] = omega arith
behind-most (first ∷ parts) =
    cond_both (is_special_verb first) parts (first ∷ parts) (λ (ps : List (List ℕ)). parts_size ps ≤ parts_size (first ∷ parts))
    (λ e. omega arith) (λ e. omega arith)

abbrev names_size : Named → ℕ
names_size n = text_size n.namespace + text_size n.resource + text_size n.name + text_size n.subresource

three-most : AnyIsBounded → (parts : List (List ℕ)) →
    text_size (part 0 parts) + text_size (part 1 parts) + text_size (part 2 parts) ≤ parts_size parts
three-most any [] = let none = nothing any in omega arith
three-most any (a ∷ []) = let none = nothing any in omega arith
three-most any (a ∷ b ∷ []) = let none = nothing any in omega arith
three-most any (a ∷ b ∷ c ∷ parts) = omega arith

object-most : AnyIsBounded → (namespace : List ℕ) (parts : List (List ℕ)) (n : ℕ) → text_size namespace ≤ n → parts_size parts ≤ n →
    names_size (object_in namespace parts) ≤ 2 * n
object-most any namespace parts n own few = let three = three-most any parts in omega arith

space-most : AnyIsBounded → (namespace : List ℕ) (whole parts : List (List ℕ)) (n : ℕ) → text_size namespace ≤ n → parts_size whole ≤ n →
    parts_size parts ≤ n → names_size (in_namespace namespace whole parts) ≤ 2 * n
space-most any namespace whole [] n own all few = object-most any namespace whole n own all
space-most any namespace whole (third ∷ parts) n own all few =
    cond_both (is_of_namespaces third) (object_in namespace whole) (object_in namespace (third ∷ parts))
    (λ (named : Named). names_size named ≤ 2 * n)
    (λ e. object-most any namespace whole n own all) (λ e. object-most any namespace (third ∷ parts) n own few)

pub names-most : AnyIsBounded → (parts : List (List ℕ)) → names_size (named_by parts) ≤ 2 * parts_size parts
names-most any [] = object-most any [] [] 0 (any []) (lit≤ tt)
names-most any (first ∷ []) = let none = nothing any in object-most any [] (first ∷ []) (parts_size (first ∷ [])) (omega arith) (omega arith)
names-most any (first ∷ second ∷ parts) =
    let none = nothing any in
    cond_both (bytes_eq first (codes "namespaces")) (in_namespace second (first ∷ second ∷ parts) parts) (object_in [] (first ∷ second ∷ parts))
    (λ (named : Named). names_size named ≤ 2 * parts_size (first ∷ second ∷ parts))
    (λ e. space-most any second (first ∷ second ∷ parts) parts (parts_size (first ∷ second ∷ parts)) (omega arith) (omega arith) (omega arith))
    (λ e. object-most any [] (first ∷ second ∷ parts) (parts_size (first ∷ second ∷ parts)) (omega arith) (omega arith))

-- ---- verbs

pick : (b : Bool) (x y : List ℕ) (n : ℕ) → text_size x ≤ n → text_size y ≤ n → text_size (if b then x else y) ≤ n
pick true x y n h k = h
pick false x y n h k = k

method-most : (method : List ℕ) → text_size (method_verb method) ≤ 16
unfolding text_size
method-most method =
    pick (bytes_eq method (codes "POST")) (codes "create") _ 16 (lit≤ tt)
    (pick (bytes_eq method (codes "PUT")) (codes "update") _ 16 (lit≤ tt)
    (pick (bytes_eq method (codes "PATCH")) (codes "patch") _ 16 (lit≤ tt)
    (pick (bytes_eq method (codes "DELETE")) (codes "delete") _ 16 (lit≤ tt)
    (pick (bytes_eq method (codes "GET")) (codes "get") _ 16 (lit≤ tt)
    (pick (bytes_eq method (codes "HEAD")) (codes "get") [] 16 (lit≤ tt) (lit≤ tt))))))

special-most : (text : List ℕ) → is_special_verb text ≡ true → text_size text ≤ 16
unfolding text_size
special-most text h =
    ⊎_elim
    (λ (e : bytes_eq text (codes "watch") ≡ true). let size = ap text_size ((bytes_eq-Decides text (codes "watch")).0 e) in omega arith)
    (λ (e : bytes_eq text (codes "proxy") ≡ true). let size = ap text_size ((bytes_eq-Decides text (codes "proxy")).0 e) in omega arith)
    (or_cases (bytes_eq text (codes "watch")) (bytes_eq text (codes "proxy")) h)

verb-of-most : (method : List ℕ) (parts : List (List ℕ)) → text_size (verb_of method parts) ≤ 16
verb-of-most method parts =
    cond_both (is_special_verb (part 0 parts)) (part 0 parts) (method_verb method) (λ (l : List ℕ). text_size l ≤ 16)
    (special-most (part 0 parts)) (λ e. method-most method)

collection-most : (verb query : List ℕ) → text_size verb ≤ 16 → text_size (collection_verb verb query) ≤ 16
unfolding text_size
collection-most verb query h =
    pick (bytes_eq verb (codes "get")) (if asks_watch query then codes "watch" else codes "list") _ 16
    (pick (asks_watch query) (codes "watch") (codes "list") 16 (lit≤ tt) (lit≤ tt))
    (pick (bytes_eq verb (codes "delete")) (codes "deletecollection") verb 16 (lit≤ tt) h)

-- ---- what is recorded

other-verb : AnyIsBounded → (method path : List ℕ) → text_size (other_info method path).verb ≤ 6 * length method + 16
other-verb any method path =
    let a = any (map to_ascii_lowercase method) in
    let b = length-map method to_ascii_lowercase in
    omega arith

resource-verb : (method query path : List ℕ) (api : Api) (named : Named) →
    text_size (resource_info query path api (verb_of method api.parts) named).verb ≤ 6 * length method + 16
resource-verb method query path api named =
    let own = verb-of-most method api.parts in
    let all = collection-most (verb_of method api.parts) query own in
    let most = pick (length named.name == 0) (collection_verb (verb_of method api.parts) query) (verb_of method api.parts) 16 all own in
    omega arith

path-verb : AnyIsBounded → (method target query path : List ℕ) (o : Option Api) →
    text_size (recorded method target (path_info method query path o)).verb ≤ 6 * length method + 16
path-verb any method target query path None = other-verb any method path
path-verb any method target query path (Some api) =
    let named = named_by (behind_verb api.parts) in
    cond_both (length (behind_verb api.parts) == 0) (Err NoKind) (Ok (resource_info query path api (verb_of method api.parts) named))
    (λ (r : Result Info InfoFault). text_size (recorded method target r).verb ≤ 6 * length method + 16)
    (λ e. other-verb any method (refused_path (path_of target)))
    (λ e. resource-verb method query path api named)

decoded-verb : AnyIsBounded → (method target query : List ℕ) (o : Option (List ℕ)) →
    text_size (recorded method target (decoded_info method query o)).verb ≤ 6 * length method + 16
decoded-verb any method target query None = other-verb any method (refused_path (path_of target))
decoded-verb any method target query (Some path) = path-verb any method target query path (api_of (parts_of path))

-- the verb of a request is its method's, or short
pub verb-most : AnyIsBounded → (method target : List ℕ) → text_size (audit_info method target).verb ≤ 6 * length method + 16
verb-most any method target = decoded-verb any method target (query_of target) (path_of target)

resource-named : AnyIsBounded → (method query path : List ℕ) (api : Api) (n : ℕ) → api_size (Some api) ≤ n →
    named_size (object_ref (resource_info query path api (verb_of method api.parts) (named_by (behind_verb api.parts)))) ≤ 2 * n
resource-named any method query path api n few =
    let named : Named = named_by (behind_verb api.parts) in
    let verb : List ℕ = verb_of method api.parts in
    let info : Info = resource_info query path api verb named in
    let names = names-most any (behind_verb api.parts) in
    let behind = behind-most api.parts in
    let none = nothing any in
    let sub : text_size info.subresource ≤ text_size named.subresource =
    pick (bytes_eq verb (codes "proxy")) [] named.subresource (text_size named.subresource) (omega arith) (omega arith) in
    cond_both (is_named (reference info)) (Some (reference info)) None (λ (o : Option ObjectRef). named_size o ≤ 2 * n)
    (λ e. omega arith) (λ e. omega arith)

path-named : AnyIsBounded → (method target query path : List ℕ) (o : Option Api) (n : ℕ) → api_size o ≤ n →
    named_size (object_ref (recorded method target (path_info method query path o))) ≤ 2 * n
path-named any method target query path None n few = omega arith
path-named any method target query path (Some api) n few =
    cond_both (length (behind_verb api.parts) == 0) (Err NoKind)
    (Ok (resource_info query path api (verb_of method api.parts) (named_by (behind_verb api.parts))))
    (λ (r : Result Info InfoFault). named_size (object_ref (recorded method target r)) ≤ 2 * n)
    (λ e. omega arith)
    (λ e. resource-named any method query path api n few)

decoded-named : AnyIsBounded → SizesJoin → (method target query : List ℕ) (o : Option (List ℕ)) (n : ℕ) → path_size o ≤ n →
    named_size (object_ref (recorded method target (decoded_info method query o))) ≤ 2 * n
decoded-named any joined method target query None n few = omega arith
decoded-named any joined method target query (Some path) n few =
    path-named any method target query path (api_of (parts_of path)) n
    (omega (arith, api-most any (parts_of path), parts-most any joined path))

-- a namespace that is named itself stands in a line twice
pub named-most : AnyIsBounded → PrintedIsBounded → SizesJoin → (method target : List ℕ) → All (λ b. 32 ≤ b) target →
    named_size (object_ref (audit_info method target)) ≤ 4 * length target
named-most any printed joined method target h =
    let a = path-most any printed joined target h in
    let b = decoded-named any joined method target (query_of target) (path_of target) (2 * length target) a in
    omega arith
