-- How many bytes the headers that events show have in a line.
use Rattle.std.proofs.Common.{◌≡◌, ◌≢◌, ℕ, ◌+◌, ◌*◌, ◌≤◌, length, Bool, true, false, List, [], ◌∷◌, ◌++◌, Option, Some, None, map, refl, ap, arith}
use Rattle.std.specs.Prelude.{codes, filter, if◌then◌else◌, not, option_map}
use Rattle.std.specs.List.{find, list_all, list_any}
use Rattle.std.specs.Str.{str_to_ascii_lowercase}
use Rattle.std.specs.Char.{to_ascii_lowercase}
use Rattle.std.specs.Str.Lossy.{utf8_lossy}
use Rattle.std.proofs.lemmas.Bool.{cond_both}
use Rattle.std.proofs.lemmas.List.{length-map}
use Rattle.std.proofs.lemmas.Slice.Eq.{bytes_eq-Decides}
use Rattle.front_base.specs.declared.user.User.{User}
use Rattle.http_head.specs.Name.{is_named}
use Rattle.http_head.specs.declared.header.Header.{Header}
use Rattle.http_head.specs.declared.request.Head.{Head}
use Rattle.token_users.specs.Act.{values, names, is_name, user_header, group_header, user_asked, user_named, one_user, with_authenticated, has_group, as_asked, act_of, is_master, is_impersonation, is_unserved}
use Rattle.token_users.specs.Who.{authenticated}
use Rattle.token_users.specs.declared.acting.Act.{Act}
use Rattle.token_users.specs.declared.acting.Act.TheVariants.{Own, As, Unserved, Bad, Forbidden}
use Rattle.token_users.specs.declared.asker.Who.{Who}
use Rattle.line_bounds.specs.Bounds.{text_size, texts_size, user_size, acting_size}
use Rattle.request_bounds.specs.Bounds.{headers_length}
use Rattle.request_bounds.proofs.AgentLemmas.{lossy-most}
use Rattle.request_bounds.proofs.PathLemmas.{AnyIsBounded, SizesJoin}

-- ---- one header has one name

named-length : (name own : List ℕ) → is_named name own ≡ true → length own ≡ length name
named-length name own h =
    let same = ap length ((bytes_eq-Decides (str_to_ascii_lowercase own) (str_to_ascii_lowercase name)).0 h) in
    let a = length-map own to_ascii_lowercase in
    let b = length-map name to_ascii_lowercase in
    omega arith

apart : (a b own : List ℕ) → length a ≢ length b → is_named a own ≡ true → is_named b own ≡ true → ⊥
apart a b own differ h k = let p = named-length a own h in let q = named-length b own k in differ (omega arith)

-- ---- what each header adds

abbrev if_so : Bool → ℕ → ℕ
if_so true n = n
if_so false n = 0

abbrev found_size : Option Header → ℕ
found_size None = 0
found_size (Some h) = text_size (utf8_lossy h.value)

found-more : AnyIsBounded → SizesJoin → (name : List ℕ) (h : Header) (hs : List Header) →
    found_size (find (λ (h : Header). is_named name h.name) (h ∷ hs))
    ≤ if_so (is_named name h.name) (6 * length h.value) + found_size (find (λ (h : Header). is_named name h.name) hs)
found-more any joined name h hs = by_test (is_named name h.name) (lossy-most any joined h.value)
  where
    by_test : (t : Bool) → text_size (utf8_lossy h.value) ≤ 6 * length h.value →
        found_size (if t then Some h else find (λ (h : Header). is_named name h.name) hs)
        ≤ if_so t (6 * length h.value) + found_size (find (λ (h : Header). is_named name h.name) hs)
    by_test true few = omega arith
    by_test false few = omega arith

values-more : AnyIsBounded → (name : List ℕ) (h : Header) (hs : List Header) →
    texts_size (values name (h ∷ hs)) ≤ if_so (is_named name h.name) (6 * length h.value + 3) + texts_size (values name hs)
values-more any name h hs = by_test (is_named name h.name) (any h.value)
  where
    by_test : (t : Bool) → text_size h.value ≤ 6 * length h.value →
        texts_size (map (λ (h : Header). h.value) (if t then h ∷ filter (λ (h : Header). is_named name h.name) hs else filter (λ (h : Header). is_named name h.name) hs))
        ≤ if_so t (6 * length h.value + 3) + texts_size (values name hs)
    by_test true few = omega arith
    by_test false few = omega arith

one-at-most : (u v w : Bool) (n : ℕ) → (u ≡ true → v ≡ true → ⊥) → (u ≡ true → w ≡ true → ⊥) → (v ≡ true → w ≡ true → ⊥) →
    if_so u (6 * n) + if_so v (6 * n + 3) + if_so w (6 * n + 3) ≤ 6 * n + 3
one-at-most false false false n p q r = omega arith
one-at-most true false false n p q r = omega arith
one-at-most false true false n p q r = omega arith
one-at-most false false true n p q r = omega arith
one-at-most true true w n p q r = absurd (p refl refl)
one-at-most true false true n p q r = absurd (q refl refl)
one-at-most false true true n p q r = absurd (r refl refl)

abbrev pub agent_header : List ℕ
agent_header = codes "user-agent"

abbrev pub agent_of : List Header → ℕ
agent_of hs = found_size (find (λ (h : Header). is_named agent_header h.name) hs)

pub headers-most : AnyIsBounded → SizesJoin → (hs : List Header) →
    agent_of hs + texts_size (values user_header hs) + texts_size (values group_header hs) ≤ 6 * headers_length hs
headers-most any joined [] = omega arith
headers-most any joined (h ∷ hs) =
    let rest = headers-most any joined hs in
    let a = found-more any joined agent_header h hs in
    let b = values-more any user_header h hs in
    let c = values-more any group_header h hs in
    let one = one-at-most (is_named agent_header h.name) (is_named user_header h.name) (is_named group_header h.name) (length h.value)
    (apart agent_header user_header h.name (λ e. absurd (omega arith)))
    (apart agent_header group_header h.name (λ e. absurd (omega arith)))
    (apart user_header group_header h.name (λ e. absurd (omega arith))) in
    omega arith

pub found-value : (o : Option Header) (size : Option (List ℕ) → ℕ) → size None ≡ 0 → ((v : List ℕ) → size (Some v) ≡ text_size (utf8_lossy v)) →
    size (option_map (λ (h : Header). h.value) o) ≡ found_size o
found-value None size none some = none
found-value (Some h) size none some = some h.value

-- ---- the user that headers name

texts-append : (xs ys : List (List ℕ)) → texts_size (xs ++ ys) ≡ texts_size xs + texts_size ys
texts-append [] ys = omega arith
texts-append (x ∷ xs) ys = let rest = texts-append xs ys in omega arith

everybody : text_size authenticated ≡ 20
unfolding text_size
everybody = refl

groups-most : (groups : List (List ℕ)) → texts_size (with_authenticated groups) ≤ texts_size groups + 23
groups-most groups =
    let a = texts-append groups (authenticated ∷ []) in
    cond_both (has_group authenticated groups) groups (groups ++ authenticated ∷ [])
    (λ (gs : List (List ℕ)). texts_size gs ≤ texts_size groups + 23) (λ e. omega arith) (λ e. omega (arith, everybody))

one-most : AnyIsBounded → (users groups : List (List ℕ)) → acting_size (one_user users groups) ≤ texts_size users + texts_size groups + 23
one-most any [] groups = omega arith
one-most any (name ∷ []) groups = let a = groups-most groups in let b = any [] in omega arith
one-most any (name ∷ other ∷ others) groups = omega arith

asked-most : AnyIsBounded → (hs : List Header) →
    acting_size (user_asked hs) ≤ texts_size (values user_header hs) + texts_size (values group_header hs) + 23
asked-most any hs =
    let n : ℕ = texts_size (values user_header hs) + texts_size (values group_header hs) + 23 in
    let one = one-most any (values user_header hs) (values group_header hs) in
    cond_both (list_all is_name (values user_header hs)) (Some (values user_header hs)) None
    (λ (users : Option (List (List ℕ))). acting_size (user_named users (names group_header hs)) ≤ n)
    (λ e. cond_both (list_all is_name (values group_header hs)) (Some (values group_header hs)) None
    (λ (groups : Option (List (List ℕ))). acting_size (user_named (Some (values user_header hs)) groups) ≤ n)
    (λ e. one) (λ e. omega arith))
    (λ e. omega arith)

abbrev pub act_size : Act → ℕ
act_size Own = 0
act_size (As user) = user_size user
act_size Unserved = 0
act_size Bad = 0
act_size Forbidden = 0

as-asked : (master : Bool) (o : Option User) → act_size (as_asked master o) ≤ acting_size o
as-asked master None = omega arith
as-asked true (Some user) = omega arith
as-asked false (Some user) = omega arith

pub act-most : AnyIsBounded → (who : Who) (head : Head) →
    act_size (act_of who head) ≤ texts_size (values user_header head.headers) + texts_size (values group_header head.headers) + 23
unfolding act_of
act-most any who head =
    let n : ℕ = texts_size (values user_header head.headers) + texts_size (values group_header head.headers) + 23 in
    let asked = asked-most any head.headers in
    let made = as-asked (is_master who) (user_asked head.headers) in
    cond_both (not (list_any is_impersonation head.headers)) Own
    (if list_any is_unserved head.headers then Unserved else as_asked (is_master who) (user_asked head.headers))
    (λ (a : Act). act_size a ≤ n) (λ e. omega arith)
    (λ e. cond_both (list_any is_unserved head.headers) Unserved (as_asked (is_master who) (user_asked head.headers))
    (λ (a : Act). act_size a ≤ n) (λ e. omega arith) (λ e. omega arith))
