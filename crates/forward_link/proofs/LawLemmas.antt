-- What passes of a client's headers, and what is written beside them.
use Rattle.std.proofs.Common.{◌≡◌, ◌<◌, lit<, zero, suc, ℕ, Bool, true, false, not, ◌&&◌, ◌||◌, cond, List, [], ◌∷◌, ◌++◌, length, take, map, Option, Some, None, refl, sym, ap, ◌∙◌, arith, append-nil, codes, decimal, All}
use Rattle.std.specs.List.{filter, flat_map}
use Rattle.std.specs.Str.{str_to_ascii_lowercase}
use Rattle.std.specs.Char.{to_ascii_lowercase}
use Rattle.std.proofs.lemmas.Slice.Eq.{bytes_eq-Decides}
use Rattle.std.proofs.lemmas.List.{take-map, map-append}
use Rattle.std.proofs.Math.Seq.{take-append_seam}
use Rattle.std.proofs.lemmas.Grind.{flat_map-append}
use Rattle.std.proofs.lemmas.List.Elements.{All-cons, All-nil, All-append, All-map, All-weaker}
use Rattle.front_base.specs.AuditId.{AuditId, audit_id_text}
use Rattle.front_base.specs.declared.user.User.{User}
use Rattle.http_head.specs.Framing.{values_named}
use Rattle.http_head.specs.Connection.{has_option}
use Rattle.http_head.specs.Name.{is_named, name_begins}
use Rattle.http_head.specs.Written.{named}
use Rattle.http_head.specs.declared.header.Header.{Header}
use Rattle.forward_link.specs.Dashed.{dashed, dashed_names}
use Rattle.forward_link.specs.Hop.{is_hop, is_one_of, hop_names}
use Rattle.forward_link.specs.Forwarded.{passes, passing, own_names, own_headers, length_header}
use Rattle.forward_link.proofs.DashedLemmas.{begins_not}

-- ---- names

lower_length : (xs : List ℕ) → length (str_to_ascii_lowercase xs) ≡ length xs
lower_length [] = refl
lower_length (x ∷ xs) = let ih = lower_length xs in omega (arith, ih)

-- a name that begins with the prefix
pub begins_of_named : (prefix rest own : List ℕ) → is_named (prefix ++ rest) own ≡ true → name_begins prefix own ≡ true
begins_of_named prefix rest own e =
    let same : map to_ascii_lowercase own ≡ map to_ascii_lowercase (prefix ++ rest) = (bytes_eq-Decides (str_to_ascii_lowercase own) (str_to_ascii_lowercase (prefix ++ rest))).0 e in
    let low = map to_ascii_lowercase prefix in
    let front : map to_ascii_lowercase (take (length prefix) own) ≡ low =
    sym (take-map to_ascii_lowercase (length prefix) own) ∙ ap (take (length prefix)) (same ∙ map-append to_ascii_lowercase prefix rest)
    ∙ ap (λ n. take n (low ++ map to_ascii_lowercase rest)) (sym (lower_length prefix)) ∙ take-append_seam low (map to_ascii_lowercase rest) in
    (bytes_eq-Decides (str_to_ascii_lowercase (take (length prefix) own)) (str_to_ascii_lowercase prefix)).1 front

bool_cases : (t : Bool) → (t ≡ true → ⊥) → t ≡ false
bool_cases true h = absurd (h refl)
bool_cases false h = refl

pub not_named : (prefix rest own : List ℕ) → name_begins prefix own ≡ false → is_named (prefix ++ rest) own ≡ false
not_named prefix rest own e =
    bool_cases (is_named (prefix ++ rest) own) (λ f. let g : true ≡ false = sym (begins_of_named prefix rest own f) ∙ e in cc)

-- ---- what passes

parts : (a b c d : Bool) → (not a && (not b && not (c || d))) ≡ true → (a ≡ false) × (b ≡ false) × (c ≡ false) × (d ≡ false)
parts false false false false e = (refl, refl, refl, refl)
parts true b c d e = absurd (cc e)
parts false true c d e = absurd (cc e)
parts false false true d e = absurd (cc e)
parts false false false true e = absurd (cc e)

-- the four reasons for which a header doesn't pass
pub passes_parts : (headers : List Header) (h : Header) → passes headers h ≡ true
    → (is_hop headers h ≡ false) × (is_one_of own_names h ≡ false) × (name_begins (codes "x-remote-") (dashed h.name) ≡ false)
    × (name_begins (codes "impersonate-") (dashed h.name) ≡ false)
passes_parts headers h e =
    parts (is_hop headers h) (is_one_of own_names h) (name_begins (codes "x-remote-") (dashed h.name))
    (name_begins (codes "impersonate-") (dashed h.name)) e

-- it is no X-Remote- header either as its name stands
remote_not : (headers : List Header) (h : Header) → passes headers h ≡ true → name_begins (codes "x-remote-") h.name ≡ false
remote_not headers h e = begins_not (codes "x-remote-") h.name refl (passes_parts headers h e).2

-- ---- the values of some headers

abbrev by : (Header → Bool) → List Header → List (List ℕ)
by q hs = flat_map (λ (h : Header). cond (q h) (h.value ∷ []) []) hs

by-append : (q : Header → Bool) (hs ks : List Header) → by q (hs ++ ks) ≡ by q hs ++ by q ks
by-append q hs ks = flat_map-append (λ (h : Header). cond (q h) (h.value ∷ []) []) hs ks

kept_step : (q : Header → Bool) (h : Header) (ks : List Header) (t : Bool) → (t ≡ true → q h ≡ false) → by q ks ≡ [] → by q (cond t (h ∷ ks) ks) ≡ []
kept_step q h ks true f e = rw (f refl) e
kept_step q h ks false f e = e

none_kept : (q p : Header → Bool) (hs : List Header) → ((h : Header) → p h ≡ true → q h ≡ false) → by q (filter p hs) ≡ []
none_kept q p [] f = refl
none_kept q p (h ∷ hs) f = kept_step q h (filter p hs) (p h) (f h) (none_kept q p hs f)

or_left : (a b : Bool) → (a || b) ≡ false → a ≡ false
or_left false b e = refl
or_left true b e = absurd (cc e)

or_right : (a b : Bool) → (a || b) ≡ false → b ≡ false
or_right false b e = e
or_right true b e = absurd (cc e)

-- the name at a place
abbrev pick : ℕ → List (List ℕ) → List ℕ
pick k [] = []
pick zero (n ∷ ns) = n
pick (suc k) (n ∷ ns) = pick k ns

not_one : (k : ℕ) (names : List (List ℕ)) (h : Header) → k < length names → is_one_of names h ≡ false → is_named (pick k names) h.name ≡ false
not_one k [] h l e = absurd (omega (arith, l))
not_one zero (n ∷ ns) h l e = or_left (is_named n h.name) (is_one_of ns h) e
not_one (suc k) (n ∷ ns) h l e = not_one k ns h (omega (arith, l)) (or_right (is_named n h.name) (is_one_of ns h) e)

own_not : (k : ℕ) (headers : List Header) (h : Header) → k < length own_names → passes headers h ≡ true → is_named (pick k own_names) h.name ≡ false
own_not k headers h l e = not_one k own_names h l (passes_parts headers h e).1

hop_not : (k : ℕ) (headers : List Header) (h : Header) → k < length hop_names → passes headers h ≡ true → is_named (pick k hop_names) h.name ≡ false
hop_not k headers h l e =
    not_one k hop_names h l (or_left (is_one_of hop_names h) (name_begins (codes "proxy-") h.name || has_option h.name headers) (passes_parts headers h e).0)

-- ---- the headers that are written here

abbrev user_name : List ℕ
user_name = codes "X-Remote-User"

abbrev group_name : List ℕ
group_name = codes "X-Remote-Group"

-- those after the groups
abbrev after_groups : AuditId → Option ℕ → List Header
after_groups id size = named (codes "Audit-ID") (audit_id_text id) ∷ (length_header size ++ named (codes "Connection") (codes "close") ∷ [])

no_groups : (q : Header → Bool) (groups : List (List ℕ)) (ks : List Header) → ((g : List ℕ) → q (named group_name g) ≡ false)
    → by q (map (named group_name) groups ++ ks) ≡ by q ks
no_groups q [] ks f = refl
no_groups q (g ∷ gs) ks f = rw (f g) (no_groups q gs ks f)

every_group : (q : Header → Bool) (groups : List (List ℕ)) (ks : List Header) → ((g : List ℕ) → q (named group_name g) ≡ true)
    → by q (map (named group_name) groups ++ ks) ≡ groups ++ by q ks
every_group q [] ks f = refl
every_group q (g ∷ gs) ks f = rw (f g) (ap (λ l. g ∷ l) (every_group q gs ks f))

no_passing : (q : Header → Bool) (headers ks : List Header) → ((h : Header) → passes headers h ≡ true → q h ≡ false)
    → by q (passing headers ++ ks) ≡ by q ks
no_passing q headers ks f = by-append q (passing headers) ks ∙ ap (λ l. l ++ by q ks) (none_kept q (passes headers) headers f)

-- no header that passes and none of the groups
written : (q : Header → Bool) (headers : List Header) (user : User) (id : AuditId) (size : Option ℕ)
    → ((h : Header) → passes headers h ≡ true → q h ≡ false) → ((g : List ℕ) → q (named group_name g) ≡ false)
    → by q (passing headers ++ own_headers user id size) ≡ by q (named user_name user.name ∷ after_groups id size)
written q headers user id size f g =
    no_passing q headers (own_headers user id size) f
    ∙ ap (λ l. cond (q (named user_name user.name)) (user.name ∷ []) [] ++ l) (no_groups q user.groups (after_groups id size) g)

abbrev is_user : Header → Bool
is_user h = is_named (codes "X-Remote-User") h.name

user_cases : (name : List ℕ) (id : AuditId) (size : Option ℕ) → by is_user (named user_name name ∷ after_groups id size) ≡ name ∷ []
user_cases name id None = refl
user_cases name id (Some n) = refl

pub one_user : (headers : List Header) (user : User) (id : AuditId) (size : Option ℕ)
    → values_named (codes "X-Remote-User") (passing headers ++ own_headers user id size) ≡ user.name ∷ []
one_user headers user id size =
    written is_user headers user id size (λ h e. not_named (codes "x-remote-") (codes "user") h.name (remote_not headers h e)) (λ g. refl)
    ∙ user_cases user.name id size

abbrev is_group : Header → Bool
is_group h = is_named (codes "X-Remote-Group") h.name

group_cases : (id : AuditId) (size : Option ℕ) → by is_group (after_groups id size) ≡ []
group_cases id None = refl
group_cases id (Some n) = refl

pub all_groups : (headers : List Header) (user : User) (id : AuditId) (size : Option ℕ)
    → values_named (codes "X-Remote-Group") (passing headers ++ own_headers user id size) ≡ user.groups
all_groups headers user id size =
    no_passing is_group headers (own_headers user id size) (λ h e. not_named (codes "x-remote-") (codes "group") h.name (remote_not headers h e))
    ∙ every_group is_group user.groups (after_groups id size) (λ g. refl) ∙ ap (λ l. user.groups ++ l) (group_cases id size) ∙ append-nil user.groups

abbrev is_remote : Header → Bool
is_remote h = name_begins (codes "X-Remote-") h.name

remote_cases : (id : AuditId) (size : Option ℕ) → by is_remote (after_groups id size) ≡ []
remote_cases id None = refl
remote_cases id (Some n) = refl

pub nobody_else : (headers : List Header) (user : User) (id : AuditId) (size : Option ℕ)
    → by is_remote (passing headers ++ own_headers user id size) ≡ user.name ∷ user.groups
nobody_else headers user id size =
    no_passing is_remote headers (own_headers user id size) (remote_not headers)
    ∙ ap (λ l. user.name ∷ l)
    (every_group is_remote user.groups (after_groups id size) (λ g. refl) ∙ ap (λ l. user.groups ++ l) (remote_cases id size) ∙ append-nil user.groups)

abbrev is_credentials : Header → Bool
is_credentials h = is_named (codes "Authorization") h.name

credentials_cases : (name : List ℕ) (id : AuditId) (size : Option ℕ) → by is_credentials (named user_name name ∷ after_groups id size) ≡ []
credentials_cases name id None = refl
credentials_cases name id (Some n) = refl

pub no_credentials : (headers : List Header) (user : User) (id : AuditId) (size : Option ℕ)
    → values_named (codes "Authorization") (passing headers ++ own_headers user id size) ≡ []
no_credentials headers user id size =
    written is_credentials headers user id size
    (λ h e. own_not 3 headers h (lit< tt) e) (λ g. refl)
    ∙ credentials_cases user.name id size

abbrev is_host : Header → Bool
is_host h = is_named (codes "Host") h.name

host_cases : (name : List ℕ) (id : AuditId) (size : Option ℕ) → by is_host (named user_name name ∷ after_groups id size) ≡ []
host_cases name id None = refl
host_cases name id (Some n) = refl

pub one_host : (host : List ℕ) (headers : List Header) (user : User) (id : AuditId) (size : Option ℕ)
    → values_named (codes "Host") (named (codes "Host") host ∷ (passing headers ++ own_headers user id size)) ≡ host ∷ []
one_host host headers user id size =
    ap (λ l. host ∷ l)
    (written is_host headers user id size (λ h e. own_not 0 headers h (lit< tt) e) (λ g. refl) ∙ host_cases user.name id size)

abbrev is_audit : Header → Bool
is_audit h = is_named (codes "Audit-ID") h.name

audit_cases : (name : List ℕ) (id : AuditId) (size : Option ℕ) → by is_audit (named user_name name ∷ after_groups id size) ≡ audit_id_text id ∷ []
audit_cases name id None = refl
audit_cases name id (Some n) = refl

pub one_audit : (headers : List Header) (user : User) (id : AuditId) (size : Option ℕ)
    → values_named (codes "Audit-ID") (passing headers ++ own_headers user id size) ≡ audit_id_text id ∷ []
one_audit headers user id size =
    written is_audit headers user id size
    (λ h e. own_not 4 headers h (lit< tt) e) (λ g. refl)
    ∙ audit_cases user.name id size

abbrev is_connection : Header → Bool
is_connection h = is_named (codes "Connection") h.name

connection_cases : (name : List ℕ) (id : AuditId) (size : Option ℕ)
    → by is_connection (named user_name name ∷ after_groups id size) ≡ codes "close" ∷ []
connection_cases name id None = refl
connection_cases name id (Some n) = refl

pub one_connection : (headers : List Header) (user : User) (id : AuditId) (size : Option ℕ)
    → values_named (codes "Connection") (passing headers ++ own_headers user id size) ≡ codes "close" ∷ []
one_connection headers user id size =
    written is_connection headers user id size (λ h e. hop_not 0 headers h (lit< tt) e) (λ g. refl)
    ∙ connection_cases user.name id size

abbrev is_length : Header → Bool
is_length h = is_named (codes "Content-Length") h.name

length_cases : (name : List ℕ) (id : AuditId) (size : Option ℕ)
    → by is_length (named user_name name ∷ after_groups id size) ≡ map (λ (h : Header). h.value) (length_header size)
length_cases name id None = refl
length_cases name id (Some n) = refl

pub one_length : (headers : List Header) (user : User) (id : AuditId) (size : Option ℕ)
    → values_named (codes "Content-Length") (passing headers ++ own_headers user id size) ≡ map (λ (h : Header). h.value) (length_header size)
one_length headers user id size =
    written is_length headers user id size (λ h e. own_not 1 headers h (lit< tt) e) (λ g. refl)
    ∙ length_cases user.name id size

abbrev is_coding : Header → Bool
is_coding h = is_named (codes "Transfer-Encoding") h.name

coding_cases : (name : List ℕ) (id : AuditId) (size : Option ℕ) → by is_coding (named user_name name ∷ after_groups id size) ≡ []
coding_cases name id None = refl
coding_cases name id (Some n) = refl

pub no_coding : (headers : List Header) (user : User) (id : AuditId) (size : Option ℕ)
    → values_named (codes "Transfer-Encoding") (passing headers ++ own_headers user id size) ≡ []
no_coding headers user id size =
    written is_coding headers user id size
    (λ h e. hop_not 4 headers h (lit< tt) e) (λ g. refl)
    ∙ coding_cases user.name id size

-- ---- the values that a reader sees to whom `_` is `-`

abbrev as_dashed : Header → Header
as_dashed h = named (dashed h.name) h.value

by-dashed : (q : Header → Bool) (hs : List Header) → by q (dashed_names hs) ≡ by (λ h. q (as_dashed h)) hs
by-dashed q [] = refl
by-dashed q (h ∷ hs) = ap (λ l. cond (q (as_dashed h)) (h.value ∷ []) [] ++ l) (by-dashed q hs)

dashed_user_cases : (name : List ℕ) (id : AuditId) (size : Option ℕ)
    → by (λ h. is_user (as_dashed h)) (named user_name name ∷ after_groups id size) ≡ name ∷ []
dashed_user_cases name id None = refl
dashed_user_cases name id (Some n) = refl

pub one_dashed_user : (headers : List Header) (user : User) (id : AuditId) (size : Option ℕ)
    → values_named (codes "X-Remote-User") (dashed_names (passing headers ++ own_headers user id size)) ≡ user.name ∷ []
one_dashed_user headers user id size =
    by-dashed is_user (passing headers ++ own_headers user id size)
    ∙ written (λ h. is_user (as_dashed h)) headers user id size
    (λ h e. not_named (codes "x-remote-") (codes "user") (dashed h.name) (passes_parts headers h e).2) (λ g. refl)
    ∙ dashed_user_cases user.name id size

dashed_group_cases : (id : AuditId) (size : Option ℕ) → by (λ h. is_group (as_dashed h)) (after_groups id size) ≡ []
dashed_group_cases id None = refl
dashed_group_cases id (Some n) = refl

pub all_dashed_groups : (headers : List Header) (user : User) (id : AuditId) (size : Option ℕ)
    → values_named (codes "X-Remote-Group") (dashed_names (passing headers ++ own_headers user id size)) ≡ user.groups
all_dashed_groups headers user id size =
    by-dashed is_group (passing headers ++ own_headers user id size)
    ∙ no_passing (λ h. is_group (as_dashed h)) headers (own_headers user id size)
    (λ h e. not_named (codes "x-remote-") (codes "group") (dashed h.name) (passes_parts headers h e).2)
    ∙ every_group (λ h. is_group (as_dashed h)) user.groups (after_groups id size) (λ g. refl)
    ∙ ap (λ l. user.groups ++ l) (dashed_group_cases id size) ∙ append-nil user.groups

dashed_remote_cases : (id : AuditId) (size : Option ℕ) → by (λ h. is_remote (as_dashed h)) (after_groups id size) ≡ []
dashed_remote_cases id None = refl
dashed_remote_cases id (Some n) = refl

pub nobody_else_dashed : (headers : List Header) (user : User) (id : AuditId) (size : Option ℕ)
    → by is_remote (dashed_names (passing headers ++ own_headers user id size)) ≡ user.name ∷ user.groups
nobody_else_dashed headers user id size =
    by-dashed is_remote (passing headers ++ own_headers user id size)
    ∙ no_passing (λ h. is_remote (as_dashed h)) headers (own_headers user id size) (λ h e. (passes_parts headers h e).2)
    ∙ ap (λ l. user.name ∷ l)
    (every_group (λ h. is_remote (as_dashed h)) user.groups (after_groups id size) (λ g. refl)
    ∙ ap (λ l. user.groups ++ l) (dashed_remote_cases id size) ∙ append-nil user.groups)

-- ---- all headers

all_step : (P : Header → Type 0) (h : Header) (ks : List Header) (t : Bool) → (t ≡ true → P h) → All P ks → All P (cond t (h ∷ ks) ks)
all_step P h ks true f e = All-cons P h ks (f refl) e
all_step P h ks false f e = e

pub all_kept : (P : Header → Type 0) (p : Header → Bool) (hs : List Header) → ((h : Header) → p h ≡ true → P h) → All P (filter p hs)
all_kept P p [] f = All-nil P
all_kept P p (h ∷ hs) f = all_step P h (filter p hs) (p h) (f h) (all_kept P p hs f)

-- also to a reader to whom `_` is `-`
abbrev ActsForNobody : Header → Type 0
ActsForNobody h = name_begins (codes "Impersonate-") (dashed h.name) ≡ false

groups_act : (groups : List (List ℕ)) → All ActsForNobody (map (named (codes "X-Remote-Group")) groups)
groups_act [] = All-nil ActsForNobody
groups_act (g ∷ gs) = All-cons ActsForNobody (named (codes "X-Remote-Group") g) (map (named (codes "X-Remote-Group")) gs) refl (groups_act gs)

after_act : (id : AuditId) (size : Option ℕ) → All ActsForNobody (after_groups id size)
after_act id None =
    let a = named (codes "Audit-ID") (audit_id_text id) in
    let z = named (codes "Connection") (codes "close") in
    All-cons ActsForNobody a (z ∷ []) refl (All-cons ActsForNobody z [] refl (All-nil ActsForNobody))
after_act id (Some n) =
    let a = named (codes "Audit-ID") (audit_id_text id) in
    let y = named (codes "Content-Length") (decimal n) in
    let z = named (codes "Connection") (codes "close") in
    All-cons ActsForNobody a (y ∷ z ∷ []) refl
    (All-cons ActsForNobody y (z ∷ []) refl (All-cons ActsForNobody z [] refl (All-nil ActsForNobody)))

all_act : (headers : List Header) (user : User) (host : List ℕ) (id : AuditId) (size : Option ℕ)
    → All ActsForNobody (named (codes "Host") host ∷ (passing headers ++ own_headers user id size))
all_act headers user host id size =
    All-cons ActsForNobody (named (codes "Host") host) (passing headers ++ own_headers user id size) refl
    (All-append ActsForNobody (passing headers) (own_headers user id size)
    (all_kept ActsForNobody (passes headers) headers (λ h e. (passes_parts headers h e).3))
    (All-cons ActsForNobody (named (codes "X-Remote-User") user.name) (map (named (codes "X-Remote-Group")) user.groups ++ after_groups id size) refl
    (All-append ActsForNobody (map (named (codes "X-Remote-Group")) user.groups) (after_groups id size) (groups_act user.groups) (after_act id size))))

pub nobody_acts : (headers : List Header) (user : User) (host : List ℕ) (id : AuditId) (size : Option ℕ)
    → All (λ (h : Header). name_begins (codes "Impersonate-") h.name ≡ false) (named (codes "Host") host ∷ (passing headers ++ own_headers user id size))
nobody_acts headers user host id size =
    All-weaker ActsForNobody (λ (h : Header). name_begins (codes "Impersonate-") h.name ≡ false) (λ h e. begins_not (codes "Impersonate-") h.name refl e)
    (named (codes "Host") host ∷ (passing headers ++ own_headers user id size)) (all_act headers user host id size)

pub nobody_acts_dashed : (headers : List Header) (user : User) (host : List ℕ) (id : AuditId) (size : Option ℕ)
    → All (λ (h : Header). name_begins (codes "Impersonate-") h.name ≡ false)
    (dashed_names (named (codes "Host") host ∷ (passing headers ++ own_headers user id size)))
nobody_acts_dashed headers user host id size =
    All-map (λ (h : Header). name_begins (codes "Impersonate-") h.name ≡ false) as_dashed
    (named (codes "Host") host ∷ (passing headers ++ own_headers user id size)) (all_act headers user host id size)

pub no_hops : (headers : List Header) → All (λ h. is_hop headers h ≡ false) (passing headers)
no_hops headers = all_kept (λ h. is_hop headers h ≡ false) (passes headers) headers (λ h e. (passes_parts headers h e).0)
