-- Whom a request acts as (Kubernetes, "Authenticating": user impersonation). What this front door serves of it is its own:
-- the headers Impersonate-User and Impersonate-Group, for members of `system:masters`.
use Rattle.std.specs.Prelude.{ℕ, ◌==◌, ◌&&◌, ◌||◌, Bool, not, List, [], ◌∷◌, ◌++◌, length, Option, Some, None, codes, bytes_eq, filter, map, if◌then◌else◌}
use Rattle.std.specs.List.{list_all, list_any}
use Rattle.std.specs.Str.{is_utf8}
use Rattle.front_base.specs.declared.user.User.{User}
use Rattle.http_head.specs.Name.{is_named, name_begins}
use Rattle.http_head.specs.declared.header.Header.{Header}
use Rattle.http_head.specs.declared.request.Head.{Head}
use Rattle.token_users.specs.Carried.{is_plain}
use Rattle.token_users.specs.Who.{authenticated, user_of}
use Rattle.token_users.specs.declared.asker.Who.{Who}
use Rattle.token_users.specs.declared.acting.Act.{Act}
use Rattle.token_users.specs.declared.acting.Act.TheVariants.{Own, As, Unserved, Bad, Forbidden}

-- the header's name begins with `Impersonate-`
abbrev pub is_impersonation : Header → Bool
is_impersonation header = name_begins (codes "impersonate-") header.name

abbrev pub user_header : List ℕ
user_header = codes "impersonate-user"

abbrev pub group_header : List ℕ
group_header = codes "impersonate-group"

-- a header of this kind that isn't served, as Impersonate-Uid and Impersonate-Extra-
abbrev pub is_unserved : Header → Bool
is_unserved header =
    is_impersonation header && not (is_named user_header header.name || is_named group_header header.name)

-- the values of the headers of a name, in their order
abbrev pub values : List ℕ → List Header → List (List ℕ)
values name headers = map (λ (h : Header). h.value) (filter (λ (h : Header). is_named name h.name) headers)

abbrev pub is_plain_name : List ℕ → Bool
is_plain_name text = not (length text == 0) && is_plain text

-- a value that names a user or a group: UTF-8, not empty, without control characters
abbrev pub is_name : List ℕ → Bool
is_name value = is_utf8 value && is_plain_name value

abbrev pub plain_name : List ℕ → Option (List ℕ)
plain_name text = if is_plain_name text then Some text else None

abbrev pub name_in : List ℕ → Option (List ℕ)
name_in value = if is_name value then Some value else None

-- the values of the headers of a name, where each is a name
abbrev pub names : List ℕ → List Header → Option (List (List ℕ))
names name headers = if list_all is_name (values name headers) then Some (values name headers) else None

abbrev pub has_group : List ℕ → List (List ℕ) → Bool
has_group name groups = list_any (λ group. bytes_eq group name) groups

-- everybody that somebody acts as is known
abbrev pub with_authenticated : List (List ℕ) → List (List ℕ)
with_authenticated groups =
    if has_group authenticated groups then groups else groups ++ authenticated ∷ []

abbrev pub user_with : List ℕ → List (List ℕ) → User
user_with name groups = record { name = name; uid = []; groups = with_authenticated groups }

-- the user of one name and these groups
abbrev pub one_user : List (List ℕ) → List (List ℕ) → Option User
one_user [] groups = None
one_user (name ∷ []) groups = Some (user_with name groups)
one_user (name ∷ other ∷ others) groups = None

abbrev pub user_named : Option (List (List ℕ)) → Option (List (List ℕ)) → Option User
user_named None groups = None
user_named (Some users) None = None
user_named (Some users) (Some groups) = one_user users groups

-- the user that the headers ask to act as, where they name one
abbrev pub user_asked : List Header → Option User
user_asked headers = user_named (names user_header headers) (names group_header headers)

abbrev pub masters : List ℕ
masters = codes "system:masters"

-- a member of the group that may do everything
abbrev pub is_master : Who → Bool
is_master who = has_group masters (user_of who).groups

abbrev pub as_asked : Bool → Option User → Act
as_asked master None = Bad
as_asked master (Some user) = if master then As user else Forbidden

-- the first line that applies is the answer
unfoldable pub act_of : Who → Head → Act
act_of who head =
    if not (list_any is_impersonation head.headers) then Own
    else if list_any is_unserved head.headers then Unserved
    else as_asked (is_master who) (user_asked head.headers)

-- the user of As, else one's own
abbrev pub user_acting : Act → User → User
user_acting Own own = own
user_acting (As user) own = user
user_acting Unserved own = own
user_acting Bad own = own
user_acting Forbidden own = own

-- the user that a request acts as
abbrev pub acting : Who → Head → User
acting who head = user_acting (act_of who head) (user_of who)
