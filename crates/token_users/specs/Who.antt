-- Who asks (RFC 6750, section 2.1, and Kubernetes, "Authenticating": bearer tokens in requests, anonymous requests).
use Rattle.std.specs.Prelude.{ℕ, ◌||◌, ◌==◌, Bool, List, [], ◌∷◌, ◌++◌, length, take, drop, Option, Some, None, codes, bytes_eq, if◌then◌else◌}
use Rattle.std.specs.List.{before_first, list_any}
use Rattle.std.specs.Str.{str_eq_ignore_ascii_case}
use Rattle.front_base.specs.declared.user.User.{User}
use Rattle.http_head.specs.Name.{first_value}
use Rattle.http_head.specs.declared.request.Head.{Head}
use Rattle.token_users.specs.Places.{last_user}
use Rattle.token_users.specs.declared.record.Record.{Record}
use Rattle.token_users.specs.declared.asker.Who.{Who}
use Rattle.token_users.specs.declared.asker.Who.TheVariants.{Known, Anonymous, BadToken}

-- the value begins with the scheme `Bearer` and a space
abbrev pub is_bearer : List ℕ → Bool
is_bearer value = str_eq_ignore_ascii_case (take 7 value) (codes "Bearer ")

abbrev pub before_space : List ℕ → List ℕ
before_space text = before_first (λ b. b == 32) text

-- what stands after them, up to the next space
abbrev pub token_in : List ℕ → List ℕ
token_in value = if is_bearer value then before_space (drop 7 value) else []

-- who has a token
abbrev pub owner : Option User → Who
owner None = BadToken
owner (Some user) = Known user

-- who sends the value; no token at all is nobody's
abbrev pub who_sends : List Record → List ℕ → Who
who_sends records value =
    if length (token_in value) == 0 then Anonymous else owner (last_user (token_in value) records)

abbrev pub who_by : List Record → Option (List ℕ) → Who
who_by records None = Anonymous
who_by records (Some value) = who_sends records value

-- who asks: the first Authorization header decides
abbrev pub who : List Record → Head → Who
who records head = who_by records (first_value (codes "authorization") head.headers)

-- the groups of everybody that is known by a token, and of nobody
abbrev pub authenticated : List ℕ
authenticated = codes "system:authenticated"

abbrev pub unauthenticated : List ℕ
unauthenticated = codes "system:unauthenticated"

abbrev pub anonymous : List ℕ
anonymous = codes "system:anonymous"

-- a group says already whether its members are known
abbrev pub is_settled_group : List ℕ → Bool
is_settled_group group = bytes_eq group authenticated || bytes_eq group unauthenticated

-- the groups of the user of a record need none beside them
abbrev pub is_settled : User → Bool
is_settled user = bytes_eq user.name anonymous || list_any is_settled_group user.groups

-- the groups of somebody that is known by a token
abbrev pub known_groups : User → List (List ℕ)
known_groups user = if is_settled user then user.groups else user.groups ++ authenticated ∷ []

abbrev pub known_user : User → User
known_user user = record { name = user.name; uid = user.uid; groups = known_groups user }

-- the user of requests without a token
abbrev pub nobody : User
nobody = record { name = anonymous; uid = []; groups = unauthenticated ∷ [] }

-- the user of a token that is nobody's
abbrev pub unknown : User
unknown = record { name = []; uid = []; groups = [] }

-- the user that a request counts as
abbrev pub user_of : Who → User
user_of (Known user) = known_user user
user_of Anonymous = nobody
user_of BadToken = unknown
