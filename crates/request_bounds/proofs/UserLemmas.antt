-- How many bytes users have, and how many in a line.
use Rattle.std.proofs.Common.{◌≡◌, ℕ, ◌+◌, ◌*◌, ◌≤◌, length, List, [], ◌∷◌, ◌++◌, Option, Some, None, arith}
use Rattle.std.specs.Prelude.{codes, bytes_eq, ◌==◌, if◌then◌else◌}
use Rattle.std.proofs.lemmas.Bool.{cond_both}
use Rattle.front_base.specs.declared.user.User.{User}
use Rattle.http_head.specs.Name.{first_value}
use Rattle.http_head.specs.declared.request.Head.{Head}
use Rattle.token_users.specs.Places.{last_user, later_or}
use Rattle.token_users.specs.Who.{who, who_by, owner, token_in, user_of, known_user, known_groups, is_settled, authenticated}
use Rattle.token_users.specs.declared.asker.Who.{Who}
use Rattle.token_users.specs.declared.asker.Who.TheVariants.{Anonymous}
use Rattle.token_users.specs.declared.record.Record.{Record}
use Rattle.line_bounds.specs.Bounds.{texts_size, user_size}
use Rattle.request_bounds.specs.Bounds.{groups_length, user_length, longest_user, longest_asker}
use Rattle.request_bounds.proofs.PathLemmas.{AnyIsBounded}

groups-six : AnyIsBounded → (groups : List (List ℕ)) → texts_size groups ≤ 6 * groups_length groups
groups-six any [] = omega arith
groups-six any (group ∷ groups) = let a = any group in let rest = groups-six any groups in omega arith

pub user-six : AnyIsBounded → (user : User) → user_size user ≤ 6 * user_length user
user-six any user =
    let a = any user.name in let b = any user.uid in let c = groups-six any user.groups in omega arith

-- ---- the longest user

groups-append : (xs ys : List (List ℕ)) → groups_length (xs ++ ys) ≡ groups_length xs + groups_length ys
groups-append [] ys = omega arith
groups-append (x ∷ xs) ys = let rest = groups-append xs ys in omega arith

known-most : (user : User) → user_length (known_user user) ≤ user_length user + 21
known-most user =
    let a = groups-append user.groups (authenticated ∷ []) in
    let few : groups_length (known_groups user) ≤ groups_length user.groups + 21 =
    cond_both (is_settled user) user.groups (user.groups ++ authenticated ∷ [])
    (λ (gs : List (List ℕ)). groups_length gs ≤ groups_length user.groups + 21) (λ e. omega arith) (λ e. omega arith) in
    omega arith

abbrev found_length : Option User → ℕ
found_length None = 0
found_length (Some user) = user_length user

later-most : (later earlier : Option User) (n : ℕ) → found_length later ≤ n → found_length earlier ≤ n → found_length (later_or later earlier) ≤ n
later-most None earlier n h k = k
later-most (Some user) earlier n h k = h

last-longest : (token : List ℕ) (records : List Record) → found_length (last_user token records) ≤ longest_user records
unfolding last_user
last-longest token [] = omega arith
last-longest token (first ∷ others) =
    let rest = last-longest token others in
    let own : found_length (if bytes_eq first.token token then Some first.user else None) ≤ user_length first.user =
    cond_both (bytes_eq first.token token) (Some first.user) None (λ (o : Option User). found_length o ≤ user_length first.user) (λ e. omega arith) (λ e. omega arith) in
    later-most (last_user token others) (if bytes_eq first.token token then Some first.user else None) (longest_user (first ∷ others)) (omega arith) (omega arith)

owner-most : (o : Option User) → user_length (user_of (owner o)) ≤ found_length o + 21
owner-most None = omega arith
owner-most (Some user) = known-most user

by-most : (records : List Record) (o : Option (List ℕ)) → user_length (user_of (who_by records o)) ≤ longest_asker records
by-most records None = omega arith
by-most records (Some value) =
    let found = last-longest (token_in value) records in
    let known = owner-most (last_user (token_in value) records) in
    cond_both (length (token_in value) == 0) Anonymous (owner (last_user (token_in value) records))
    (λ (w : Who). user_length (user_of w) ≤ longest_asker records) (λ e. omega arith) (λ e. omega arith)

pub asker-most : (records : List Record) (head : Head) → user_length (user_of (who records head)) ≤ longest_asker records
asker-most records head = by-most records (first_value (codes "authorization") head.headers)
