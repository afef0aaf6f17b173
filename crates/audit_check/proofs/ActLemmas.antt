-- Who acts as another user may, and acts as somebody.
use Rattle.std.proofs.Common.{◌≡◌, ℕ, Bool, true, false, List, [], ◌∷◌, ◌++◌, Option, Some, None, refl}
use Rattle.std.specs.Prelude.{◌&&◌, ◌||◌, bytes_eq, not, if◌then◌else◌}
use Rattle.std.specs.List.{list_all, list_any}
use Rattle.std.specs.Str.{is_utf8}
use Rattle.front_base.specs.declared.user.User.{User}
use Rattle.http_head.specs.declared.request.Head.{Head}
use Rattle.token_users.specs.Act.{is_impersonation, is_unserved, is_master, is_name, is_plain_name, has_group, masters, with_authenticated, one_user, user_named, user_asked, user_header, group_header, names, values, as_asked, act_of}
use Rattle.token_users.specs.Who.{authenticated, user_of}
use Rattle.token_users.specs.declared.acting.Act.TheVariants.{Own, Unserved}
use Rattle.token_users.specs.declared.asker.Who.{Who}
use Rattle.stage_event.specs.Events.{is_empty}
use Rattle.audit_core.specs.Errand.{other_of}
use Rattle.audit_reader.specs.Plain.{no_groups, somebody_or_none}
use Rattle.audit_check.specs.Agreement.{acting_in_place, is_acted_as}

-- somebody who is authenticated has a group
with_groups : (groups : List (List ℕ)) → no_groups (with_authenticated groups) ≡ false
with_groups [] = refl
with_groups (g ∷ gs) = by_case (has_group authenticated (g ∷ gs))
  where
    by_case : (b : Bool) → no_groups (if b then g ∷ gs else (g ∷ gs) ++ authenticated ∷ []) ≡ false
    by_case true = refl
    by_case false = refl

by_group : (name uid : Bool) (b : Bool) → b ≡ false → not (name && (uid && b)) ≡ true
by_group false uid b e = refl
by_group true false b e = refl
by_group true true false e = refl
by_group true true true e = absurd (cc e)

one_somebody : (users groups : List (List ℕ)) → somebody_or_none (one_user users groups) ≡ true
one_somebody [] groups = refl
one_somebody (name ∷ []) groups = by_group (is_empty name) true (no_groups (with_authenticated groups)) (with_groups groups)
one_somebody (name ∷ other ∷ others) groups = refl

named_somebody : (users groups : Option (List (List ℕ))) → somebody_or_none (user_named users groups) ≡ true
named_somebody None groups = refl
named_somebody (Some users) None = refl
named_somebody (Some users) (Some groups) = one_somebody users groups

by_tests : (own unserved master : Bool) (user : Option User) → somebody_or_none user ≡ true
    → somebody_or_none (other_of (if own then Own else if unserved then Unserved else as_asked master user)) ≡ true
by_tests true unserved master user h = refl
by_tests false true master user h = refl
by_tests false false master None h = refl
by_tests false false true (Some user) h = h
by_tests false false false (Some user) h = refl

pub acts_somebody : (asker : Who) (head : Head) → somebody_or_none (other_of (act_of asker head)) ≡ true
unfolding act_of
acts_somebody asker head =
    by_tests (not (list_any is_impersonation head.headers)) (list_any is_unserved head.headers) (is_master asker) (user_asked head.headers)
    (named_somebody (names user_header head.headers) (names group_header head.headers))

-- ---- who may

or_true : (a b : Bool) → b ≡ true → (a || b) ≡ true
or_true true b h = refl
or_true false b h = h

any_last : (f : List ℕ → Bool) (xs : List (List ℕ)) (x : List ℕ) → f x ≡ true → list_any f (xs ++ x ∷ []) ≡ true
any_last f [] x h = rw h refl
any_last f (y ∷ ys) x h = or_true (f y) (list_any f (ys ++ x ∷ [])) (any_last f ys x h)

-- somebody who is acted as is known
known_by : (groups : List (List ℕ)) (b : Bool) → has_group authenticated groups ≡ b
    → has_group authenticated (if b then groups else groups ++ authenticated ∷ []) ≡ true
known_by groups true e = e
known_by groups false e = any_last (λ group. bytes_eq group authenticated) groups authenticated refl

both : (a b : Bool) → (a && b) ≡ true → (a ≡ true) × (b ≡ true)
both true b e = (refl, e)
both false b e = absurd (cc e)

-- a name has a byte
name_is_some : (name : List ℕ) → is_name name ≡ true → is_empty name ≡ false
name_is_some [] h = absurd (cc ((both (is_utf8 []) (is_plain_name []) h).1))
name_is_some (c ∷ cs) h = refl

abbrev acted : Option User → Bool
acted None = true
acted (Some user) = is_acted_as user

acted_by : (name : Bool) (known : Bool) → name ≡ false → known ≡ true → (not name && (true && known)) ≡ true
acted_by name known h k = rw (h, k) refl

asked_is_acted : (users : List (List ℕ)) (b : Bool) → list_all is_name users ≡ b → (groups : Option (List (List ℕ)))
    → acted (user_named (if b then Some users else None) groups) ≡ true
asked_is_acted users false e groups = refl
asked_is_acted users true e None = refl
asked_is_acted [] true e (Some groups) = refl
asked_is_acted (name ∷ []) true e (Some groups) =
    acted_by (is_empty name) (has_group authenticated (with_authenticated groups))
    (name_is_some name (both (is_name name) (list_all is_name []) e).0)
    (known_by groups (has_group authenticated groups) refl)
asked_is_acted (name ∷ other ∷ others) true e (Some groups) = refl

may_by : (own unserved master : Bool) (asking : User) → has_group masters asking.groups ≡ master → (user : Option User) → acted user ≡ true
    → acting_in_place asking (other_of (if own then Own else if unserved then Unserved else as_asked master user)) ≡ true
may_by true unserved master asking e user h = refl
may_by false true master asking e user h = refl
may_by false false master asking e None h = refl
may_by false false true asking e (Some user) h = rw e h
may_by false false false asking e (Some user) h = refl

pub acts_in_place : (asker : Who) (head : Head) → acting_in_place (user_of asker) (other_of (act_of asker head)) ≡ true
unfolding act_of
acts_in_place asker head =
    may_by (not (list_any is_impersonation head.headers)) (list_any is_unserved head.headers) (is_master asker) (user_of asker) refl
    (user_asked head.headers)
    (asked_is_acted (values user_header head.headers) (list_all is_name (values user_header head.headers)) refl (names group_header head.headers))
