-- Whom a request acts as.
use Rattle.std.proofs.Common.{◌≡◌, ℕ, List, [], ◌∷◌, ◌++◌, length, slice_index_or, Bool, true, false, Option, Some, None, refl, ap, subst}
use Rattle.std.specs.Prelude.{◌==◌, not, bytes_eq, filter, map, if◌then◌else◌, All, Contains}
use Rattle.std.specs.List.{AllByRecursion, list_all, list_any}
use Rattle.std.specs.Str.{is_utf8}
use Rattle.std.proofs.lemmas.List.Elements.{All-from_recursion, All-push}
use Rattle.std.proofs.lemmas.List.Folds.{Any-from_list_any}
use Rattle.std.proofs.lemmas.Slice.Eq.{bytes_eq-Decides}
use Rattle.front_base.specs.declared.user.User.{User}
use Rattle.http_head.specs.Name.{is_named}
use Rattle.http_head.specs.declared.header.Header.{Header}
use Rattle.http_head.specs.declared.request.Head.{Head}
use Rattle.token_users.specs.Act.{act_of, as_asked, group_header, has_group, is_impersonation, is_master, is_name, is_plain_name, is_unserved, names, one_user, user_asked, user_header, user_named, values, with_authenticated}
use Rattle.token_users.specs.Carried.{is_plain}
use Rattle.token_users.specs.Who.{authenticated}
use Rattle.token_users.specs.declared.asker.Who.{Who}
use Rattle.token_users.specs.declared.acting.Act.TheVariants.{Own, As, Unserved}
use Rattle.token_users.proofs.CarriedLemmas.{and_parts}
use Rattle.token_users.proofs.UserLemmas.{OfUser}

-- ---- what As tells

pub record ActsAs (who : Who) (headers : List Header) (user : User) : Type 0 where
  pub master : is_master who ≡ true
  pub asked : user_asked headers ≡ Some user

as_tells : (master : Bool) (asked : Option User) (user : User) → as_asked master asked ≡ As user → (master ≡ true) × (asked ≡ Some user)
as_tells master None user h = absurd (cc h)
as_tells true (Some other) user h = (refl, ap Some (cc h))
as_tells false (Some other) user h = absurd (cc h)

by_lines : (asks more master : Bool) (asked : Option User) (user : User)
    → (if not asks then Own else if more then Unserved else as_asked master asked) ≡ As user → (master ≡ true) × (asked ≡ Some user)
by_lines false more master asked user h = absurd (cc h)
by_lines true true master asked user h = absurd (cc h)
by_lines true false master asked user h = as_tells master asked user h

pub acts_as : (who : Who) (head : Head) (user : User) → act_of who head ≡ As user → ActsAs who head.headers user
unfolding act_of
acts_as who head user h =
    let tells = by_lines (list_any is_impersonation head.headers) (list_any is_unserved head.headers) (is_master who) (user_asked head.headers) user h in
    record { master = tells.0; asked = tells.1 }

-- ---- only masters

pub has_contains : (name : List ℕ) (groups : List (List ℕ)) → has_group name groups ≡ true → Contains groups name
has_contains name groups h =
    let found = Any-from_list_any (λ group. bytes_eq group name) groups h in
    let same : found.1 ≡ name = (bytes_eq-Decides found.1 name).0 found.4 in
    (found.0, found.2, subst (λ text. slice_index_or groups found.0 text ≡ text) same found.3)

-- ---- the texts of the headers

pub name_is_plain : (value : List ℕ) → is_name value ≡ true → is_plain value ≡ true
name_is_plain value h =
    let text = and_parts (is_utf8 value) (is_plain_name value) h in
    (and_parts (not (length value == 0)) (is_plain value) text.1).1

pub trivially : (headers : List Header) → AllByRecursion (λ header. Unit {0}) headers
trivially [] = tt
trivially (header ∷ headers) = (tt, trivially headers)

module _ (Q : Header → Type 0) (P : List ℕ → Type 0) (make : (header : Header) → Q header → is_name header.value ≡ true → P header.value) where
  by_name : (own : Bool) (header : Header) (others : List Header) → Q header
      → (list_all is_name (map (λ (h : Header). h.value) others) ≡ true → AllByRecursion P (map (λ (h : Header). h.value) others))
      → list_all is_name (map (λ (h : Header). h.value) (if own then header ∷ others else others)) ≡ true
      → AllByRecursion P (map (λ (h : Header). h.value) (if own then header ∷ others else others))
  by_name true header others q more h =
      let parts = and_parts (is_name header.value) (list_all is_name (map (λ (h : Header). h.value) others)) h in
      (make header q parts.0, more parts.1)
  by_name false header others q more h = more h

  of_values : (name : List ℕ) (headers : List Header) → AllByRecursion Q headers → list_all is_name (values name headers) ≡ true
      → AllByRecursion P (values name headers)
  of_values name [] q h = tt
  of_values name (header ∷ others) q h =
      by_name (is_named name header.name) header (filter (λ (h : Header). is_named name h.name) others) q.0
      (of_values name others q.1) h

  of_names : (name : List ℕ) (headers : List Header) → AllByRecursion Q headers → (found : List (List ℕ))
      → names name headers ≡ Some found → AllByRecursion P found
  of_names name headers q found h = by_all (list_all is_name (values name headers)) refl h
    where
      by_all : (all : Bool) → list_all is_name (values name headers) ≡ all
          → (if all then Some (values name headers) else None) ≡ Some found → AllByRecursion P found
      by_all true e h =
          let is : values name headers ≡ found = cc h in
          subst (AllByRecursion P) is (of_values name headers q e)
      by_all false e h = absurd (cc h)

  of_groups : (has : Bool) (groups : List (List ℕ)) → P authenticated → All P groups
      → All P (if has then groups else groups ++ authenticated ∷ [])
  of_groups true groups known h = h
  of_groups false groups known h = All-push P groups authenticated h known

  of_one : (users groups : List (List ℕ)) (user : User) → P authenticated → AllByRecursion P users → AllByRecursion P groups
      → one_user users groups ≡ Some user → OfUser P user
  of_one [] groups user known h k e = absurd (cc e)
  of_one (name ∷ []) groups user known h k e =
      let is : (record { name = name; uid = []; groups = with_authenticated groups }) ≡ user = cc e in
      subst (OfUser P) is (record {
        name = h.0;
        groups = of_groups (has_group authenticated groups) groups known (All-from_recursion P groups k);
      })
  of_one (name ∷ other ∷ others) groups user known h k e = absurd (cc e)

  of_asked : (users groups : Option (List (List ℕ))) (user : User) → P authenticated
      → ((found : List (List ℕ)) → users ≡ Some found → AllByRecursion P found)
      → ((found : List (List ℕ)) → groups ≡ Some found → AllByRecursion P found)
      → user_named users groups ≡ Some user → OfUser P user
  of_asked None groups user known h k e = absurd (cc e)
  of_asked (Some users) None user known h k e = absurd (cc e)
  of_asked (Some users) (Some groups) user known h k e = of_one users groups user known (h users refl) (k groups refl) e

  -- the user that a request acts as
  pub of_acting : (who : Who) (head : Head) (user : User) → P authenticated → AllByRecursion Q head.headers → act_of who head ≡ As user
      → OfUser P user
  of_acting who head user known q h =
      of_asked (names user_header head.headers) (names group_header head.headers) user known
      (of_names user_header head.headers q) (of_names group_header head.headers q)
      (acts_as who head user h).asked
