-- The names of users that header lines carry begin and end with no blank.
use Rattle.std.proofs.Common.{◌≡◌, ◌≤◌, ℕ, List, [], ◌∷◌, ◌++◌, length, reverse, Bool, true, false, Option, Some, None, refl, sym, ap, ◌∙◌, arith, length-append, lit<}
use Rattle.std.specs.Prelude.{◌-◌, ◌==◌, ◌||◌, not, slice_get, IsTrue, if◌then◌else◌}
use Rattle.std.specs.List.{AllByRecursion, list_any}
use Rattle.std.proofs.lemmas.List.{reverse-append}
use Rattle.std.proofs.lemmas.List.Elements.{All-from_recursion, recursion_from_All}
use Rattle.front_base.specs.declared.user.User.{User}
use Rattle.http_head.specs.Connection.{is_blank}
use Rattle.http_head.specs.Legal.{IsLegalHeader}
use Rattle.http_head.specs.declared.header.Header.{Header}
use Rattle.httparse.specs.Grammar.{is_token_byte, is_value_byte, skip_ows}
use Rattle.token_users.specs.Carried.{IsCarried, IsCarriedUser, has_blank_at, has_blank_ends, is_blank_byte}
use Rattle.token_users.specs.Places.{last_user}
use Rattle.token_users.specs.Who.{owner, token_in, user_of, who_by}
use Rattle.token_users.specs.declared.asker.Who.TheVariants.{Anonymous}
use Rattle.audit_check.specs.Agreement.{user_in_place}

or_false : (a b : Bool) → a ≡ false → b ≡ false → (a || b) ≡ false
or_false true b h k = h
or_false false b h k = k

-- a header that is legal, whose value may be another
abbrev plain : Header
plain = record { name = 97 ∷ []; value = [] }

plain_is_legal : IsLegalHeader plain
unfolding is_token_byte
plain_is_legal = record {
  name = (lit< tt, All-from_recursion (λ b. IsTrue (is_token_byte b)) (97 ∷ []) (refl, tt));
  value = All-from_recursion (λ b. IsTrue (is_value_byte b)) [] tt;
  begins = refl;
  ends = refl;
}

-- ---- a byte that is skipped

shorter_by : (b : Bool) (x : ℕ) (xs : List ℕ) → length (skip_ows xs) ≤ length xs → length (if b then skip_ows xs else x ∷ xs) ≤ length (x ∷ xs)
shorter_by true x xs h = omega (arith, h)
shorter_by false x xs h = omega arith

shorter : (xs : List ℕ) → length (skip_ows xs) ≤ length xs
shorter [] = omega arith
shorter (x ∷ xs) = shorter_by (is_blank x) x xs (shorter xs)

not_skipped : (b : Bool) (x : ℕ) (xs : List ℕ) → (if b then skip_ows xs else x ∷ xs) ≡ x ∷ xs → b ≡ false
not_skipped true x xs h = let less = shorter xs in let same = ap length h in absurd (omega (arith, less, same))
not_skipped false x xs h = refl

first_is_text : (x : ℕ) (xs : List ℕ) → skip_ows (x ∷ xs) ≡ x ∷ xs → is_blank x ≡ false
first_is_text x xs h = not_skipped (is_blank x) x xs h

-- ---- the last byte

last_of : (x : ℕ) (xs : List ℕ) → (front : List ℕ) × (last : ℕ) × (x ∷ xs ≡ front ++ last ∷ [])
last_of x [] = ([], x, refl)
last_of x (y ∷ ys) = let more = last_of y ys in (x ∷ more.0, more.1, ap (λ rest. x ∷ rest) more.2)

last_byte : (front : List ℕ) (last : ℕ) → slice_get (front ++ last ∷ []) (length front) ≡ Some last
last_byte [] last = refl
last_byte (f ∷ front) last = last_byte front last

last_at : (front : List ℕ) (last : ℕ) → length (front ++ last ∷ []) - 1 ≡ length front
last_at front last = let len = length-append front (last ∷ []) in omega arith

ends_so : (front : List ℕ) (last : ℕ) → has_blank_at (front ++ last ∷ []) (length (front ++ last ∷ []) - 1) ≡ is_blank last
ends_so front last =
    ap (λ n. has_blank_at (front ++ last ∷ []) n) (last_at front last) ∙ ap is_blank_byte (last_byte front last)

-- ---- texts, and users

no_blank_ends : (text : List ℕ) → IsCarried text → has_blank_ends text ≡ false
no_blank_ends [] h = refl
no_blank_ends (x ∷ xs) h =
    let legal = h plain plain_is_legal in
    let split = last_of x xs in
    let turned : reverse (x ∷ xs) ≡ split.1 ∷ reverse split.0 = ap reverse split.2 ∙ reverse-append split.0 (split.1 ∷ []) in
    let last : is_blank split.1 ≡ false = first_is_text split.1 (reverse split.0) (sym (ap skip_ows turned) ∙ (legal.ends ∙ turned)) in
    or_false (has_blank_at (x ∷ xs) 0) (has_blank_at (x ∷ xs) (length (x ∷ xs) - 1)) (first_is_text x xs legal.begins)
    (ap (λ text. has_blank_at text (length text - 1)) split.2 ∙ (ends_so split.0 split.1 ∙ last))

none_has_blank_ends : (texts : List (List ℕ)) → AllByRecursion IsCarried texts → list_any has_blank_ends texts ≡ false
none_has_blank_ends [] h = refl
none_has_blank_ends (text ∷ texts) h =
    or_false (has_blank_ends text) (list_any has_blank_ends texts) (no_blank_ends text h.0) (none_has_blank_ends texts h.1)

pub carried_in_place : (user : User) → IsCarriedUser user → user_in_place user ≡ true
carried_in_place user h =
    ap not
    (or_false (has_blank_ends user.name) (list_any has_blank_ends user.groups) (no_blank_ends user.name h.name)
    (none_has_blank_ends user.groups (recursion_from_All IsCarried user.groups h.groups)))

-- ---- where there are no tokens

none_sends : (value : List ℕ) (empty : Bool) → user_in_place (user_of (if empty then Anonymous else owner (last_user (token_in value) []))) ≡ true
unfolding last_user
none_sends value true = refl
none_sends value false = refl

pub nobody_in_place : (value : Option (List ℕ)) → user_in_place (user_of (who_by [] value)) ≡ true
nobody_in_place None = refl
nobody_in_place (Some value) = none_sends value (length (token_in value) == 0)
