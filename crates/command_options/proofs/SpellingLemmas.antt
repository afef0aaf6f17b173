-- An option of one word, and the same option of two.
use Rattle.std.proofs.Common.{◌≡◌, ℕ, ◌+◌, ◌<◌, ◌==◌, Bool, true, false, List, [], ◌∷◌, ◌++◌, length, drop, Some, codes, refl, sym, ap, ◌∙◌, arith}
use Rattle.std.specs.Prelude.{◌&&◌, ◌||◌, nat_lt}
use Rattle.std.specs.List.{position_or_len}
use Rattle.std.proofs.lemmas.Bool.Decides.{nat_tests}
use Rattle.std.proofs.lemmas.List.{append_assoc, length-append, length_push, take_at, drop_at}
use Rattle.front_base.specs.Cut.{cut_at}
use Rattle.command_options.specs.Spelling.{has_equals_sign, is_among, is_some_text, begins_with_dash, behind_dashes, joined, apart, options_of}
use Rattle.command_options.proofs.OptionLemmas.{joined_first, apart_first}

-- a text with `=` in it
pub has_sign : (name value : List ℕ) → has_equals_sign (name ++ 61 ∷ value) ≡ true
has_sign [] value = refl
has_sign (c ∷ name) value = either (c == 61) (has_sign name value)
  where
    either : (b : Bool) {a : Bool} → a ≡ true → (b || a) ≡ true
    either true e = refl
    either false e = e

-- the first `=` is the one behind a name that has none
place : (name value : List ℕ) → has_equals_sign name ≡ false
    → position_or_len (λ b. b == 61) (name ++ 61 ∷ value) ≡ length name
place [] value e = refl
place (c ∷ name) value e = step (c == 61) refl e (place name value)
  where
    step : (b : Bool) → (c == 61) ≡ b → (b || has_equals_sign name) ≡ false
        → (has_equals_sign name ≡ false → position_or_len (λ b. b == 61) (name ++ 61 ∷ value) ≡ length name)
        → position_or_len (λ b. b == 61) (c ∷ (name ++ 61 ∷ value)) ≡ length (c ∷ name)
    step true is h next = absurd (cc h)
    step false is h next = let ih = next h in rw is (omega (arith, ih))

less : (a b : ℕ) → a < b → nat_lt a b ≡ true
less a b h = grind (arith, nat_tests, h)

pub cut_there : (name value : List ℕ) → has_equals_sign name ≡ false → cut_at 61 (name ++ 61 ∷ value) ≡ Some (name, value)
unfolding cut_at
cut_there name value e =
    let at = place name value e in
    let long = length-append name (61 ∷ value) in
    let in_it = less (length name) (length (name ++ 61 ∷ value)) (omega (arith, long)) in
    let front = take_at name (61 ∷ value) (length name) refl in
    let back : drop (length name + 1) (name ++ 61 ∷ value) ≡ value =
    ap (drop (length name + 1)) (sym (append_assoc name (61 ∷ []) value)) ∙ drop_at (name ++ 61 ∷ []) value (length name + 1) (length_push name 61) in
    rw (at, in_it, front, back) refl

pub behind : (text : List ℕ) → behind_dashes (45 ∷ 45 ∷ text) ≡ Some text
unfolding behind_dashes
behind text = refl

and_true : (a : Bool) → (a && true) ≡ a
and_true true = refl
and_true false = refl

-- an option means the same in one word and in two
same_option : (names : List (List ℕ)) (name value : List ℕ) → has_equals_sign name ≡ false → begins_with_dash value ≡ false
    → joined names (45 ∷ 45 ∷ (name ++ 61 ∷ value)) ≡ apart names (45 ∷ 45 ∷ name) value
unfolding joined apart
same_option names name value e plain =
    rw (behind (name ++ 61 ∷ value), behind name, cut_there name value e, plain) (rw (and_true (is_among names name && is_some_text value)) refl)

pub both_spellings : (names : List (List ℕ)) (name value : List ℕ) (words : List (List ℕ))
    → has_equals_sign name ≡ false → begins_with_dash value ≡ false
    → options_of names ((codes "--" ++ (name ++ 61 ∷ value)) ∷ words) ≡ options_of names ((codes "--" ++ name) ∷ value ∷ words)
both_spellings names name value words e plain =
    let option = joined names (45 ∷ 45 ∷ (name ++ 61 ∷ value)) in
    sym (joined_first names (45 ∷ 45 ∷ (name ++ 61 ∷ value)) words option (has_sign name value) refl)
    ∙ apart_first names (45 ∷ 45 ∷ name) value words option e (same_option names name value e plain)
