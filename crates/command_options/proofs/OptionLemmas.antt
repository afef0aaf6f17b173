-- Options of words that are read one after the other.
use Rattle.std.proofs.Common.{◌≡◌, ℕ, ◌&&◌, if◌then◌else◌, Bool, true, false, not, List, [], ◌∷◌, Option, Some, None, refl, sym}
use Rattle.front_base.specs.Address.{◌>>=◌}
use Rattle.front_base.specs.Cut.{cut_at}
use Rattle.command_options.specs.Spelling.{Named, apart, begins_with_dash, behind_dashes, has_equals_sign, is_among, is_some_text, joined, options_of, with_option}

-- an option of one word, or none, in front of others
pub joined_first : (names : List (List ℕ)) (word : List ℕ) (behind : List (List ℕ)) (option : Option Named)
    → has_equals_sign word ≡ true → option ≡ joined names word
    → with_option option (options_of names behind) ≡ options_of names (word ∷ behind)
unfolding options_of
joined_first names word [] option e is = rw (e, is) refl
joined_first names word (next ∷ words) option e is = rw (e, is) refl

-- an option of two words, or none, in front of others
pub apart_first : (names : List (List ℕ)) (word value : List ℕ) (behind : List (List ℕ)) (option : Option Named)
    → has_equals_sign word ≡ false → option ≡ apart names word value
    → with_option option (options_of names behind) ≡ options_of names (word ∷ value ∷ behind)
unfolding options_of
apart_first names word value behind option e is = rw (e, is) refl

pub no_words : (names : List (List ℕ)) → options_of names [] ≡ Some []
unfolding options_of
no_words names = refl

-- a value is missing
pub no_value : (names : List (List ℕ)) (word : List ℕ) → has_equals_sign word ≡ false
    → options_of names (word ∷ []) ≡ None
unfolding options_of
no_value names word e = rw e refl

-- a word that doesn't begin with two dashes
pub no_option : (names : List (List ℕ)) (word : List ℕ) (behind : List (List ℕ)) → behind_dashes word ≡ None → options_of names (word ∷ behind) ≡ None
unfolding joined apart
no_option names word behind e = go (has_equals_sign word) refl behind
  where
    one : joined names word ≡ None
    one = rw e refl

    two : (value : List ℕ) → apart names word value ≡ None
    two value = rw e refl

    go : (b : Bool) → has_equals_sign word ≡ b → (behind : List (List ℕ)) → options_of names (word ∷ behind) ≡ None
    go true sign behind = sym (joined_first names word behind None sign (sym one))
    go false sign [] = no_value names word sign
    go false sign (value ∷ behind) = sym (apart_first names word value behind None sign (sym (two value)))

and_false : (a : Bool) → (a && false) ≡ false
and_false true = refl
and_false false = refl

abbrev if_value : List (List ℕ) → List ℕ → List ℕ → Option Named
if_value names value name = if is_among names name && is_some_text value && not (begins_with_dash value) then Some (name, value) else None

-- a text that can't be a value of its own word
pub no_dashed_value : (names : List (List ℕ)) (word value : List ℕ) → begins_with_dash value ≡ true → apart names word value ≡ None
unfolding apart
no_dashed_value names word value e = go (behind_dashes word)
  where
    go : (text : Option (List ℕ)) → (text >>= if_value names value) ≡ None
    go None = refl
    go (Some name) = rw e (rw (and_false (is_among names name && is_some_text value)) refl)

pub no_empty_value : (names : List (List ℕ)) (word value : List ℕ) → is_some_text value ≡ false → apart names word value ≡ None
unfolding apart
no_empty_value names word value e = go (behind_dashes word)
  where
    go : (text : Option (List ℕ)) → (text >>= if_value names value) ≡ None
    go None = refl
    go (Some name) = rw e (rw (and_false (is_among names name)) refl)

module _ (names : List (List ℕ)) (word text : List ℕ) (is : behind_dashes word ≡ Some text) where
  pub joined_other : (name value : List ℕ) → cut_at 61 text ≡ Some (name, value) → is_among names name ≡ false → joined names word ≡ None
  unfolding joined
  joined_other name value parts e = rw (is, parts, e) refl

  pub joined_own : (name value : List ℕ) → cut_at 61 text ≡ Some (name, value) → is_among names name ≡ true → is_some_text value ≡ true → joined names word ≡ Some (name, value)
  unfolding joined
  joined_own name value parts e some = rw (is, parts, e, some) refl

  pub joined_empty : (name value : List ℕ) → cut_at 61 text ≡ Some (name, value) → is_some_text value ≡ false → joined names word ≡ None
  unfolding joined
  joined_empty name value parts none = rw (is, parts, none) (rw (and_false (is_among names name)) refl)

  pub apart_other : (value : List ℕ) → is_among names text ≡ false → apart names word value ≡ None
  unfolding apart
  apart_other value e = rw (is, e) refl

  pub apart_own : (value : List ℕ) → is_among names text ≡ true → is_some_text value ≡ true → begins_with_dash value ≡ false → apart names word value ≡ Some (text, value)
  unfolding apart
  apart_own value e some plain = rw (is, e, some, plain) refl
