-- A doubtful word is no option and no value.
use Rattle.std.proofs.Common.{arith, ◌≡◌, ◌⊎◌, inl, inr, ℕ, ◌==◌, ◌||◌, Bool, true, false, not, true≢false, List, [], ◌∷◌, Option, Some, None, refl, sym, ap, ◌∙◌}
use Rattle.std.specs.List.{list_any}
use Rattle.std.proofs.lemmas.Bool.Decides.{nat_tests}
use Rattle.front_base.specs.Address.{◌>>=◌}
use Rattle.front_base.specs.Cut.{cut_at}
use Rattle.command_options.specs.Parser.{has_empty_end, has_empty_value, is_doubtful}
use Rattle.command_options.specs.Spelling.{Named, apart, behind_dashes, has_equals_sign, is_among, is_some_text, joined, options_of, with_option}
use Rattle.command_options.proofs.OptionLemmas.{apart_first, apart_other, joined_empty, joined_first, no_dashed_value, no_empty_value, no_option, no_value}
use Rattle.command_options.proofs.WordLemmas.{IsLong, IsPlain, cut_at_sign, is_dash, long_word, name_in, no_cut, plain_word, short_word, value_in}

none_last : (option : Option Named) → with_option option None ≡ None
none_last None = refl
none_last (Some option) = refl

no_text : (b : Bool) → not b ≡ true → b ≡ false
no_text true e = sym e
no_text false e = refl

no_behind : behind_dashes [] ≡ None
unfolding behind_dashes
no_behind = refl

no_dashes : behind_dashes (45 ∷ []) ≡ None
unfolding behind_dashes
no_dashes = refl

all_dashes : behind_dashes (45 ∷ 45 ∷ []) ≡ Some []
unfolding behind_dashes
all_dashes = refl

some_text : (c : ℕ) (text : List ℕ) → is_some_text (c ∷ text) ≡ true
some_text c text = grind (arith, nat_tests)

plain_is_sure : (c : ℕ) (rest : List ℕ) → (c == 45) ≡ false → IsPlain (c ∷ rest) → is_doubtful (c ∷ rest) ≡ false
unfolding is_doubtful
plain_is_sure c rest e p = rw (some_text c rest, e, p.behind) refl

-- only an empty value makes a longer option doubtful
empty_is_doubtful : (c : ℕ) (rest : List ℕ) → is_doubtful (45 ∷ 45 ∷ c ∷ rest) ≡ has_empty_value (45 ∷ 45 ∷ c ∷ rest)
unfolding is_doubtful
empty_is_doubtful c rest = rw (some_text 45 (45 ∷ c ∷ rest)) refl

module _ (names : List (List ℕ)) (named : is_among names [] ≡ false) where
  -- what is neither an option nor a value
  record IsNone (word : List ℕ) : Type 0 where
    first : (behind : List (List ℕ)) → options_of names (word ∷ behind) ≡ None
    second : (name : List ℕ) → apart names name word ≡ None

  two_dashes : (behind : List (List ℕ)) → options_of names ((45 ∷ 45 ∷ []) ∷ behind) ≡ None
  two_dashes [] = no_value names (45 ∷ 45 ∷ []) refl
  two_dashes (value ∷ behind) = sym (apart_first names (45 ∷ 45 ∷ []) value behind None refl (sym (apart_other names (45 ∷ 45 ∷ []) [] all_dashes value named)))

  long_is_none : (word text : List ℕ) → IsLong word text → has_empty_value word ≡ true → (behind : List (List ℕ)) → options_of names (word ∷ behind) ≡ None
  long_is_none word text l d behind = go (has_equals_sign text) refl
    where
      go : (b : Bool) → has_equals_sign text ≡ b → options_of names (word ∷ behind) ≡ None
      go true sign =
          let cut_is = cut_at_sign text sign in
          let ends : has_empty_value word ≡ not (is_some_text (value_in text)) = ap (λ (o : Option (List ℕ)). has_empty_end (o >>= cut_at 61)) l.behind ∙ ap has_empty_end cut_is in
          let empty = no_text (is_some_text (value_in text)) (sym ends ∙ d) in
          sym (joined_first names word behind None (l.sign ∙ sign) (sym (joined_empty names word text l.behind (name_in text) (value_in text) cut_is empty)))
      go false sign =
          let ends : has_empty_value word ≡ false = ap (λ (o : Option (List ℕ)). has_empty_end (o >>= cut_at 61)) l.behind ∙ ap has_empty_end (no_cut text sign) in
          absurd (true≢false (sym d ∙ ends))

  behind_two : (rest : List ℕ) → is_doubtful (45 ∷ 45 ∷ rest) ≡ true → IsNone (45 ∷ 45 ∷ rest)
  behind_two [] d = record { first = two_dashes; second = λ name. no_dashed_value names name (45 ∷ 45 ∷ []) refl }
  behind_two (c ∷ rest) d = record {
    first = long_is_none (45 ∷ 45 ∷ c ∷ rest) (c ∷ rest) (long_word c rest) (sym (empty_is_doubtful c rest) ∙ d);
    second = λ name. no_dashed_value names name (45 ∷ 45 ∷ c ∷ rest) refl;
  }

  is_none : (word : List ℕ) → is_doubtful word ≡ true → IsNone word
  is_none [] d = record { first = λ behind. no_option names [] behind no_behind; second = λ name. no_empty_value names name [] refl }
  is_none (a ∷ []) d = go (is_dash a)
    where
      go : (a ≡ 45) ⊎ (((a == 45) ≡ false) × ((45 == a) ≡ false)) → IsNone (a ∷ [])
      go (inl e) = rw e (record { first = λ behind. no_option names (45 ∷ []) behind no_dashes; second = λ name. no_dashed_value names name (45 ∷ []) refl })
      go (inr h) = absurd (true≢false (sym d ∙ plain_is_sure a [] h.0 (plain_word a [] h.0 h.1)))
  is_none (a ∷ b ∷ rest) d = go (is_dash a) (is_dash b)
    where
      go : (a ≡ 45) ⊎ (((a == 45) ≡ false) × ((45 == a) ≡ false)) → (b ≡ 45) ⊎ (((b == 45) ≡ false) × ((45 == b) ≡ false)) → IsNone (a ∷ b ∷ rest)
      go (inr h) other = absurd (true≢false (sym d ∙ plain_is_sure a (b ∷ rest) h.0 (plain_word a (b ∷ rest) h.0 h.1)))
      go (inl e) (inr h) = rw e (record {
        first = λ behind. no_option names (45 ∷ b ∷ rest) behind (short_word b rest h.0 h.1).behind;
        second = λ name. no_dashed_value names name (45 ∷ b ∷ rest) refl;
      })
      go (inl e) (inl f) = rw (e, f) (behind_two rest (ap (λ x. is_doubtful (45 ∷ x ∷ rest)) (sym f) ∙ ap (λ x. is_doubtful (x ∷ b ∷ rest)) (sym e) ∙ d))

  -- behind an option in one word, or in two
  skip_one : (word next : List ℕ) (words : List (List ℕ)) → options_of names (next ∷ words) ≡ None → (options_of names words ≡ None) ⊎ (apart names word next ≡ None)
      → options_of names (word ∷ next ∷ words) ≡ None
  skip_one word next words none other = go (has_equals_sign word) refl
    where
      two : (options_of names words ≡ None) ⊎ (apart names word next ≡ None) → with_option (apart names word next) (options_of names words) ≡ None
      two (inl e) = rw e (none_last (apart names word next))
      two (inr e) = rw e refl

      go : (b : Bool) → has_equals_sign word ≡ b → options_of names (word ∷ next ∷ words) ≡ None
      go true sign = sym (joined_first names word (next ∷ words) (joined names word) sign refl) ∙ rw none (none_last (joined names word))
      go false sign = sym (apart_first names word next words (apart names word next) sign refl) ∙ two other

  doubtful_first : (b : Bool) (word : List ℕ) (words : List (List ℕ)) → is_doubtful word ≡ b → (list_any is_doubtful words ≡ true → options_of names (word ∷ words) ≡ None)
      → (b || list_any is_doubtful words) ≡ true → options_of names (word ∷ words) ≡ None
  doubtful_first true word words e others d = (is_none word e).first words
  doubtful_first false word words e others d = others d

  -- words of which one is doubtful spell no options
  pub doubtful_is_none : (words : List (List ℕ)) → list_any is_doubtful words ≡ true → options_of names words ≡ None
  doubtful_is_none [] d = absurd (true≢false (sym d))
  doubtful_is_none (word ∷ []) d = doubtful_first (is_doubtful word) word [] refl (λ e. absurd (true≢false (sym e))) d
  doubtful_is_none (word ∷ next ∷ words) d =
      doubtful_first (is_doubtful word) word (next ∷ words) refl (λ e. skip_one word next words (doubtful_is_none (next ∷ words) e) (behind (is_doubtful next) refl e (doubtful_is_none words))) d
    where
      behind : (b : Bool) → is_doubtful next ≡ b → (b || list_any is_doubtful words) ≡ true → (list_any is_doubtful words ≡ true → options_of names words ≡ None)
          → (options_of names words ≡ None) ⊎ (apart names word next ≡ None)
      behind true e d others = inr ((is_none next e).second word)
      behind false e d others = inl (others d)
