-- A word as `clap` takes it apart, and as the definition does.
use Rattle.std.proofs.Common.{◌≡◌, ◌⊎◌, inl, inr, ℕ, ◌==◌, ◌||◌, Bool, true, false, true≢false, List, [], ◌∷◌, length, take_all, Some, None, refl, sym, ap, ◌∙◌, arith}
use Rattle.std.specs.Prelude.{nat_lt}
use Rattle.std.specs.List.{position_or_len, before_first, after_first}
use Rattle.std.specs.Str.{bytes_eq}
use Rattle.std.proofs.lemmas.Bool.Decides.{nat_tests}
use Rattle.clap.specs.Lexer.{long_of, name_and_value, short_of}
use Rattle.front_base.specs.Cut.{cut_at}
use Rattle.command_options.specs.Spelling.{behind_dashes, begins_with_dash, has_equals_sign}
use Rattle.command_options.specs.Parser.{is_doubtful}

-- two dashes and a text
pub record IsLong (word text : List ℕ) : Type 0 where
  pub behind : behind_dashes word ≡ Some text
  pub long : long_of word ≡ Some (name_and_value text)
  pub dash : begins_with_dash word ≡ true
  pub not_end : bytes_eq word (45 ∷ 45 ∷ []) ≡ false
  pub sign : has_equals_sign word ≡ has_equals_sign text

-- one dash and flags
pub record IsShort (word : List ℕ) (flag : ℕ) (flags : List ℕ) : Type 0 where
  pub behind : behind_dashes word ≡ None
  pub long : long_of word ≡ None
  pub short : short_of word ≡ Some (flag ∷ flags)
  pub dash : begins_with_dash word ≡ true
  pub not_end : bytes_eq word (45 ∷ 45 ∷ []) ≡ false
  pub is : word ≡ 45 ∷ flag ∷ flags

-- no dash first
pub record IsPlain (word : List ℕ) : Type 0 where
  pub behind : behind_dashes word ≡ None
  pub long : long_of word ≡ None
  pub short : short_of word ≡ None
  pub dash : begins_with_dash word ≡ false
  pub not_end : bytes_eq word (45 ∷ 45 ∷ []) ≡ false

pub data Lexed (word : List ℕ) : Type 0 where
  long : (text : List ℕ) → IsLong word text → Lexed word
  short : (flag : ℕ) (flags : List ℕ) → IsShort word flag flags → Lexed word
  plain : IsPlain word → Lexed word

pub long_word : (c : ℕ) (rest : List ℕ) → IsLong (45 ∷ 45 ∷ c ∷ rest) (c ∷ rest)
unfolding behind_dashes
long_word c rest = record { behind = refl; long = refl; dash = refl; not_end = refl; sign = refl }

pub short_word : (c : ℕ) (rest : List ℕ) → (c == 45) ≡ false → (45 == c) ≡ false → IsShort (45 ∷ c ∷ rest) c rest
unfolding behind_dashes
short_word c rest e f = record { behind = rw f refl; long = rw e refl; short = rw e refl; dash = refl; not_end = rw e refl; is = refl }

pub plain_word : (c : ℕ) (rest : List ℕ) → (c == 45) ≡ false → (45 == c) ≡ false → IsPlain (c ∷ rest)
unfolding behind_dashes
plain_word c rest e f = record { behind = rw f refl; long = rw e refl; short = rw e refl; dash = e; not_end = rw e refl }

pub is_dash : (c : ℕ) → (c ≡ 45) ⊎ (((c == 45) ≡ false) × ((45 == c) ≡ false))
is_dash c = go (c == 45) refl
  where
    go : (b : Bool) → (c == 45) ≡ b → (c ≡ 45) ⊎ (((c == 45) ≡ false) × ((45 == c) ≡ false))
    go true e = inl (grind (arith, nat_tests, e))
    go false e =
        let f : (45 == c) ≡ false = grind (arith, nat_tests, e) in
        inr (e, f)

nothing : is_doubtful [] ≡ true
unfolding is_doubtful
nothing = refl

one_dash : is_doubtful (45 ∷ []) ≡ true
unfolding is_doubtful
one_dash = refl

two_dashes : is_doubtful (45 ∷ 45 ∷ []) ≡ true
unfolding is_doubtful
two_dashes = refl

dashes : (rest : List ℕ) → is_doubtful (45 ∷ 45 ∷ rest) ≡ false → Lexed (45 ∷ 45 ∷ rest)
dashes [] d = absurd (true≢false (sym two_dashes ∙ d))
dashes (c ∷ rest) d = long (c ∷ rest) (long_word c rest)

one : (a : ℕ) → (a ≡ 45) ⊎ (((a == 45) ≡ false) × ((45 == a) ≡ false)) → is_doubtful (a ∷ []) ≡ false → Lexed (a ∷ [])
one a (inl e) d = absurd (true≢false (sym one_dash ∙ ap (λ c. is_doubtful (c ∷ [])) (sym e) ∙ d))
one a (inr h) d = plain (plain_word a [] h.0 h.1)

two : (a b : ℕ) (rest : List ℕ) → (a ≡ 45) ⊎ (((a == 45) ≡ false) × ((45 == a) ≡ false))
    → (b ≡ 45) ⊎ (((b == 45) ≡ false) × ((45 == b) ≡ false)) → is_doubtful (a ∷ b ∷ rest) ≡ false → Lexed (a ∷ b ∷ rest)
two a b rest (inr h) other d = plain (plain_word a (b ∷ rest) h.0 h.1)
two a b rest (inl e) (inr h) d = rw e (short b rest (short_word b rest h.0 h.1))
two a b rest (inl e) (inl f) d = rw (e, f) (dashes rest (ap (λ x. is_doubtful (45 ∷ x ∷ rest)) (sym f) ∙ ap (λ x. is_doubtful (x ∷ b ∷ rest)) (sym e) ∙ d))

-- a word that isn't doubtful is one of the three
pub lexed : (word : List ℕ) → is_doubtful word ≡ false → Lexed word
lexed [] d = absurd (true≢false (sym nothing ∙ d))
lexed (a ∷ []) d = one a (is_dash a) d
lexed (a ∷ b ∷ rest) d = two a b rest (is_dash a) (is_dash b) d

-- ---- the first `=`

abbrev pub name_in : List ℕ → List ℕ
name_in text = before_first (λ c. c == 61) text

abbrev pub value_in : List ℕ → List ℕ
value_in text = after_first (λ c. c == 61) text

place_of_sign : (text : List ℕ) → nat_lt (position_or_len (λ c. c == 61) text) (length text) ≡ has_equals_sign text
place_of_sign [] = refl
place_of_sign (c ∷ text) = go (c == 61) refl (place_of_sign text)
  where
    go : (b : Bool) → (c == 61) ≡ b → nat_lt (position_or_len (λ d. d == 61) text) (length text) ≡ has_equals_sign text
        → nat_lt (position_or_len (λ d. d == 61) (c ∷ text)) (length (c ∷ text)) ≡ (b || has_equals_sign text)
    go true e ih = rw e (grind (arith, nat_tests))
    go false e ih = rw (e, ← ih) (grind (arith, nat_tests))

-- a text with `=` is cut there
pub cut_at_sign : (text : List ℕ) → has_equals_sign text ≡ true → cut_at 61 text ≡ Some (name_in text, value_in text)
unfolding cut_at
cut_at_sign text e = rw (place_of_sign text, e) refl

pub no_cut : (text : List ℕ) → has_equals_sign text ≡ false → cut_at 61 text ≡ None
unfolding cut_at
no_cut text e = rw (place_of_sign text, e) refl

pub parts_at_sign : (text : List ℕ) → has_equals_sign text ≡ true → name_and_value text ≡ (name_in text, Some (value_in text))
parts_at_sign text e = rw e refl

-- a text without it is a name
pub parts_without : (text : List ℕ) → has_equals_sign text ≡ false → name_and_value text ≡ (text, None)
parts_without text e =
    let past : nat_lt (position_or_len (λ c. c == 61) text) (length text) ≡ false = place_of_sign text ∙ e in
    let whole : name_in text ≡ text = take_all (position_or_len (λ c. c == 61) text) text (grind (arith, nat_tests, past)) in
    rw (e, whole) refl
