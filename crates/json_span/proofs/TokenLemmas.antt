-- The machine of tokens follows their grammar, and a byte that may follow a token doesn't go on with it.
use Rattle.std.proofs.Common.{◌≡◌, ℕ, ◌≤◌, ◌∷◌, [], List, Bool, true, false, cond, Option, Some, None, refl, sym, ap, ◌∙◌, subst, inl, inr, arith, eqb-true, true≢false}
use Rattle.std.specs.Prelude.{MatchOption, ◌==◌, ◌⊎◌, codes, option_map}
use Rattle.std.proofs.lemmas.Bool.Decides.{nat_tests}
use Rattle.json_span.specs.Number.{is_digit, is_nonzero_digit, is_mark}
use Rattle.json_span.specs.Strings.{IsString, is_blank}
use Rattle.json_span.specs.Value.{IsToken}
use Rattle.json_span.specs.Machine.{number_step, number_ends, string_step, string_ends, letter, letters_step, letters_end, token_first, token_step, token_ends}
use Rattle.json_span.specs.declared.number.Last.{Last}
use Rattle.json_span.specs.declared.number.Last.TheVariants as last
use Rattle.json_span.specs.declared.string.Inside.{Inside}
use Rattle.json_span.specs.declared.string.Inside.TheVariants as inside
use Rattle.json_span.specs.declared.literal.Letters.{Letters}
use Rattle.json_span.specs.declared.literal.Letters.TheVariants as letters
use Rattle.json_span.specs.declared.token.Token.{Token}
use Rattle.json_span.specs.declared.token.Token.TheVariants as token
use Rattle.json_span.proofs.RunLemmas.{Accepts, goes}
use Rattle.json_span.proofs.NumberLemmas as number
use Rattle.json_span.proofs.StringLemmas as string

-- the token that has begun so goes on with these bytes to its end
abbrev pub Takes : Token → List ℕ → Type 0
Takes = Accepts token_step token_ends

-- the bytes are a token, by the machine
abbrev pub Begins : List ℕ → Type 0
Begins [] = ⊥
Begins (b ∷ bs) = MatchOption (token_first b) ⊥ (λ t. Takes t bs)

abbrev Spelling : Letters → List ℕ → Type 0
Spelling = Accepts letters_step letters_end

-- ---- a token's machine is that of its own kind

module _ {S : Type 0} (step : S → ℕ → Option S) (ends : S → Bool) (wrap : S → Token) (same_step : (s : S) (b : ℕ) → token_step (wrap s) b ≡ option_map wrap (step s b)) (same_ends : (s : S) → token_ends (wrap s) ≡ ends s) where
  unwrap : (s : S) (t : List ℕ) → Takes (wrap s) t → Accepts step ends s t
  unwrap s [] h = sym (same_ends s) ∙ h
  unwrap s (b ∷ bs) h = by_step (step s b) (λ n k. unwrap n bs k) (subst (λ (o : Option Token). MatchOption o ⊥ (λ n. Takes n bs)) (same_step s b) h)
    where
      by_step : (o : Option S) → ((n : S) → Takes (wrap n) bs → Accepts step ends n bs) → MatchOption (option_map wrap o) ⊥ (λ n. Takes n bs) → MatchOption o ⊥ (λ n. Accepts step ends n bs)
      by_step None next k = k
      by_step (Some n) next k = next n k

  wrapped : (s : S) (t : List ℕ) → Accepts step ends s t → Takes (wrap s) t
  wrapped s [] h = same_ends s ∙ h
  wrapped s (b ∷ bs) h = subst (λ (o : Option Token). MatchOption o ⊥ (λ n. Takes n bs)) (sym (same_step s b)) (by_step (step s b) (λ n k. wrapped n bs k) h)
    where
      by_step : (o : Option S) → ((n : S) → Accepts step ends n bs → Takes (wrap n) bs) → MatchOption o ⊥ (λ n. Accepts step ends n bs) → MatchOption (option_map wrap o) ⊥ (λ n. Takes n bs)
      by_step None next k = k
      by_step (Some n) next k = next n k

number_unwrap : (l : Last) (t : List ℕ) → Takes (token.Number l) t → number.Takes l t
number_unwrap = unwrap number_step number_ends token.Number (λ l b. refl) (λ l. refl)

number_wrap : (l : Last) (t : List ℕ) → number.Takes l t → Takes (token.Number l) t
number_wrap = wrapped number_step number_ends token.Number (λ l b. refl) (λ l. refl)

string_unwrap : (i : Inside) (t : List ℕ) → Takes (token.Text i) t → string.Takes i t
string_unwrap = unwrap string_step string_ends token.Text (λ i b. refl) (λ i. refl)

string_wrap : (i : Inside) (t : List ℕ) → string.Takes i t → Takes (token.Text i) t
string_wrap = wrapped string_step string_ends token.Text (λ i b. refl) (λ i. refl)

letters_unwrap : (l : Letters) (t : List ℕ) → Takes (token.Literal l) t → Spelling l t
letters_unwrap = unwrap letters_step letters_end token.Literal (λ l b. refl) (λ l. refl)

-- ---- literals

done_taken : (t : List ℕ) → Spelling letters.Done t → t ≡ []
done_taken [] h = refl
done_taken (b ∷ bs) h = absurd h

one_letter : (a : ℕ) (next : Letters) (word : List ℕ) (b : ℕ) (bs : List ℕ) → (Spelling next bs → bs ≡ word)
    → MatchOption (letter a next b) ⊥ (λ n. Spelling n bs) → b ∷ bs ≡ a ∷ word
one_letter a next word b bs more h = by_letter (b == a) refl h
  where
    by_letter : (c : Bool) → (b == a) ≡ c → MatchOption (cond c (Some next) None) ⊥ (λ n. Spelling n bs) → b ∷ bs ≡ a ∷ word
    by_letter true e k = ap (λ x. x ∷ bs) (eqb-true b a e) ∙ ap (λ l. a ∷ l) (more k)
    by_letter false e k = absurd k

e_taken : (t : List ℕ) → Spelling letters.E t → t ≡ codes "e"
e_taken [] h = absurd (true≢false (sym h))
e_taken (b ∷ bs) h = one_letter 101 letters.Done [] b bs (done_taken bs) h

ue_taken : (t : List ℕ) → Spelling letters.Ue t → t ≡ codes "ue"
ue_taken [] h = absurd (true≢false (sym h))
ue_taken (b ∷ bs) h = one_letter 117 letters.E (codes "e") b bs (e_taken bs) h

rue_taken : (t : List ℕ) → Spelling letters.Rue t → t ≡ codes "rue"
rue_taken [] h = absurd (true≢false (sym h))
rue_taken (b ∷ bs) h = one_letter 114 letters.Ue (codes "ue") b bs (ue_taken bs) h

se_taken : (t : List ℕ) → Spelling letters.Se t → t ≡ codes "se"
se_taken [] h = absurd (true≢false (sym h))
se_taken (b ∷ bs) h = one_letter 115 letters.E (codes "e") b bs (e_taken bs) h

lse_taken : (t : List ℕ) → Spelling letters.Lse t → t ≡ codes "lse"
lse_taken [] h = absurd (true≢false (sym h))
lse_taken (b ∷ bs) h = one_letter 108 letters.Se (codes "se") b bs (se_taken bs) h

alse_taken : (t : List ℕ) → Spelling letters.Alse t → t ≡ codes "alse"
alse_taken [] h = absurd (true≢false (sym h))
alse_taken (b ∷ bs) h = one_letter 97 letters.Lse (codes "lse") b bs (lse_taken bs) h

l_taken : (t : List ℕ) → Spelling letters.L t → t ≡ codes "l"
l_taken [] h = absurd (true≢false (sym h))
l_taken (b ∷ bs) h = one_letter 108 letters.Done [] b bs (done_taken bs) h

ll_taken : (t : List ℕ) → Spelling letters.Ll t → t ≡ codes "ll"
ll_taken [] h = absurd (true≢false (sym h))
ll_taken (b ∷ bs) h = one_letter 108 letters.L (codes "l") b bs (l_taken bs) h

ull_taken : (t : List ℕ) → Spelling letters.Ull t → t ≡ codes "ull"
ull_taken [] h = absurd (true≢false (sym h))
ull_taken (b ∷ bs) h = one_letter 117 letters.Ll (codes "ll") b bs (ll_taken bs) h

-- ---- what is taken, the grammar has

abbrev Then : Option Token → List ℕ → Type 0
Then o bs = MatchOption o ⊥ (λ t. Takes t bs)

string_of : (bs : List ℕ) → string.Takes inside.Plain bs → IsString (34 ∷ bs)
string_of bs h = string.string_taken (34 ∷ bs) h

number_of : (b : ℕ) (bs : List ℕ) (o : Option Last) → number_step last.Nothing b ≡ o → Then (option_map token.Number o) bs → IsToken (b ∷ bs)
number_of b bs None e h = absurd h
number_of b bs (Some l) e h = inr (inl (number.number_taken (b ∷ bs) (goes number_step number_ends last.Nothing l b bs e (number_unwrap l bs h))))

first_taken : (b : ℕ) (bs : List ℕ) → Then (token_first b) bs → IsToken (b ∷ bs)
first_taken b bs h = by_quote (b == 34) refl h
  where
    by_n : (c : Bool) → (b == 110) ≡ c → Then (cond c (Some (token.Literal letters.Ull)) (option_map token.Number (number_step last.Nothing b))) bs → IsToken (b ∷ bs)
    by_n true e k = inl (inr (inr (ap (λ x. x ∷ bs) (eqb-true b 110 e) ∙ ap (λ l. 110 ∷ l) (ull_taken bs (letters_unwrap letters.Ull bs k)))))
    by_n false e k = number_of b bs (number_step last.Nothing b) refl k

    by_f : (c : Bool) → (b == 102) ≡ c → Then (cond c (Some (token.Literal letters.Alse)) (cond (b == 110) (Some (token.Literal letters.Ull)) (option_map token.Number (number_step last.Nothing b)))) bs → IsToken (b ∷ bs)
    by_f true e k = inl (inr (inl (ap (λ x. x ∷ bs) (eqb-true b 102 e) ∙ ap (λ l. 102 ∷ l) (alse_taken bs (letters_unwrap letters.Alse bs k)))))
    by_f false e k = by_n (b == 110) refl k

    by_t : (c : Bool) → (b == 116) ≡ c → Then (cond c (Some (token.Literal letters.Rue)) (cond (b == 102) (Some (token.Literal letters.Alse)) (cond (b == 110) (Some (token.Literal letters.Ull)) (option_map token.Number (number_step last.Nothing b))))) bs → IsToken (b ∷ bs)
    by_t true e k = inl (inl (ap (λ x. x ∷ bs) (eqb-true b 116 e) ∙ ap (λ l. 116 ∷ l) (rue_taken bs (letters_unwrap letters.Rue bs k))))
    by_t false e k = by_f (b == 102) refl k

    by_quote : (c : Bool) → (b == 34) ≡ c → Then (cond c (Some (token.Text inside.Plain)) (cond (b == 116) (Some (token.Literal letters.Rue)) (cond (b == 102) (Some (token.Literal letters.Alse)) (cond (b == 110) (Some (token.Literal letters.Ull)) (option_map token.Number (number_step last.Nothing b)))))) bs → IsToken (b ∷ bs)
    by_quote true e k = inr (inr (subst (λ x. IsString (x ∷ bs)) (sym (eqb-true b 34 e)) (string_of bs (string_unwrap inside.Plain bs k))))
    by_quote false e k = by_t (b == 116) refl k

-- from the first byte on
pub token_taken : (b : ℕ) (bs : List ℕ) (t : Token) → token_first b ≡ Some t → Takes t bs → IsToken (b ∷ bs)
token_taken b bs t e h = first_taken b bs (subst (λ (o : Option Token). Then o bs) (sym e) h)

-- ---- what the grammar has is taken

-- a number begins with a minus or a digit
number_byte : (b : ℕ) (l : Last) → number_step last.Nothing b ≡ Some l → (45 ≤ b) × (b ≤ 57)
number_byte b l e = by_minus (b == 45) refl e
  where
    by_digit : (c : Bool) → is_nonzero_digit b ≡ c → cond c (Some last.Whole) None ≡ Some l → (45 ≤ b) × (b ≤ 57)
    by_digit true d k = grind (arith, nat_tests)
    by_digit false d k = absurd (cc k)

    by_zero : (c : Bool) → (b == 48) ≡ c → cond c (Some last.Zero) (cond (is_nonzero_digit b) (Some last.Whole) None) ≡ Some l → (45 ≤ b) × (b ≤ 57)
    by_zero true d k = let is = eqb-true b 48 d in (omega (arith, is), omega (arith, is))
    by_zero false d k = by_digit (is_nonzero_digit b) refl k

    by_minus : (c : Bool) → (b == 45) ≡ c → cond c (Some last.Minus) (cond (b == 48) (Some last.Zero) (cond (is_nonzero_digit b) (Some last.Whole) None)) ≡ Some l → (45 ≤ b) × (b ≤ 57)
    by_minus true d k = let is = eqb-true b 45 d in (omega (arith, is), omega (arith, is))
    by_minus false d k = by_zero (b == 48) refl k

not_quote : (b : ℕ) → b ≤ 57 → 45 ≤ b → (b == 34) ≡ false
not_quote b high low = grind (arith, nat_tests)

not_t : (b : ℕ) → b ≤ 57 → (b == 116) ≡ false
not_t b high = grind (arith, nat_tests)

not_f : (b : ℕ) → b ≤ 57 → (b == 102) ≡ false
not_f b high = grind (arith, nat_tests)

not_n : (b : ℕ) → b ≤ 57 → (b == 110) ≡ false
not_n b high = grind (arith, nat_tests)

number_first : (b : ℕ) (l : Last) → number_step last.Nothing b ≡ Some l → token_first b ≡ Some (token.Number l)
number_first b l e =
    let r = number_byte b l e in
    ap (λ c. cond c (Some (token.Text inside.Plain)) (cond (b == 116) (Some (token.Literal letters.Rue)) (cond (b == 102) (Some (token.Literal letters.Alse)) (cond (b == 110) (Some (token.Literal letters.Ull)) (option_map token.Number (number_step last.Nothing b)))))) (not_quote b r.1 r.0)
    ∙ ap (λ c. cond c (Some (token.Literal letters.Rue)) (cond (b == 102) (Some (token.Literal letters.Alse)) (cond (b == 110) (Some (token.Literal letters.Ull)) (option_map token.Number (number_step last.Nothing b))))) (not_t b r.1)
    ∙ ap (λ c. cond c (Some (token.Literal letters.Alse)) (cond (b == 110) (Some (token.Literal letters.Ull)) (option_map token.Number (number_step last.Nothing b)))) (not_f b r.1)
    ∙ ap (λ c. cond c (Some (token.Literal letters.Ull)) (option_map token.Number (number_step last.Nothing b))) (not_n b r.1)
    ∙ ap (option_map token.Number) e

number_begins : (t : List ℕ) → number.Takes last.Nothing t → Begins t
number_begins [] h = absurd (true≢false (sym h))
number_begins (b ∷ bs) h = by_step (number_step last.Nothing b) refl h
  where
    by_step : (o : Option Last) → number_step last.Nothing b ≡ o → MatchOption o ⊥ (λ l. number.Takes l bs) → Begins (b ∷ bs)
    by_step None e k = absurd k
    by_step (Some l) e k = subst (λ (o : Option Token). Then o bs) (sym (number_first b l e)) (number_wrap l bs k)

string_begins : (t : List ℕ) → string.Takes inside.Start t → Begins t
string_begins [] h = absurd (true≢false (sym h))
string_begins (b ∷ bs) h = by_quote (b == 34) refl h
  where
    by_quote : (c : Bool) → (b == 34) ≡ c → MatchOption (cond c (Some inside.Plain) None) ⊥ (λ i. string.Takes i bs) → Begins (b ∷ bs)
    by_quote true e k = subst (λ x. Begins (x ∷ bs)) (sym (eqb-true b 34 e)) (string_wrap inside.Plain bs k)
    by_quote false e k = absurd k

pub token_begins : (t : List ℕ) → IsToken t → Begins t
token_begins t (inl (inl e)) = rw e refl
token_begins t (inl (inr (inl e))) = rw e refl
token_begins t (inl (inr (inr e))) = rw e refl
token_begins t (inr (inl n)) = number_begins t (number.takes_number t n)
token_begins t (inr (inr s)) = string_begins t (string.string_goes t s)

-- ---- the end of a token

-- what may follow a value or a name
abbrev pub IsDelimiter : ℕ → Type 0
IsDelimiter b = (is_blank b ≡ true) ⊎ ((b == 44) ≡ true) ⊎ ((b == 93) ≡ true) ⊎ ((b == 125) ≡ true) ⊎ ((b == 58) ≡ true)

is_other : (b : ℕ) → IsDelimiter b → (is_digit b ≡ false) × ((b == 46) ≡ false) × (is_mark b ≡ false)
is_other b (inl e) = (grind (arith, nat_tests), grind (arith, nat_tests), grind (arith, nat_tests))
is_other b (inr (inl e)) = (grind (arith, nat_tests), grind (arith, nat_tests), grind (arith, nat_tests))
is_other b (inr (inr (inl e))) = (grind (arith, nat_tests), grind (arith, nat_tests), grind (arith, nat_tests))
is_other b (inr (inr (inr (inl e)))) = (grind (arith, nat_tests), grind (arith, nat_tests), grind (arith, nat_tests))
is_other b (inr (inr (inr (inr e)))) = (grind (arith, nat_tests), grind (arith, nat_tests), grind (arith, nat_tests))

number_stops : (l : Last) (b : ℕ) → number_ends l ≡ true → IsDelimiter b → number_step l b ≡ None
number_stops last.Nothing b e d = absurd (true≢false (sym e))
number_stops last.Minus b e d = absurd (true≢false (sym e))
number_stops last.Zero b e d = let o = is_other b d in rw (o.1, o.2) refl
number_stops last.Whole b e d = let o = is_other b d in rw (o.0, o.1, o.2) refl
number_stops last.Point b e d = absurd (true≢false (sym e))
number_stops last.Fraction b e d = let o = is_other b d in rw (o.0, o.2) refl
number_stops last.Mark b e d = absurd (true≢false (sym e))
number_stops last.Sign b e d = absurd (true≢false (sym e))
number_stops last.Exponent b e d = let o = is_other b d in rw o.0 refl

pub string_stops : (i : Inside) (b : ℕ) → string_ends i ≡ true → string_step i b ≡ None
string_stops inside.Closed b e = refl
string_stops inside.Start b e = absurd (true≢false (sym e))
string_stops inside.Plain b e = absurd (true≢false (sym e))
string_stops inside.Escape b e = absurd (true≢false (sym e))
string_stops inside.Hex4 b e = absurd (true≢false (sym e))
string_stops inside.Hex3 b e = absurd (true≢false (sym e))
string_stops inside.Hex2 b e = absurd (true≢false (sym e))
string_stops inside.Hex1 b e = absurd (true≢false (sym e))
string_stops inside.Tail1 b e = absurd (true≢false (sym e))
string_stops inside.Tail2 b e = absurd (true≢false (sym e))
string_stops inside.Tail3 b e = absurd (true≢false (sym e))
string_stops inside.AfterE0 b e = absurd (true≢false (sym e))
string_stops inside.AfterEd b e = absurd (true≢false (sym e))
string_stops inside.AfterF0 b e = absurd (true≢false (sym e))
string_stops inside.AfterF4 b e = absurd (true≢false (sym e))

letters_stop : (l : Letters) (b : ℕ) → letters_end l ≡ true → letters_step l b ≡ None
letters_stop letters.Done b e = refl
letters_stop letters.Rue b e = absurd (true≢false (sym e))
letters_stop letters.Ue b e = absurd (true≢false (sym e))
letters_stop letters.E b e = absurd (true≢false (sym e))
letters_stop letters.Alse b e = absurd (true≢false (sym e))
letters_stop letters.Lse b e = absurd (true≢false (sym e))
letters_stop letters.Se b e = absurd (true≢false (sym e))
letters_stop letters.Ull b e = absurd (true≢false (sym e))
letters_stop letters.Ll b e = absurd (true≢false (sym e))
letters_stop letters.L b e = absurd (true≢false (sym e))

pub token_stops : (t : Token) (b : ℕ) → token_ends t ≡ true → IsDelimiter b → token_step t b ≡ None
token_stops (token.Number l) b e d = ap (option_map token.Number) (number_stops l b e d)
token_stops (token.Text i) b e d = ap (option_map token.Text) (string_stops i b e)
token_stops (token.Literal l) b e d = ap (option_map token.Literal) (letters_stop l b e)

-- ---- the first byte of a token

-- no byte that stands between tokens
pub record IsFirst (b : ℕ) : Type 0 where
  pub not_blank : is_blank b ≡ false
  pub not_array : (b == 91) ≡ false
  pub not_object : (b == 123) ≡ false
  pub not_end : (b == 93) ≡ false

number_is_first : (b : ℕ) → 45 ≤ b → b ≤ 57 → IsFirst b
number_is_first b low high = record {
  not_blank = grind (arith, nat_tests);
  not_array = grind (arith, nat_tests);
  not_object = grind (arith, nat_tests);
  not_end = grind (arith, nat_tests);
}

at_first : (a b : ℕ) → (b == a) ≡ true → IsFirst a → IsFirst b
at_first a b e h = subst IsFirst (sym (eqb-true b a e)) h

pub first_byte : (b : ℕ) (t : Token) → token_first b ≡ Some t → IsFirst b
first_byte b t e = by_quote (b == 34) refl e
  where
    by_number : (o : Option Last) → number_step last.Nothing b ≡ o → option_map token.Number o ≡ Some t → IsFirst b
    by_number None d k = absurd (cc k)
    by_number (Some l) d k = let r = number_byte b l d in number_is_first b r.0 r.1

    by_n : (c : Bool) → (b == 110) ≡ c → cond c (Some (token.Literal letters.Ull)) (option_map token.Number (number_step last.Nothing b)) ≡ Some t → IsFirst b
    by_n true d k = at_first 110 b d (record { not_blank = refl; not_array = refl; not_object = refl; not_end = refl })
    by_n false d k = by_number (number_step last.Nothing b) refl k

    by_f : (c : Bool) → (b == 102) ≡ c → cond c (Some (token.Literal letters.Alse)) (cond (b == 110) (Some (token.Literal letters.Ull)) (option_map token.Number (number_step last.Nothing b))) ≡ Some t → IsFirst b
    by_f true d k = at_first 102 b d (record { not_blank = refl; not_array = refl; not_object = refl; not_end = refl })
    by_f false d k = by_n (b == 110) refl k

    by_t : (c : Bool) → (b == 116) ≡ c → cond c (Some (token.Literal letters.Rue)) (cond (b == 102) (Some (token.Literal letters.Alse)) (cond (b == 110) (Some (token.Literal letters.Ull)) (option_map token.Number (number_step last.Nothing b)))) ≡ Some t → IsFirst b
    by_t true d k = at_first 116 b d (record { not_blank = refl; not_array = refl; not_object = refl; not_end = refl })
    by_t false d k = by_f (b == 102) refl k

    by_quote : (c : Bool) → (b == 34) ≡ c → cond c (Some (token.Text inside.Plain)) (cond (b == 116) (Some (token.Literal letters.Rue)) (cond (b == 102) (Some (token.Literal letters.Alse)) (cond (b == 110) (Some (token.Literal letters.Ull)) (option_map token.Number (number_step last.Nothing b))))) ≡ Some t → IsFirst b
    by_quote true d k = at_first 34 b d (record { not_blank = refl; not_array = refl; not_object = refl; not_end = refl })
    by_quote false d k = by_t (b == 116) refl k

-- ---- each state can be completed

letters_completion : Letters → List ℕ
letters_completion letters.Rue = codes "rue"
letters_completion letters.Ue = codes "ue"
letters_completion letters.E = codes "e"
letters_completion letters.Alse = codes "alse"
letters_completion letters.Lse = codes "lse"
letters_completion letters.Se = codes "se"
letters_completion letters.Ull = codes "ull"
letters_completion letters.Ll = codes "ll"
letters_completion letters.L = codes "l"
letters_completion letters.Done = []

letters_complete : (l : Letters) → Takes (token.Literal l) (letters_completion l)
unfolding letters_completion
letters_complete letters.Rue = refl
letters_complete letters.Ue = refl
letters_complete letters.E = refl
letters_complete letters.Alse = refl
letters_complete letters.Lse = refl
letters_complete letters.Se = refl
letters_complete letters.Ull = refl
letters_complete letters.Ll = refl
letters_complete letters.L = refl
letters_complete letters.Done = refl

pub token_completion : Token → List ℕ
token_completion (token.Number l) = number.number_completion l
token_completion (token.Text i) = string.string_completion i
token_completion (token.Literal l) = letters_completion l

pub token_completes : (t : Token) → Takes t (token_completion t)
unfolding token_completion
token_completes (token.Number l) = number_wrap l (number.number_completion l) (number.number_completes l)
token_completes (token.Text i) = string_wrap i (string.string_completion i) (string.string_completes i)
token_completes (token.Literal l) = letters_complete l
