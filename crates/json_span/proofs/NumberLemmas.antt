-- The machine of numbers follows the grammar of numbers.
use Rattle.std.proofs.Common.{◌≡◌, ℕ, ◌∷◌, [], ◌++◌, List, Bool, true, false, cond, Option, Some, None, refl, sym, ap, ◌∙◌, subst, inl, inr, arith, eqb-true, true≢false}
use Rattle.std.specs.Prelude.{MatchOption, ◌==◌}
use Rattle.std.proofs.lemmas.Bool.Decides.{nat_tests}
use Rattle.json_span.specs.Number.{AreDigits, IsDigits, IsWhole, IsMinus, IsFraction, IsPower, IsExponent, IsNumber, is_digit, is_nonzero_digit, is_mark, is_sign}
use Rattle.json_span.specs.Machine.{number_step, number_ends}
use Rattle.json_span.specs.declared.number.Last.{Last}
use Rattle.json_span.specs.declared.number.Last.TheVariants as last
use Rattle.json_span.proofs.RunLemmas.{Accepts, goes}

abbrev pub Takes : Last → List ℕ → Type 0
Takes = Accepts number_step number_ends

go : (s n : Last) (b : ℕ) (bs : List ℕ) → number_step s b ≡ Some n → Takes n bs → Takes s (b ∷ bs)
go = goes number_step number_ends

-- ---- what the grammar has is taken

exponent_digit : (b : ℕ) → is_digit b ≡ true → number_step last.Exponent b ≡ Some last.Exponent
exponent_digit b e = ap (λ c. cond c (Some last.Exponent) None) e

sign_digit : (b : ℕ) → is_digit b ≡ true → number_step last.Sign b ≡ Some last.Exponent
sign_digit b e = ap (λ c. cond c (Some last.Exponent) None) e

mark_sign : (b : ℕ) → is_sign b ≡ true → number_step last.Mark b ≡ Some last.Sign
mark_sign b e = ap (λ c. cond c (Some last.Sign) (cond (is_digit b) (Some last.Exponent) None)) e

mark_digit : (b : ℕ) → is_digit b ≡ true → number_step last.Mark b ≡ Some last.Exponent
mark_digit b e = grind (arith, nat_tests)

fraction_digit : (b : ℕ) → is_digit b ≡ true → number_step last.Fraction b ≡ Some last.Fraction
fraction_digit b e = ap (λ c. cond c (Some last.Fraction) (cond (is_mark b) (Some last.Mark) None)) e

point_digit : (b : ℕ) → is_digit b ≡ true → number_step last.Point b ≡ Some last.Fraction
point_digit b e = ap (λ c. cond c (Some last.Fraction) None) e

fraction_mark : (b : ℕ) → is_mark b ≡ true → number_step last.Fraction b ≡ Some last.Mark
fraction_mark b e = grind (arith, nat_tests)

whole_mark : (b : ℕ) → is_mark b ≡ true → number_step last.Whole b ≡ Some last.Mark
whole_mark b e = grind (arith, nat_tests)

zero_mark : (b : ℕ) → is_mark b ≡ true → number_step last.Zero b ≡ Some last.Mark
zero_mark b e = grind (arith, nat_tests)

whole_digit : (b : ℕ) → is_digit b ≡ true → number_step last.Whole b ≡ Some last.Whole
whole_digit b e = ap (λ c. cond c (Some last.Whole) (cond (b == 46) (Some last.Point) (cond (is_mark b) (Some last.Mark) None))) e

minus_nonzero : (b : ℕ) → is_nonzero_digit b ≡ true → number_step last.Minus b ≡ Some last.Whole
minus_nonzero b e = grind (arith, nat_tests)

nothing_nonzero : (b : ℕ) → is_nonzero_digit b ≡ true → number_step last.Nothing b ≡ Some last.Whole
nothing_nonzero b e = grind (arith, nat_tests)

takes_digits : (s : Last) → ((b : ℕ) → is_digit b ≡ true → number_step s b ≡ Some s) → (ds rest : List ℕ) → AreDigits ds → Takes s rest → Takes s (ds ++ rest)
takes_digits s loop [] rest h k = k
takes_digits s loop (d ∷ ds) rest h k = go s s d (ds ++ rest) (loop d h.0) (takes_digits s loop ds rest h.1 k)

takes_last_digits : (ds : List ℕ) → AreDigits ds → Takes last.Exponent ds
takes_last_digits [] h = refl
takes_last_digits (d ∷ ds) h = go last.Exponent last.Exponent d ds (exponent_digit d h.0) (takes_last_digits ds h.1)

takes_power : (p : List ℕ) → IsPower p → Takes last.Mark p
takes_power [] h = absurd h
takes_power (b ∷ bs) h = elim h [
  | inl digits ↦ go last.Mark last.Exponent b bs (mark_digit b digits.0) (takes_last_digits bs digits.1)
  | inr signed ↦ go last.Mark last.Sign b bs (mark_sign b signed.0) (after_sign bs signed.1)
]
  where
    after_sign : (ds : List ℕ) → IsDigits ds → Takes last.Sign ds
    after_sign [] k = absurd k
    after_sign (d ∷ ds) k = go last.Sign last.Exponent d ds (sign_digit d k.0) (takes_last_digits ds k.1)

takes_exponent : (s : Last) → number_ends s ≡ true → ((b : ℕ) → is_mark b ≡ true → number_step s b ≡ Some last.Mark) → (e : List ℕ) → IsExponent e → Takes s e
takes_exponent s end mark [] h = end
takes_exponent s end mark (b ∷ bs) h = go s last.Mark b bs (mark b h.0) (takes_power bs h.1)

takes_fraction : (s : Last) → number_ends s ≡ true → ((b : ℕ) → is_mark b ≡ true → number_step s b ≡ Some last.Mark) → number_step s 46 ≡ Some last.Point → (f e : List ℕ) → IsFraction f → IsExponent e → Takes s (f ++ e)
takes_fraction s end mark point [] e h k = takes_exponent s end mark e k
takes_fraction s end mark point (b ∷ bs) e h k = go s last.Point b (bs ++ e) (rw h.0 point) (after_point bs h.1)
  where
    after_point : (ds : List ℕ) → IsDigits ds → Takes last.Point (ds ++ e)
    after_point [] d = absurd d
    after_point (b ∷ ds) d = go last.Point last.Fraction b (ds ++ e) (point_digit b d.0) (takes_digits last.Fraction fraction_digit ds e d.1 (takes_exponent last.Fraction refl fraction_mark e k))

takes_whole : (s : Last) → number_step s 48 ≡ Some last.Zero → ((b : ℕ) → is_nonzero_digit b ≡ true → number_step s b ≡ Some last.Whole) → (w f e : List ℕ) → IsWhole w → IsFraction f → IsExponent e → Takes s (w ++ (f ++ e))
takes_whole s zero nonzero [] f e h k m = absurd h
takes_whole s zero nonzero (b ∷ bs) f e h k m = elim h [
  | inl none ↦ go s last.Zero b (bs ++ (f ++ e)) (rw none.0 zero) (rw none.1 (takes_fraction last.Zero refl zero_mark refl f e k m))
  | inr some ↦ go s last.Whole b (bs ++ (f ++ e)) (nonzero b some.0) (takes_digits last.Whole whole_digit bs (f ++ e) some.1 (takes_fraction last.Whole refl whole_mark refl f e k m))
]

pub takes_number : (t : List ℕ) → IsNumber t → Takes last.Nothing t
takes_number t n =
    let after = takes_whole last.Minus refl minus_nonzero n.whole n.fraction n.exponent n.is_whole n.is_fraction n.is_exponent in
    let here = takes_whole last.Nothing refl nothing_nonzero n.whole n.fraction n.exponent n.is_whole n.is_fraction n.is_exponent in
    rw n.is (elim n.is_minus [
      | inl none ↦ rw none here
      | inr minus ↦ rw minus (go last.Nothing last.Minus 45 (n.whole ++ (n.fraction ++ n.exponent)) refl after)
    ])

-- ---- what is taken, the grammar has

abbrev Then : Option Last → List ℕ → Type 0
Then o bs = MatchOption o ⊥ (λ n. Takes n bs)

digits_taken : (t : List ℕ) → Takes last.Exponent t → AreDigits t
digits_taken [] h = tt
digits_taken (b ∷ bs) h = by_cases (is_digit b) refl (digits_taken bs) h
  where
    by_cases : (c : Bool) → is_digit b ≡ c → (Takes last.Exponent bs → AreDigits bs) → Then (cond c (Some last.Exponent) None) bs → AreDigits (b ∷ bs)
    by_cases true e next k = (e, next k)
    by_cases false e next k = absurd k

sign_taken : (t : List ℕ) → Takes last.Sign t → IsDigits t
sign_taken [] h = absurd (true≢false (sym h))
sign_taken (b ∷ bs) h = by_cases (is_digit b) refl h
  where
    by_cases : (c : Bool) → is_digit b ≡ c → Then (cond c (Some last.Exponent) None) bs → IsDigits (b ∷ bs)
    by_cases true e k = (e, digits_taken bs k)
    by_cases false e k = absurd k

power_taken : (t : List ℕ) → Takes last.Mark t → IsPower t
power_taken [] h = absurd (true≢false (sym h))
power_taken (b ∷ bs) h = by_sign (is_sign b) refl h
  where
    by_digit : (c : Bool) → is_digit b ≡ c → Then (cond c (Some last.Exponent) None) bs → IsPower (b ∷ bs)
    by_digit true e k = inl (e, digits_taken bs k)
    by_digit false e k = absurd k

    by_sign : (c : Bool) → is_sign b ≡ c → Then (cond c (Some last.Sign) (cond (is_digit b) (Some last.Exponent) None)) bs → IsPower (b ∷ bs)
    by_sign true e k = inr (e, sign_taken bs k)
    by_sign false e k = by_digit (is_digit b) refl k

-- what follows a fraction's digit
record AfterFraction (t : List ℕ) : Type 0 where
  digits : List ℕ
  exponent : List ℕ
  is : t ≡ digits ++ exponent
  are_digits : AreDigits digits
  is_exponent : IsExponent exponent

fraction_taken : (t : List ℕ) → Takes last.Fraction t → AfterFraction t
fraction_taken [] h = record { digits = []; exponent = []; is = refl; are_digits = tt; is_exponent = tt }
fraction_taken (b ∷ bs) h = by_digit (is_digit b) refl (fraction_taken bs) h
  where
    by_mark : (c : Bool) → is_mark b ≡ c → Then (cond c (Some last.Mark) None) bs → AfterFraction (b ∷ bs)
    by_mark true e k = record { digits = []; exponent = b ∷ bs; is = refl; are_digits = tt; is_exponent = (e, power_taken bs k) }
    by_mark false e k = absurd k

    by_digit : (c : Bool) → is_digit b ≡ c → (Takes last.Fraction bs → AfterFraction bs) → Then (cond c (Some last.Fraction) (cond (is_mark b) (Some last.Mark) None)) bs → AfterFraction (b ∷ bs)
    by_digit true e next k = let a = next k in record { digits = b ∷ a.digits; exponent = a.exponent; is = ap (λ l. b ∷ l) a.is; are_digits = (e, a.are_digits); is_exponent = a.is_exponent }
    by_digit false e next k = by_mark (is_mark b) refl k

-- what follows the whole part
record AfterWhole (t : List ℕ) : Type 0 where
  fraction : List ℕ
  exponent : List ℕ
  is : t ≡ fraction ++ exponent
  is_fraction : IsFraction fraction
  is_exponent : IsExponent exponent

point_taken : (t : List ℕ) → Takes last.Point t → AfterWhole (46 ∷ t)
point_taken [] h = absurd (true≢false (sym h))
point_taken (b ∷ bs) h = by_digit (is_digit b) refl h
  where
    by_digit : (c : Bool) → is_digit b ≡ c → Then (cond c (Some last.Fraction) None) bs → AfterWhole (46 ∷ b ∷ bs)
    by_digit true e k = let a = fraction_taken bs k in record { fraction = 46 ∷ b ∷ a.digits; exponent = a.exponent; is = ap (λ l. 46 ∷ b ∷ l) a.is; is_fraction = (refl, (e, a.are_digits)); is_exponent = a.is_exponent }
    by_digit false e k = absurd k

-- a point, an exponent, or nothing
point_or_mark : (b : ℕ) (bs : List ℕ) → Then (cond (b == 46) (Some last.Point) (cond (is_mark b) (Some last.Mark) None)) bs → AfterWhole (b ∷ bs)
point_or_mark b bs h = by_point (b == 46) refl h
  where
    by_mark : (c : Bool) → is_mark b ≡ c → Then (cond c (Some last.Mark) None) bs → AfterWhole (b ∷ bs)
    by_mark true e k = record { fraction = []; exponent = b ∷ bs; is = refl; is_fraction = tt; is_exponent = (e, power_taken bs k) }
    by_mark false e k = absurd k

    by_point : (c : Bool) → (b == 46) ≡ c → Then (cond c (Some last.Point) (cond (is_mark b) (Some last.Mark) None)) bs → AfterWhole (b ∷ bs)
    by_point true e k = subst (λ x. AfterWhole (x ∷ bs)) (sym (eqb-true b 46 e)) (point_taken bs k)
    by_point false e k = by_mark (is_mark b) refl k

zero_taken : (t : List ℕ) → Takes last.Zero t → AfterWhole t
zero_taken [] h = record { fraction = []; exponent = []; is = refl; is_fraction = tt; is_exponent = tt }
zero_taken (b ∷ bs) h = point_or_mark b bs h

record AfterDigit (t : List ℕ) : Type 0 where
  digits : List ℕ
  rest : List ℕ
  is : t ≡ digits ++ rest
  are_digits : AreDigits digits
  after : AfterWhole rest

whole_taken : (t : List ℕ) → Takes last.Whole t → AfterDigit t
whole_taken [] h = record { digits = []; rest = []; is = refl; are_digits = tt; after = record { fraction = []; exponent = []; is = refl; is_fraction = tt; is_exponent = tt } }
whole_taken (b ∷ bs) h = by_digit (is_digit b) refl (whole_taken bs) h
  where
    by_digit : (c : Bool) → is_digit b ≡ c → (Takes last.Whole bs → AfterDigit bs) → Then (cond c (Some last.Whole) (cond (b == 46) (Some last.Point) (cond (is_mark b) (Some last.Mark) None))) bs → AfterDigit (b ∷ bs)
    by_digit true e next k = let a = next k in record { digits = b ∷ a.digits; rest = a.rest; is = ap (λ l. b ∷ l) a.is; are_digits = (e, a.are_digits); after = a.after }
    by_digit false e next k = record { digits = []; rest = b ∷ bs; is = refl; are_digits = tt; after = point_or_mark b bs k }

-- a number with this sign
with_minus : (minus : List ℕ) → IsMinus minus → (b : ℕ) (bs : List ℕ) → Then (cond (b == 48) (Some last.Zero) (cond (is_nonzero_digit b) (Some last.Whole) None)) bs → IsNumber (minus ++ b ∷ bs)
with_minus minus is b bs h = by_zero (b == 48) refl h
  where
    by_nonzero : (c : Bool) → is_nonzero_digit b ≡ c → Then (cond c (Some last.Whole) None) bs → IsNumber (minus ++ b ∷ bs)
    by_nonzero true e k = let a = whole_taken bs k in record {
      minus = minus;
      whole = b ∷ a.digits;
      fraction = a.after.fraction;
      exponent = a.after.exponent;
      is = ap (λ l. minus ++ b ∷ l) (a.is ∙ ap (λ l. a.digits ++ l) a.after.is);
      is_minus = is;
      is_whole = inr (e, a.are_digits);
      is_fraction = a.after.is_fraction;
      is_exponent = a.after.is_exponent;
    }
    by_nonzero false e k = absurd k

    by_zero : (c : Bool) → (b == 48) ≡ c → Then (cond c (Some last.Zero) (cond (is_nonzero_digit b) (Some last.Whole) None)) bs → IsNumber (minus ++ b ∷ bs)
    by_zero true e k = let a = zero_taken bs k in record {
      minus = minus;
      whole = b ∷ [];
      fraction = a.fraction;
      exponent = a.exponent;
      is = ap (λ l. minus ++ b ∷ l) a.is;
      is_minus = is;
      is_whole = inl (eqb-true b 48 e, refl);
      is_fraction = a.is_fraction;
      is_exponent = a.is_exponent;
    }
    by_zero false e k = by_nonzero (is_nonzero_digit b) refl k

minus_taken : (t : List ℕ) → Takes last.Minus t → IsNumber (45 ∷ t)
minus_taken [] h = absurd (true≢false (sym h))
minus_taken (b ∷ bs) h = with_minus (45 ∷ []) (inr refl) b bs h

pub number_taken : (t : List ℕ) → Takes last.Nothing t → IsNumber t
number_taken [] h = absurd (true≢false (sym h))
number_taken (b ∷ bs) h = by_minus (b == 45) refl h
  where
    by_minus : (c : Bool) → (b == 45) ≡ c → Then (cond c (Some last.Minus) (cond (b == 48) (Some last.Zero) (cond (is_nonzero_digit b) (Some last.Whole) None))) bs → IsNumber (b ∷ bs)
    by_minus true e k = subst (λ x. IsNumber (x ∷ bs)) (sym (eqb-true b 45 e)) (minus_taken bs k)
    by_minus false e k = with_minus [] (inl refl) b bs k

-- ---- each state can be completed

pub number_completion : Last → List ℕ
number_completion last.Nothing = 48 ∷ []
number_completion last.Minus = 48 ∷ []
number_completion last.Zero = []
number_completion last.Whole = []
number_completion last.Point = 48 ∷ []
number_completion last.Fraction = []
number_completion last.Mark = 48 ∷ []
number_completion last.Sign = 48 ∷ []
number_completion last.Exponent = []

pub number_completes : (s : Last) → Takes s (number_completion s)
unfolding number_completion
number_completes last.Nothing = refl
number_completes last.Minus = refl
number_completes last.Zero = refl
number_completes last.Whole = refl
number_completes last.Point = refl
number_completes last.Fraction = refl
number_completes last.Mark = refl
number_completes last.Sign = refl
number_completes last.Exponent = refl
