-- Which bytes are a number, a string or a token can be decided.
use Rattle.std.proofs.Common.{◌≡◌, ℕ, zero, suc, ◌≤◌, ◌∷◌, [], ◌++◌, List, length, Bool, refl, ap, ◌∙◌, subst, inl, inr, arith}
use Rattle.std.specs.Prelude.{codes, flat_map}
use Rattle.json_span.specs.Number.{is_digit, is_nonzero_digit, is_mark, is_sign, AreDigits, IsDigits, IsWhole, IsMinus, IsFraction, IsPower, IsExponent, IsNumber}
use Rattle.json_span.specs.Strings.{is_blank, AreBlanks, is, within, tail, Meets, MeetsOne, shapes, ArePieces, IsString}
use Rattle.json_span.specs.Value.{IsLiteral, IsToken, Padded}
use Rattle.model_examples.proofs.CutLemmas.{Decided, both, either, reworded, is_true, same_number, same_text, Cut, cut, cut_any}

-- ---- numbers

are_digits : (t : List ℕ) → Decided (AreDigits t)
are_digits [] = inl tt
are_digits (d ∷ ds) = both (is_true (is_digit d)) (are_digits ds)

is_digits : (t : List ℕ) → Decided (IsDigits t)
is_digits [] = inr (λ h. h)
is_digits (d ∷ ds) = both (is_true (is_digit d)) (are_digits ds)

is_whole : (t : List ℕ) → Decided (IsWhole t)
is_whole [] = inr (λ h. h)
is_whole (d ∷ ds) = either (both (same_number d 48) (same_text ds [])) (both (is_true (is_nonzero_digit d)) (are_digits ds))

is_minus : (t : List ℕ) → Decided (IsMinus t)
is_minus t = either (same_text t []) (same_text t (45 ∷ []))

is_fraction : (t : List ℕ) → Decided (IsFraction t)
is_fraction [] = inl tt
is_fraction (p ∷ ds) = both (same_number p 46) (is_digits ds)

is_power : (t : List ℕ) → Decided (IsPower t)
is_power [] = inr (λ h. h)
is_power (b ∷ bs) = either (is_digits (b ∷ bs)) (both (is_true (is_sign b)) (is_digits bs))

is_exponent : (t : List ℕ) → Decided (IsExponent t)
is_exponent [] = inl tt
is_exponent (e ∷ bs) = both (is_true (is_mark e)) (is_power bs)

abbrev Parts : List ℕ → Type 0
Parts = Cut IsMinus (Cut IsWhole (Cut IsFraction IsExponent))

number_of : (t : List ℕ) → Parts t → IsNumber t
number_of t p = record {
  minus = p.0;
  whole = p.3.0;
  fraction = p.3.3.0;
  exponent = p.3.3.1;
  is = p.4 ∙ ap (λ l. p.0 ++ l) (p.3.4 ∙ ap (λ l. p.3.0 ++ l) p.3.3.4);
  is_minus = p.2;
  is_whole = p.3.2;
  is_fraction = p.3.3.2;
  is_exponent = p.3.3.3;
}

parts_of : (t : List ℕ) → IsNumber t → Parts t
parts_of t n =
    let last = n.fraction ++ n.exponent in
    (n.minus, n.whole ++ last, n.is_minus, (n.whole, last, n.is_whole, (n.fraction, n.exponent, n.is_fraction, n.is_exponent, refl), refl), n.is)

is_number : (t : List ℕ) → Decided (IsNumber t)
is_number t = reworded (number_of t) (parts_of t)
    (cut_any IsMinus (Cut IsWhole (Cut IsFraction IsExponent)) t is_minus
    (λ x. cut_any IsWhole (Cut IsFraction IsExponent) x is_whole (λ y. cut_any IsFraction IsExponent y is_fraction is_exponent)))

-- ---- strings

pub are_blanks : (t : List ℕ) → Decided (AreBlanks t)
are_blanks [] = inl tt
are_blanks (b ∷ bs) = both (is_true (is_blank b)) (are_blanks bs)

meets : (tests : List (ℕ → Bool)) (t : List ℕ) → Decided (Meets tests t)
meets [] [] = inl tt
meets [] (b ∷ bs) = inr (λ h. h)
meets (p ∷ ps) [] = inr (λ h. h)
meets (p ∷ ps) (b ∷ bs) = both (is_true (p b)) (meets ps bs)

meets_one : (own : List (List (ℕ → Bool))) (t : List ℕ) → Decided (MeetsOne own t)
meets_one [] t = inr (λ h. h)
meets_one (shape ∷ others) t = either (meets shape t) (meets_one others t)

-- characters and escapes one after another
abbrev Joined : List ℕ → Type 0
Joined t = (pieces : List (List ℕ)) × ArePieces pieces × (t ≡ flat_map (λ p. p) pieces)

no_piece : MeetsOne shapes [] → ⊥
no_piece (inl h) = h
no_piece (inr (inl h)) = h
no_piece (inr (inr (inl h))) = h
no_piece (inr (inr (inr (inl h)))) = h
no_piece (inr (inr (inr (inr (inl h))))) = h
no_piece (inr (inr (inr (inr (inr (inl h)))))) = h
no_piece (inr (inr (inr (inr (inr (inr (inl h))))))) = h
no_piece (inr (inr (inr (inr (inr (inr (inr (inl h)))))))) = h
no_piece (inr (inr (inr (inr (inr (inr (inr (inr (inl h))))))))) = h
no_piece (inr (inr (inr (inr (inr (inr (inr (inr (inr (inl h)))))))))) = h
no_piece (inr (inr (inr (inr (inr (inr (inr (inr (inr (inr h)))))))))) = by_last h
  where
    by_last : MeetsOne ((is 244 ∷ within 128 143 ∷ tail ∷ tail ∷ []) ∷ []) [] → ⊥
    by_last (inl k) = k
    by_last (inr k) = k

joined_more : (b : ℕ) (bs : List ℕ) → Cut (λ xs. MeetsOne shapes (b ∷ xs)) Joined bs → Joined (b ∷ bs)
joined_more b bs s = ((b ∷ s.0) ∷ s.3.0, (s.2, s.3.1), ap (λ l. b ∷ l) (s.4 ∙ ap (λ l. s.0 ++ l) s.3.2))

joined_parts : (b : ℕ) (bs : List ℕ) → Joined (b ∷ bs) → Cut (λ xs. MeetsOne shapes (b ∷ xs)) Joined bs
joined_parts b bs ([], are, e) = absurd (cc e)
joined_parts b bs ([] ∷ ps, are, e) = absurd (no_piece are.0)
joined_parts b bs ((x ∷ xs) ∷ ps, are, e) =
    let head : x ≡ b = cc e in
    let tail : bs ≡ xs ++ flat_map (λ p. p) ps = cc e in
    (xs, flat_map (λ p. p) ps, subst (λ k. MeetsOne shapes (k ∷ xs)) head are.0, (ps, are.1, refl), tail)

joined_within : (n : ℕ) (t : List ℕ) → length t ≤ n → Decided (Joined t)
joined_within n [] short = inl ([], tt, refl)
joined_within zero (b ∷ bs) short = absurd (omega (arith, short))
joined_within (suc n) (b ∷ bs) short = reworded (joined_more b bs) (joined_parts b bs)
    (cut (λ xs. MeetsOne shapes (b ∷ xs)) Joined bs (λ xs. meets_one shapes (b ∷ xs)) (λ ys less. joined_within n ys (omega (arith, short, less))))

joined : (t : List ℕ) → Decided (Joined t)
joined t = joined_within (length t) t (omega arith)

abbrev IsClosed : List ℕ → Type 0
IsClosed t = t ≡ 34 ∷ []

string_of : (b : ℕ) (bs : List ℕ) → (b ≡ 34) × Cut Joined IsClosed bs → IsString (b ∷ bs)
string_of b bs h =
    let s = h.1 in
    (s.2.0, s.2.1, ap (λ k. k ∷ bs) h.0 ∙ ap (λ l. 34 ∷ l) (s.4 ∙ ap (λ l. l ++ s.1) s.2.2 ∙ ap (λ l. flat_map (λ p. p) s.2.0 ++ l) s.3))

string_parts : (b : ℕ) (bs : List ℕ) → IsString (b ∷ bs) → (b ≡ 34) × Cut Joined IsClosed bs
string_parts b bs h =
    let inner = flat_map (λ p. p) h.0 in
    let head : b ≡ 34 = cc h.2 in
    let tail : bs ≡ inner ++ 34 ∷ [] = cc h.2 in
    (head, (inner, 34 ∷ [], (h.0, h.1, refl), refl, tail))

pub is_string : (t : List ℕ) → Decided (IsString t)
is_string [] = inr (λ h. absurd (cc h.2))
is_string (b ∷ bs) = reworded (string_of b bs) (string_parts b bs) (both (same_number b 34) (cut_any Joined IsClosed bs joined (λ t. same_text t (34 ∷ []))))

-- ---- tokens

is_literal : (t : List ℕ) → Decided (IsLiteral t)
is_literal t = either (same_text t (codes "true")) (either (same_text t (codes "false")) (same_text t (codes "null")))

pub is_token : (t : List ℕ) → Decided (IsToken t)
is_token t = either (is_literal t) (either (is_number t) (is_string t))

-- ---- blanks round a text

padded_of : (P : List ℕ → Type 0) (t : List ℕ) → Cut AreBlanks (Cut P AreBlanks) t → Padded P t
padded_of P t s = (s.0, s.3.0, s.3.1, s.2, s.3.2, s.3.3, s.4 ∙ ap (λ l. s.0 ++ l) s.3.4)

padded_parts : (P : List ℕ → Type 0) (t : List ℕ) → Padded P t → Cut AreBlanks (Cut P AreBlanks) t
padded_parts P t h = (h.0, h.1 ++ h.2, h.3, (h.1, h.2, h.4, h.5, refl), h.6)

pub padded : (P : List ℕ → Type 0) → ((t : List ℕ) → Decided (P t)) → (t : List ℕ) → Decided (Padded P t)
padded P p t = reworded (padded_of P t) (padded_parts P t) (cut_any AreBlanks (Cut P AreBlanks) t are_blanks (λ x. cut_any P AreBlanks x p are_blanks))
