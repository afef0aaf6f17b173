-- A mended value's text is the mended text of the value.
use Rattle.std.proofs.Common.{◌≡◌, ℕ, suc, ◌∷◌, [], ◌++◌, List, length, take, Bool, true, false, cond, codes, max, refl, sym, ap, ◌∙◌, subst, inl, inr, arith, append_assoc, length-append, true≢false}
use Rattle.std.specs.Prelude.{◌==◌, ◌&&◌, ◌||◌}
use Rattle.std.proofs.lemmas.List.{append-nil}
use Rattle.std.proofs.lemmas.Bool.Decides.{nat_tests}
use Rattle.json_span.specs.Strings.{is, is_hex, is_short_escape, MeetsOne, shapes, ArePieces, IsString}
use Rattle.json_span.specs.Value.{Value, token, array, object, Items, no_items, item, Members, no_members, member, flat, flat_items, flat_members, comma_if, depth, depth_items, depth_members, IsToken}
use Rattle.json_prune.specs.Mend.{is_d, is_high_digit, is_low_digit, begins, high, low, pair, instead, mend_behind, mend, mended, mended_items, mended_members}
use Rattle.json_prune.specs.Tokens.{HasTokens, ItemsHaveTokens, MembersHaveTokens}
use Rattle.json_prune.proofs.ScanLemmas.{AreQuiet, IsCoded, Kinds, kind_of, joined, literal_apart, number_apart, AreApart, hex_quiet}
use Rattle.json_prune.proofs.HalfLemmas.{begins-append, both_true}
use Rattle.json_prune.proofs.MendLemmas.{behind_length, mend_plain}

-- ---- bytes without a backslash

quiet_mend : (p r : List ℕ) → AreQuiet p → mend (p ++ r) ≡ p ++ mend r
quiet_mend [] r q = refl
quiet_mend (b ∷ bs) r q = mend_plain b (bs ++ r) q.0.1 ∙ ap (λ l. b ∷ l) (quiet_mend bs r q.1)

apart_mend : (p r : List ℕ) → AreApart p → mend (p ++ r) ≡ p ++ mend r
apart_mend [] r q = refl
apart_mend (b ∷ bs) r q = mend_plain b (bs ++ r) q.0.1 ∙ ap (λ l. b ∷ l) (apart_mend bs r q.1)

and_false : (c : Bool) → (c && false) ≡ false
and_false true = refl
and_false false = refl

-- ---- pieces

abbrev HasHigh : List ℕ → Bool
HasHigh = begins (is 92 ∷ high)

abbrev HasLow : List ℕ → Bool
HasLow = begins (is 92 ∷ low)

abbrev one_mended : List ℕ → List ℕ
one_mended p = cond (HasHigh p || HasLow p) (92 ∷ codes "ufffd") p

abbrev pieces_mended : List (List ℕ) → List (List ℕ)
pieces_mended [] = []
pieces_mended (p ∷ []) = one_mended p ∷ []
pieces_mended (p ∷ q ∷ ps) = cond (HasHigh p && HasLow q) (p ∷ q ∷ pieces_mended ps) (one_mended p ∷ pieces_mended (q ∷ ps))

quiet_none : (b : ℕ) (bs : List ℕ) (ps : List (ℕ → Bool)) → (b == 92) ≡ false → begins (is 92 ∷ ps) (b ∷ bs) ≡ false
quiet_none b bs ps e = ap (λ c. c && begins ps bs) e

short_letter : (c : ℕ) → is_short_escape c ≡ true → (c == 117) ≡ false
short_letter c h = grind (arith, nat_tests)

-- whether a piece is an escape of a first half, and whether a second follows it
coded_mend : (a b c d : ℕ) (r : List ℕ) → AreQuiet (a ∷ b ∷ c ∷ d ∷ []) → (HasHigh (92 ∷ 117 ∷ a ∷ b ∷ c ∷ d ∷ []) && HasLow r) ≡ false → mend (92 ∷ 117 ∷ a ∷ b ∷ c ∷ d ∷ r) ≡ one_mended (92 ∷ 117 ∷ a ∷ b ∷ c ∷ d ∷ []) ++ mend r
coded_mend a b c d r q k =
    let xs : List ℕ = 117 ∷ a ∷ b ∷ c ∷ d ∷ r in
    let no_pair : begins pair xs ≡ false = begins-append high (is 92 ∷ low) xs ∙ k in
    ap (λ x. 92 ∷ mend_behind (cond x (take 11 xs) (cond (begins high xs || begins low xs) (codes "ufffd") (take 1 xs))) xs) no_pair
    ∙ by_half (begins high xs || begins low xs)
  where
    by_half : (x : Bool) → 92 ∷ mend_behind (cond x (codes "ufffd") (117 ∷ [])) (117 ∷ a ∷ b ∷ c ∷ d ∷ r) ≡ cond x (92 ∷ codes "ufffd") (92 ∷ 117 ∷ a ∷ b ∷ c ∷ d ∷ []) ++ mend r
    by_half true = refl
    by_half false = ap (λ l. 92 ∷ 117 ∷ l) (quiet_mend (a ∷ b ∷ c ∷ d ∷ []) r q)

one_piece : (p r : List ℕ) → Kinds p → (HasHigh p && HasLow r) ≡ false → mend (p ++ r) ≡ one_mended p ++ mend r
one_piece p r (inl (b, bs, q, qs, e)) h =
    let none_high : HasHigh p ≡ false = ap HasHigh e ∙ quiet_none b bs high q.1 in
    let none_low : HasLow p ≡ false = ap HasLow e ∙ quiet_none b bs low q.1 in
    let same : one_mended p ≡ p = ap (λ c. cond (c || HasLow p) (92 ∷ codes "ufffd") p) none_high ∙ ap (λ c. cond c (92 ∷ codes "ufffd") p) none_low in
    ap (λ l. mend (l ++ r)) e ∙ (quiet_mend (b ∷ bs) r (q, qs) ∙ ap (λ l. l ++ mend r) (sym e ∙ sym same))
one_piece p r (inr (inl (c, s, e))) h =
    let letter = short_letter c s in
    let none_high : HasHigh (92 ∷ c ∷ []) ≡ false = ap (λ x. x && begins (is_d ∷ is_high_digit ∷ is_hex ∷ is_hex ∷ []) []) letter in
    let none_low : HasLow (92 ∷ c ∷ []) ≡ false = ap (λ x. x && begins (is_d ∷ is_low_digit ∷ is_hex ∷ is_hex ∷ []) []) letter in
    let same : one_mended (92 ∷ c ∷ []) ≡ 92 ∷ c ∷ [] = ap (λ x. cond (x || HasLow (92 ∷ c ∷ [])) (92 ∷ codes "ufffd") (92 ∷ c ∷ [])) none_high ∙ ap (λ x. cond x (92 ∷ codes "ufffd") (92 ∷ c ∷ [])) none_low in
    let no_pair : begins pair (c ∷ r) ≡ false = ap (λ x. x && begins (is_d ∷ is_high_digit ∷ is_hex ∷ is_hex ∷ is 92 ∷ low) r) letter in
    let no_high : begins high (c ∷ r) ≡ false = ap (λ x. x && begins (is_d ∷ is_high_digit ∷ is_hex ∷ is_hex ∷ []) r) letter in
    let no_low : begins low (c ∷ r) ≡ false = ap (λ x. x && begins (is_d ∷ is_low_digit ∷ is_hex ∷ is_hex ∷ []) r) letter in
    let stays : instead (c ∷ r) ≡ c ∷ [] =
    ap (λ x. cond x (take 11 (c ∷ r)) (cond (begins high (c ∷ r) || begins low (c ∷ r)) (codes "ufffd") (c ∷ []))) no_pair
    ∙ (ap (λ x. cond (x || begins low (c ∷ r)) (codes "ufffd") (c ∷ [])) no_high ∙ ap (λ x. cond x (codes "ufffd") (c ∷ [])) no_low) in
    ap (λ l. mend (l ++ r)) e ∙ (ap (λ l. 92 ∷ mend_behind l (c ∷ r)) stays ∙ ap (λ l. l ++ mend r) (sym same ∙ sym (ap one_mended e)))
one_piece p r (inr (inr (a, b, c, d, ha, hb, hc, hd, e))) h =
    ap (λ l. mend (l ++ r)) e
    ∙ (coded_mend a b c d r (hex_quiet a ha, (hex_quiet b hb, (hex_quiet c hc, (hex_quiet d hd, tt)))) (ap (λ l. HasHigh l && HasLow r) (sym e) ∙ h) ∙ ap (λ l. l ++ mend r) (sym (ap one_mended e)))

-- a pair stays
no_high : (p : List ℕ) → Kinds p → HasHigh p ≡ true → IsCoded p
no_high p (inl (b, bs, q, qs, e)) h = let none : HasHigh p ≡ false = ap HasHigh e ∙ quiet_none b bs high q.1 in absurd (true≢false (sym h ∙ none))
no_high p (inr (inl (c, s, e))) h =
    let none : HasHigh p ≡ false = ap HasHigh e ∙ ap (λ x. x && begins (is_d ∷ is_high_digit ∷ is_hex ∷ is_hex ∷ []) []) (short_letter c s) in absurd (true≢false (sym h ∙ none))
no_high p (inr (inr k)) h = k

no_low : (p : List ℕ) → Kinds p → HasLow p ≡ true → IsCoded p
no_low p (inl (b, bs, q, qs, e)) h = let none : HasLow p ≡ false = ap HasLow e ∙ quiet_none b bs low q.1 in absurd (true≢false (sym h ∙ none))
no_low p (inr (inl (c, s, e))) h =
    let none : HasLow p ≡ false = ap HasLow e ∙ ap (λ x. x && begins (is_d ∷ is_low_digit ∷ is_hex ∷ is_hex ∷ []) []) (short_letter c s) in absurd (true≢false (sym h ∙ none))
no_low p (inr (inr k)) h = k

coded_pair : (a b c d e f g h : ℕ) (r : List ℕ) → HasHigh (92 ∷ 117 ∷ a ∷ b ∷ c ∷ d ∷ []) ≡ true → HasLow (92 ∷ 117 ∷ e ∷ f ∷ g ∷ h ∷ []) ≡ true →
    mend (92 ∷ 117 ∷ a ∷ b ∷ c ∷ d ∷ 92 ∷ 117 ∷ e ∷ f ∷ g ∷ h ∷ r) ≡ 92 ∷ 117 ∷ a ∷ b ∷ c ∷ d ∷ 92 ∷ 117 ∷ e ∷ f ∷ g ∷ h ∷ mend r
coded_pair a b c d e f g h r k l =
    let xs : List ℕ = 117 ∷ a ∷ b ∷ c ∷ d ∷ 92 ∷ 117 ∷ e ∷ f ∷ g ∷ h ∷ r in
    let test : begins pair xs ≡ true = begins-append high (is 92 ∷ low) xs ∙ (ap (λ x. x && HasLow (92 ∷ 117 ∷ e ∷ f ∷ g ∷ h ∷ [])) k ∙ l) in
    ap (λ x. 92 ∷ mend_behind (cond x (take 11 xs) (cond (begins high xs || begins low xs) (codes "ufffd") (take 1 xs))) xs) test

two_pieces : (p q r : List ℕ) → IsCoded p → IsCoded q → HasHigh p ≡ true → HasLow q ≡ true → mend (p ++ (q ++ r)) ≡ p ++ (q ++ mend r)
two_pieces p q r (a, b, c, d, ha, hb, hc, hd, e) (a2, b2, c2, d2, ha2, hb2, hc2, hd2, e2) h k =
    ap (λ l. mend (l ++ (q ++ r))) e
    ∙ (ap (λ l. mend (92 ∷ 117 ∷ a ∷ b ∷ c ∷ d ∷ (l ++ r))) e2
    ∙ (coded_pair a b c d a2 b2 c2 d2 r (ap HasHigh (sym e) ∙ h) (ap HasLow (sym e2) ∙ k)
    ∙ sym (ap (λ l. l ++ (q ++ mend r)) e ∙ ap (λ l. 92 ∷ 117 ∷ a ∷ b ∷ c ∷ d ∷ (l ++ mend r)) e2)))

-- what a piece begins with, whatever follows it
low_piece : (q r : List ℕ) → Kinds q → HasLow (q ++ r) ≡ HasLow q
low_piece q r (inl (b, bs, k, ks, e)) =
    ap (λ l. HasLow (l ++ r)) e ∙ (quiet_none b (bs ++ r) low k.1 ∙ sym (ap HasLow e ∙ quiet_none b bs low k.1))
low_piece q r (inr (inl (c, s, e))) =
    let letter = short_letter c s in
    ap (λ l. HasLow (l ++ r)) e
    ∙ (ap (λ x. x && begins (is_d ∷ is_low_digit ∷ is_hex ∷ is_hex ∷ []) r) letter ∙ sym (ap HasLow e ∙ ap (λ x. x && begins (is_d ∷ is_low_digit ∷ is_hex ∷ is_hex ∷ []) []) letter))
low_piece q r (inr (inr (a, b, c, d, ha, hb, hc, hd, e))) = ap (λ l. HasLow (l ++ r)) e ∙ sym (ap HasLow e)

pub pieces_mend : (ps : List (List ℕ)) (xs : List ℕ) → ArePieces ps → mend (joined ps ++ 34 ∷ xs) ≡ joined (pieces_mended ps) ++ 34 ∷ mend xs
pieces_mend [] xs h = refl
pieces_mend (p ∷ []) xs h =
    ap (λ l. mend (l ++ 34 ∷ xs)) (append-nil p)
    ∙ (one_piece p (34 ∷ xs) (kind_of p h.0) (and_false (HasHigh p)) ∙ ap (λ l. l ++ 34 ∷ mend xs) (sym (append-nil (one_mended p))))
pieces_mend (p ∷ q ∷ ps) xs h = by_pair (HasHigh p && HasLow q) refl (pieces_mend (q ∷ ps) xs h.1) (pieces_mend ps xs h.1.1)
  where
    split : joined (p ∷ q ∷ ps) ++ 34 ∷ xs ≡ p ++ (q ++ (joined ps ++ 34 ∷ xs))
    split = append_assoc p (q ++ joined ps) (34 ∷ xs) ∙ ap (λ l. p ++ l) (append_assoc q (joined ps) (34 ∷ xs))

    by_pair : (c : Bool) → (HasHigh p && HasLow q) ≡ c → mend (joined (q ∷ ps) ++ 34 ∷ xs) ≡ joined (pieces_mended (q ∷ ps)) ++ 34 ∷ mend xs → mend (joined ps ++ 34 ∷ xs) ≡ joined (pieces_mended ps) ++ 34 ∷ mend xs →
        mend (joined (p ∷ q ∷ ps) ++ 34 ∷ xs) ≡ joined (cond c (p ∷ q ∷ pieces_mended ps) (one_mended p ∷ pieces_mended (q ∷ ps))) ++ 34 ∷ mend xs
    by_pair true e one two =
        let both = both_true (HasHigh p) (HasLow q) e in
        ap mend split
        ∙ (two_pieces p q (joined ps ++ 34 ∷ xs) (no_high p (kind_of p h.0) both.0) (no_low q (kind_of q h.1.0) both.1) both.0 both.1
        ∙ (ap (λ l. p ++ (q ++ l)) two ∙ (ap (λ l. p ++ l) (sym (append_assoc q (joined (pieces_mended ps)) (34 ∷ mend xs))) ∙ sym (append_assoc p (q ++ joined (pieces_mended ps)) (34 ∷ mend xs)))))
    by_pair false e one two =
        let test : (HasHigh p && HasLow ((q ++ joined ps) ++ 34 ∷ xs)) ≡ false =
        ap (λ c. HasHigh p && c) (ap HasLow (append_assoc q (joined ps) (34 ∷ xs)) ∙ low_piece q (joined ps ++ 34 ∷ xs) (kind_of q h.1.0)) ∙ e in
        ap mend (append_assoc p (q ++ joined ps) (34 ∷ xs))
        ∙ (one_piece p ((q ++ joined ps) ++ 34 ∷ xs) (kind_of p h.0) test
        ∙ (ap (λ l. one_mended p ++ l) one ∙ sym (append_assoc (one_mended p) (joined (pieces_mended (q ∷ ps))) (34 ∷ mend xs))))

-- ---- the pieces again

replaced : (c : Bool) (p : List ℕ) → MeetsOne shapes p → MeetsOne shapes (cond c (92 ∷ codes "ufffd") p)
replaced true p h = inr (inr (inl (refl, (refl, (refl, (refl, (refl, (refl, tt))))))))
replaced false p h = h

are_mended : (ps : List (List ℕ)) → ArePieces ps → ArePieces (pieces_mended ps)
are_mended [] h = tt
are_mended (p ∷ []) h = (replaced (HasHigh p || HasLow p) p h.0, tt)
are_mended (p ∷ q ∷ ps) h = by_pair (HasHigh p && HasLow q) (are_mended (q ∷ ps) h.1) (are_mended ps h.1.1)
  where
    by_pair : (c : Bool) → ArePieces (pieces_mended (q ∷ ps)) → ArePieces (pieces_mended ps) → ArePieces (cond c (p ∷ q ∷ pieces_mended ps) (one_mended p ∷ pieces_mended (q ∷ ps)))
    by_pair true one two = (h.0, (h.1.0, two))
    by_pair false one two = (replaced (HasHigh p || HasLow p) p h.0, one)

or_false : (a b : Bool) → (a || b) ≡ false → (a ≡ false) × (b ≡ false)
or_false false b h = (refl, h)
or_false true b h = absurd (true≢false h)

no_half : (p : List ℕ) → (HasHigh (one_mended p) ≡ false) × (HasLow (one_mended p) ≡ false)
no_half p = by_half (HasHigh p || HasLow p) refl
  where
    by_half : (c : Bool) → (HasHigh p || HasLow p) ≡ c → (HasHigh (cond c (92 ∷ codes "ufffd") p) ≡ false) × (HasLow (cond c (92 ∷ codes "ufffd") p) ≡ false)
    by_half true e = (refl, refl)
    by_half false e = or_false (HasHigh p) (HasLow p) e

mended_stays : (p : List ℕ) → one_mended (one_mended p) ≡ one_mended p
mended_stays p =
    let none = no_half p in
    ap (λ c. cond (c || HasLow (one_mended p)) (92 ∷ codes "ufffd") (one_mended p)) none.0 ∙ ap (λ c. cond c (92 ∷ codes "ufffd") (one_mended p)) none.1

after_mended : (p : List ℕ) (ps : List (List ℕ)) → pieces_mended (one_mended p ∷ ps) ≡ one_mended p ∷ pieces_mended ps
after_mended p [] = ap (λ l. l ∷ []) (mended_stays p)
after_mended p (q ∷ ps) =
    ap (λ c. cond (c && HasLow q) (one_mended p ∷ q ∷ pieces_mended ps) (one_mended (one_mended p) ∷ pieces_mended (q ∷ ps))) (no_half p).0
    ∙ ap (λ l. l ∷ pieces_mended (q ∷ ps)) (mended_stays p)

pieces_once : (ps : List (List ℕ)) → pieces_mended (pieces_mended ps) ≡ pieces_mended ps
pieces_once [] = refl
pieces_once (p ∷ []) = after_mended p []
pieces_once (p ∷ q ∷ ps) = by_pair (HasHigh p && HasLow q) refl (pieces_once (q ∷ ps)) (pieces_once ps)
  where
    by_pair : (c : Bool) → (HasHigh p && HasLow q) ≡ c → pieces_mended (pieces_mended (q ∷ ps)) ≡ pieces_mended (q ∷ ps) → pieces_mended (pieces_mended ps) ≡ pieces_mended ps →
        pieces_mended (cond c (p ∷ q ∷ pieces_mended ps) (one_mended p ∷ pieces_mended (q ∷ ps))) ≡ cond c (p ∷ q ∷ pieces_mended ps) (one_mended p ∷ pieces_mended (q ∷ ps))
    by_pair true e one two =
        ap (λ c. cond c (p ∷ q ∷ pieces_mended (pieces_mended ps)) (one_mended p ∷ pieces_mended (q ∷ pieces_mended ps))) e ∙ ap (λ l. p ∷ q ∷ l) two
    by_pair false e one two = after_mended p (pieces_mended (q ∷ ps)) ∙ ap (λ l. one_mended p ∷ l) one

-- ---- tokens

string_mend : (t r : List ℕ) → IsString t → mend (t ++ r) ≡ mend t ++ mend r
string_mend t r s =
    let ps : List (List ℕ) = s.0 in
    let whole : mend (t ++ r) ≡ 34 ∷ (joined (pieces_mended ps) ++ 34 ∷ mend r) =
    ap (λ l. mend (l ++ r)) s.2 ∙ ap (λ l. 34 ∷ l) (ap mend (append_assoc (joined ps) (34 ∷ []) r) ∙ pieces_mend ps r s.1) in
    let alone : mend t ≡ 34 ∷ (joined (pieces_mended ps) ++ 34 ∷ []) = ap mend s.2 ∙ ap (λ l. 34 ∷ l) (pieces_mend ps [] s.1) in
    whole ∙ sym (ap (λ l. l ++ mend r) alone ∙ ap (λ l. 34 ∷ l) (append_assoc (joined (pieces_mended ps)) (34 ∷ []) (mend r)))

pub string_mended : (t : List ℕ) → IsString t → IsString (mend t)
string_mended t s = (pieces_mended s.0, are_mended s.0 s.1, ap mend s.2 ∙ ap (λ l. 34 ∷ l) (pieces_mend s.0 [] s.1))

mended_string : (t : List ℕ) (s : IsString t) → mend t ≡ 34 ∷ (joined (pieces_mended s.0) ++ 34 ∷ [])
mended_string t s = ap mend s.2 ∙ ap (λ l. 34 ∷ l) (pieces_mend s.0 [] s.1)

string_once : (t : List ℕ) → IsString t → mend (mend t) ≡ mend t
string_once t s =
    ap mend (mended_string t s)
    ∙ (ap (λ l. 34 ∷ l) (pieces_mend (pieces_mended s.0) [] (are_mended s.0 s.1)) ∙ (ap (λ l. 34 ∷ (joined l ++ 34 ∷ [])) (pieces_once s.0) ∙ sym (mended_string t s)))

plain_alone : (t : List ℕ) → AreApart t → mend t ≡ t
plain_alone t h = ap mend (sym (append-nil t)) ∙ (apart_mend t [] h ∙ append-nil t)

token_mend : (t r : List ℕ) → IsToken t → mend (t ++ r) ≡ mend t ++ mend r
token_mend t r (inl h) = apart_mend t r (literal_apart t h) ∙ ap (λ l. l ++ mend r) (sym (plain_alone t (literal_apart t h)))
token_mend t r (inr (inl h)) = apart_mend t r (number_apart t h) ∙ ap (λ l. l ++ mend r) (sym (plain_alone t (number_apart t h)))
token_mend t r (inr (inr h)) = string_mend t r h

token_mended : (t : List ℕ) → IsToken t → IsToken (mend t)
token_mended t (inl h) = subst IsToken (sym (plain_alone t (literal_apart t h))) (inl h)
token_mended t (inr (inl h)) = subst IsToken (sym (plain_alone t (number_apart t h))) (inr (inl h))
token_mended t (inr (inr h)) = inr (inr (string_mended t h))

token_once : (t : List ℕ) → IsToken t → mend (mend t) ≡ mend t
token_once t (inl h) = ap mend (plain_alone t (literal_apart t h))
token_once t (inr (inl h)) = ap mend (plain_alone t (number_apart t h))
token_once t (inr (inr h)) = string_once t h

-- ---- values

comma_mend : (later : Bool) (r : List ℕ) → mend (comma_if later ++ r) ≡ comma_if later ++ mend r
comma_mend true r = refl
comma_mend false r = refl

mutual
  value_mend : (v : Value) (r : List ℕ) → HasTokens v → mend (flat v ++ r) ≡ flat (mended v) ++ mend r
  value_mend (token t) r h = token_mend t r h
  value_mend (array vs) r h = ap (λ l. 91 ∷ l) (items_mend vs false r h)
  value_mend (object ms) r h = ap (λ l. 123 ∷ l) (members_mend ms false r h)

  items_mend : (vs : Items) (later : Bool) (r : List ℕ) → ItemsHaveTokens vs → mend (flat_items later vs ++ r) ≡ flat_items later (mended_items vs) ++ mend r
  items_mend no_items later r h = refl
  items_mend (item v vs) later r h =
      let tail : List ℕ = flat_items true vs in
      let mid : List ℕ = flat_items true (mended_items vs) in
      ap mend (append_assoc (comma_if later) (flat v ++ tail) r)
      ∙ (comma_mend later ((flat v ++ tail) ++ r)
      ∙ (ap (λ l. comma_if later ++ l) (ap mend (append_assoc (flat v) tail r) ∙ (value_mend v (tail ++ r) h.0 ∙ (ap (λ l. flat (mended v) ++ l) (items_mend vs true r h.1) ∙ sym (append_assoc (flat (mended v)) mid (mend r)))))
      ∙ sym (append_assoc (comma_if later) (flat (mended v) ++ mid) (mend r))))

  members_mend : (ms : Members) (later : Bool) (r : List ℕ) → MembersHaveTokens ms → mend (flat_members later ms ++ r) ≡ flat_members later (mended_members ms) ++ mend r
  members_mend no_members later r h = refl
  members_mend (member n v ms) later r h =
      let tail : List ℕ = flat_members true ms in
      let mid : List ℕ = flat_members true (mended_members ms) in
      let value : mend ((flat v ++ tail) ++ r) ≡ (flat (mended v) ++ mid) ++ mend r =
      ap mend (append_assoc (flat v) tail r) ∙ (value_mend v (tail ++ r) h.1 ∙ (ap (λ l. flat (mended v) ++ l) (members_mend ms true r h.2) ∙ sym (append_assoc (flat (mended v)) mid (mend r)))) in
      let name : mend ((n ++ (58 ∷ (flat v ++ tail))) ++ r) ≡ (mend n ++ (58 ∷ (flat (mended v) ++ mid))) ++ mend r =
      ap mend (append_assoc n (58 ∷ (flat v ++ tail)) r) ∙ (string_mend n (58 ∷ ((flat v ++ tail) ++ r)) h.0 ∙ (ap (λ l. mend n ++ (58 ∷ l)) value ∙ sym (append_assoc (mend n) (58 ∷ (flat (mended v) ++ mid)) (mend r)))) in
      ap mend (append_assoc (comma_if later) (n ++ (58 ∷ (flat v ++ tail))) r)
      ∙ (comma_mend later ((n ++ (58 ∷ (flat v ++ tail))) ++ r)
      ∙ (ap (λ l. comma_if later ++ l) name ∙ sym (append_assoc (comma_if later) (mend n ++ (58 ∷ (flat (mended v) ++ mid))) (mend r))))

-- the mended text of a value is that of the mended value
pub mended_text : (v : Value) → HasTokens v → mend (flat v) ≡ flat (mended v)
mended_text v h = ap mend (sym (append-nil (flat v))) ∙ (value_mend v [] h ∙ append-nil (flat (mended v)))

mutual
  pub mended_tokens : (v : Value) → HasTokens v → HasTokens (mended v)
  mended_tokens (token t) h = token_mended t h
  mended_tokens (array vs) h = items_tokens vs h
  mended_tokens (object ms) h = members_tokens ms h

  items_tokens : (vs : Items) → ItemsHaveTokens vs → ItemsHaveTokens (mended_items vs)
  items_tokens no_items h = tt
  items_tokens (item v vs) h = (mended_tokens v h.0, items_tokens vs h.1)

  members_tokens : (ms : Members) → MembersHaveTokens ms → MembersHaveTokens (mended_members ms)
  members_tokens no_members h = tt
  members_tokens (member n v ms) h = (string_mended n h.0, mended_tokens v h.1, members_tokens ms h.2)

mutual
  pub mended_again : (v : Value) → HasTokens v → mended (mended v) ≡ mended v
  mended_again (token t) h = ap token (token_once t h)
  mended_again (array vs) h = ap array (items_again vs h)
  mended_again (object ms) h = ap object (members_again ms h)

  items_again : (vs : Items) → ItemsHaveTokens vs → mended_items (mended_items vs) ≡ mended_items vs
  items_again no_items h = refl
  items_again (item v vs) h = ap (λ w. item w (mended_items (mended_items vs))) (mended_again v h.0) ∙ ap (item (mended v)) (items_again vs h.1)

  members_again : (ms : Members) → MembersHaveTokens ms → mended_members (mended_members ms) ≡ mended_members ms
  members_again no_members h = refl
  members_again (member n v ms) h =
      ap (λ l. member l (mended (mended v)) (mended_members (mended_members ms))) (string_once n h.0)
      ∙ (ap (λ w. member (mend n) w (mended_members (mended_members ms))) (mended_again v h.1) ∙ ap (member (mend n) (mended v)) (members_again ms h.2))

mutual
  pub mended_depth : (v : Value) → depth (mended v) ≡ depth v
  mended_depth (token t) = refl
  mended_depth (array vs) = ap suc (items_depth vs)
  mended_depth (object ms) = ap suc (members_depth ms)

  items_depth : (vs : Items) → depth_items (mended_items vs) ≡ depth_items vs
  items_depth no_items = refl
  items_depth (item v vs) = ap (λ k. max k (depth_items (mended_items vs))) (mended_depth v) ∙ ap (max (depth v)) (items_depth vs)

  members_depth : (ms : Members) → depth_members (mended_members ms) ≡ depth_members ms
  members_depth no_members = refl
  members_depth (member n v ms) = ap (λ k. max k (depth_members (mended_members ms))) (mended_depth v) ∙ ap (max (depth v)) (members_depth ms)

comma_length : (later : Bool) (xs ys : List ℕ) → length xs ≡ length ys → length (comma_if later ++ xs) ≡ length (comma_if later ++ ys)
comma_length true xs ys e = ap suc e
comma_length false xs ys e = e

mutual
  pub mended_length : (v : Value) → length (flat (mended v)) ≡ length (flat v)
  mended_length (token t) = behind_length [] t
  mended_length (array vs) = ap suc (items_length vs false)
  mended_length (object ms) = ap suc (members_length ms false)

  items_length : (vs : Items) (later : Bool) → length (flat_items later (mended_items vs)) ≡ length (flat_items later vs)
  items_length no_items later = refl
  items_length (item v vs) later =
      let one = mended_length v in
      let more = items_length vs true in
      comma_length later (flat (mended v) ++ flat_items true (mended_items vs)) (flat v ++ flat_items true vs)
      (omega (arith, length-append (flat (mended v)) (flat_items true (mended_items vs)), length-append (flat v) (flat_items true vs), one, more))

  members_length : (ms : Members) (later : Bool) → length (flat_members later (mended_members ms)) ≡ length (flat_members later ms)
  members_length no_members later = refl
  members_length (member n v ms) later =
      let name = behind_length [] n in
      let one = mended_length v in
      let more = members_length ms true in
      comma_length later (mend n ++ (58 ∷ (flat (mended v) ++ flat_members true (mended_members ms)))) (n ++ (58 ∷ (flat v ++ flat_members true ms)))
      (omega (arith, length-append (mend n) (58 ∷ (flat (mended v) ++ flat_members true (mended_members ms))), length-append n (58 ∷ (flat v ++ flat_members true ms)), length-append (flat (mended v)) (flat_members true (mended_members ms)), length-append (flat v) (flat_members true ms), name, one, more))
