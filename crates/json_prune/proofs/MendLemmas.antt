-- What is mended of a text, byte after byte.
use Rattle.std.proofs.Common.{◌≡◌, ℕ, zero, suc, ◌+◌, ◌-◌, ◌≤◌, ◌<◌, ◌∷◌, [], ◌++◌, List, length, take, drop, get_or, Bool, true, false, cond, codes, refl, sym, ap, ◌∙◌, subst, inl, inr, arith, min, append_assoc, length-drop, length-take}
use Rattle.std.specs.Prelude.{◌==◌, ◌||◌, ◌⊎◌}
use Rattle.std.proofs.Math.Seq.{take-add, drop-cons}
use Rattle.std.proofs.lemmas.List.{append-nil, get_or-drop, take_all, drop_all, drop-drop, length-take-le, take_more, take_rest}
use Rattle.std.proofs.lemmas.Slice.{take-put_mid, drop-put_mid}
use Rattle.std.proofs.lemmas.Bool.{cases_lt}
use Rattle.std.proofs.lemmas.Bool.Decides.{nat_tests}
use borrow.Rule.Slice.PartMut.{put_mid}
use Rattle.memchr.specs.Find.{Nowhere, Passes, is_byte}
use Rattle.json_span.specs.Strings.{is, is_hex}
use Rattle.json_prune.specs.Mend.{is_d, is_high_digit, is_low_digit, begins, high, low, pair, instead, mend_behind, mend}
use Rattle.json_prune.proofs.HalfLemmas.{begins_long, both_true}

or_true : (c : Bool) → (c || true) ≡ true
or_true true = refl
or_true false = refl

-- the replacement is written, and what follows it is mended
pub behind_over : (rs xs : List ℕ) → length rs ≤ length xs → mend_behind rs xs ≡ rs ++ mend (drop (length rs) xs)
behind_over [] xs h = refl
behind_over (r ∷ rs) [] h = absurd (omega (arith, h))
behind_over (r ∷ rs) (x ∷ xs) h = ap (λ l. r ∷ l) (behind_over rs xs (omega (arith, h)))

pub behind_length : (rs xs : List ℕ) → length (mend_behind rs xs) ≡ length xs
behind_length [] [] = refl
behind_length (r ∷ rs) [] = refl
behind_length (r ∷ rs) (x ∷ xs) = ap suc (behind_length rs xs)
behind_length [] (x ∷ xs) = ap suc (behind_length (cond (x == 92) (instead xs) []) xs)

pub mend_plain : (b : ℕ) (bs : List ℕ) → (b == 92) ≡ false → mend (b ∷ bs) ≡ b ∷ mend bs
mend_plain b bs e = ap (λ c. b ∷ mend_behind (cond c (instead bs) []) bs) e

mend_here : (text : List ℕ) (at : ℕ) → at < length text → get_or text at 0 ≡ 92 → mend (drop at text) ≡ 92 ∷ mend_behind (instead (drop (suc at) text)) (drop (suc at) text)
mend_here text at h e = ap mend (drop-cons text at 0 h) ∙ ap (λ b. b ∷ mend_behind (cond (b == 92) (instead (drop (suc at) text)) []) (drop (suc at) text)) e

-- ---- runs without a backslash

pub plain_on : (text all : List ℕ) (at : ℕ) → at < length text → ¬ (get_or text at 0 ≡ 92) → take at text ++ mend (drop at text) ≡ all → take (at + 1) text ++ mend (drop (at + 1) text) ≡ all
plain_on text all at h e sum =
    let test : (get_or text at 0 == 92) ≡ false = grind (arith, nat_tests) in
    let next : at + 1 ≡ suc at = omega arith in
    ap (λ l. l ++ mend (drop (at + 1) text)) (take_more text at 0 h)
    ∙ (append_assoc (take at text) (get_or text at 0 ∷ []) (mend (drop (at + 1) text))
    ∙ (ap (λ i. take at text ++ (get_or text at 0 ∷ mend (drop i text))) next
    ∙ (ap (λ l. take at text ++ l) (sym (ap mend (drop-cons text at 0 h) ∙ mend_plain (get_or text at 0) (drop (suc at) text) test)) ∙ sum)))

bytes_on : (text all : List ℕ) (at n : ℕ) → at + n ≤ length text → ((k : ℕ) → k < n → ¬ (get_or text (at + k) 0 ≡ 92)) → take at text ++ mend (drop at text) ≡ all → take (at + n) text ++ mend (drop (at + n) text) ≡ all
bytes_on text all at zero within none sum = let here : at + 0 ≡ at = omega arith in ap (λ i. take i text ++ mend (drop i text)) here ∙ sum
bytes_on text all at (suc n) within none sum =
    let there : at + suc n ≡ at + n + 1 = omega arith in
    ap (λ i. take i text ++ mend (drop i text)) there
    ∙ plain_on text all (at + n) (omega (arith, within)) (none n (omega arith)) (bytes_on text all at n (omega (arith, within)) (λ k h. none k (omega (arith, h))) sum)

-- what a search of the bytes from a place on passed over
pub run_on : (text : List ℕ) (from n end : ℕ) → from ≤ length text → n ≤ length (take (length text - from) (drop from text)) → end ≡ from + n → Nowhere (Passes (is_byte 92) (take (length text - from) (drop from text))) 0 n →
    take end text ++ mend (drop end text) ≡ take from text ++ mend (drop from text)
run_on text from n end within few here passed =
    ap (λ i. take i text ++ mend (drop i text)) here
    ∙ bytes_on text (take from text ++ mend (drop from text)) from n (omega (arith, within, few, length-take (length text - from) (drop from text), length-drop from text))
    (λ k below is. passed k (omega arith) below (ap (λ l. get_or l k 0 == 92) (take_rest text from) ∙ (ap (λ b. b == 92) (get_or-drop from text k 0 ∙ is)))) refl

-- ---- an escape

-- what stands there, with what is written for it
escape_over : (text rs : List ℕ) (at : ℕ) → at < length text → get_or text at 0 ≡ 92 → instead (drop (suc at) text) ≡ rs → length rs ≤ length (drop (suc at) text) →
    (take at text ++ 92 ∷ rs) ++ mend (drop (suc at + length rs) text) ≡ take at text ++ mend (drop at text)
escape_over text rs at h e is fits =
    append_assoc (take at text) (92 ∷ rs) (mend (drop (suc at + length rs) text))
    ∙ ap (λ l. take at text ++ l)
    (sym (mend_here text at h e
    ∙ (ap (λ l. 92 ∷ mend_behind l (drop (suc at) text)) is
    ∙ (ap (λ l. 92 ∷ l) (behind_over rs (drop (suc at) text) fits) ∙ ap (λ l. 92 ∷ (rs ++ mend l)) (drop-drop (length rs) (suc at) text)))))

-- bytes that stay
taken : (text : List ℕ) (at n : ℕ) → at < length text → get_or text at 0 ≡ 92 → take (suc at + n) text ≡ take at text ++ 92 ∷ take n (drop (suc at) text)
taken text at n h e =
    let sum : suc at + n ≡ at + suc n = omega arith in
    ap (λ k. take k text) sum ∙ (take-add at (suc n) text ∙ ap (λ l. take at text ++ l) (ap (take (suc n)) (drop-cons text at 0 h) ∙ ap (λ b. b ∷ take n (drop (suc at) text)) e))

stays : (text : List ℕ) (at n : ℕ) → at < length text → get_or text at 0 ≡ 92 → instead (drop (suc at) text) ≡ take n (drop (suc at) text) → n ≤ length (drop (suc at) text) →
    take (suc at + n) text ++ mend (drop (suc at + n) text) ≡ take at text ++ mend (drop at text)
stays text at n h e is fits =
    let size : length (take n (drop (suc at) text)) ≡ n = length-take-le n (drop (suc at) text) fits in
    ap (λ l. l ++ mend (drop (suc at + n) text)) (taken text at n h e)
    ∙ (ap (λ k. (take at text ++ 92 ∷ take n (drop (suc at) text)) ++ mend (drop (suc at + k) text)) (sym size)
    ∙ escape_over text (take n (drop (suc at) text)) at h e is (omega (arith, size, fits)))

-- what a test says of the bytes behind the backslash
behind_slash : (text : List ℕ) (at : ℕ) (f : List ℕ → Bool) (r c : Bool) → r ≡ f (take (length text - (at + 1)) (drop (at + 1) text)) → r ≡ c → f (drop (at + 1) text) ≡ c
behind_slash text at f r c is e = ap f (sym (take_rest text (at + 1))) ∙ (sym is ∙ e)

pub pair_stays : (text : List ℕ) (at : ℕ) (r : Bool) → at < length text → get_or text at 0 ≡ 92 → r ≡ begins pair (take (length text - (at + 1)) (drop (at + 1) text)) → r ≡ true →
    (at + 12 ≤ length text) × (take (at + 12) text ++ mend (drop (at + 12) text) ≡ take at text ++ mend (drop at text))
pair_stays text at r h e tested holds =
    let is = behind_slash text at (begins pair) r true tested holds in
    let there : suc at ≡ at + 1 = omega arith in
    let test : begins pair (drop (suc at) text) ≡ true = ap (λ i. begins pair (drop i text)) there ∙ is in
    let long = begins_long pair (drop (suc at) text) test in
    let same : instead (drop (suc at) text) ≡ take 11 (drop (suc at) text) = ap (λ c. cond c (take 11 (drop (suc at) text)) (cond (begins high (drop (suc at) text) || begins low (drop (suc at) text)) (codes "ufffd") (take 1 (drop (suc at) text)))) test in
    let end : at + 12 ≡ suc at + 11 = omega arith in
    (omega (arith, long, length-drop (suc at) text), ap (λ i. take i text ++ mend (drop i text)) end ∙ stays text at 11 h e same (omega (arith, long)))

abbrev IsHalf : List ℕ → Type 0
IsHalf xs = (begins high xs ≡ true) ⊎ (begins low xs ≡ true)

half_there : (text : List ℕ) (at : ℕ) → IsHalf (drop (at + 1) text) → IsHalf (drop (suc at) text)
half_there text at h = let there : at + 1 ≡ suc at = omega arith in subst (λ i. IsHalf (drop i text)) there h

either_half : (xs : List ℕ) → IsHalf xs → (begins high xs || begins low xs) ≡ true
either_half xs (inl h) = ap (λ c. c || begins low xs) h
either_half xs (inr h) = ap (λ c. begins high xs || c) h ∙ or_true (begins high xs)

half_long : (xs : List ℕ) → IsHalf xs → 5 ≤ length xs
half_long xs (inl h) = begins_long high xs h
half_long xs (inr h) = begins_long low xs h

first_letter : (ps : List (ℕ → Bool)) (xs : List ℕ) → begins (is 117 ∷ ps) xs ≡ true → get_or xs 0 0 ≡ 117
first_letter ps [] h = absurd (cc h)
first_letter ps (x ∷ xs) h = let test : (x == 117) ≡ true = (both_true (x == 117) (begins ps xs) h).0 in grind (arith, nat_tests)

half_letter : (text : List ℕ) (at : ℕ) → IsHalf (drop (suc at) text) → get_or text (at + 1) 0 ≡ 117
half_letter text at h =
    let there : at + 1 ≡ suc at + 0 = omega arith in
    ap (λ i. get_or text i 0) there ∙ (sym (get_or-drop (suc at) text 0 0) ∙ by_half h)
  where
    by_half : IsHalf (drop (suc at) text) → get_or (drop (suc at) text) 0 0 ≡ 117
    by_half (inl k) = first_letter (is_d ∷ is_high_digit ∷ is_hex ∷ is_hex ∷ []) (drop (suc at) text) k
    by_half (inr k) = first_letter (is_d ∷ is_low_digit ∷ is_hex ∷ is_hex ∷ []) (drop (suc at) text) k

by_or : (xs : List ℕ) (a b : Bool) → (begins high xs ≡ a) → (begins low xs ≡ b) → (a || b) ≡ true → IsHalf xs
by_or xs true b h k e = inl h
by_or xs false b h k e = inr (k ∙ e)

no_or : (a b : Bool) → (a || b) ≡ false → (a ≡ false) × (b ≡ false)
no_or false b e = (refl, e)
no_or true b e = absurd (cc e)

-- an escape of half a pair is replaced
pub half_written : (text new : List ℕ) (at : ℕ) (r s : Bool) → at < length text → get_or text at 0 ≡ 92 → r ≡ begins pair (take (length text - (at + 1)) (drop (at + 1) text)) → r ≡ false →
    s ≡ (begins high (take (length text - (at + 1)) (drop (at + 1) text)) || begins low (take (length text - (at + 1)) (drop (at + 1) text))) → s ≡ true → new ≡ put_mid (at + 2) 4 text (codes "fffd") →
    (at + 6 ≤ length text) × (take (at + 6) new ++ mend (drop (at + 6) text) ≡ take at text ++ mend (drop at text)) × (drop (at + 6) new ≡ drop (at + 6) text)
half_written text new at r s h e tested_pair not_pair tested_half holds wrote =
    let no_pair = behind_slash text at (begins pair) r false tested_pair not_pair in
    let is : IsHalf (drop (at + 1) text) = by_or (drop (at + 1) text) (begins high (drop (at + 1) text)) (begins low (drop (at + 1) text)) refl refl (behind_slash text at (λ l. begins high l || begins low l) s true tested_half holds) in
    let xs : List ℕ = drop (suc at) text in
    let there : suc at ≡ at + 1 = omega arith in
    let none : begins pair xs ≡ false = ap (λ i. begins pair (drop i text)) there ∙ no_pair in
    let half : (begins high xs || begins low xs) ≡ true = either_half xs (half_there text at is) in
    let long : 5 ≤ length xs = half_long xs (half_there text at is) in
    let letter : get_or text (at + 1) 0 ≡ 117 = half_letter text at (half_there text at is) in
    let same : instead xs ≡ codes "ufffd" = ap (λ c. cond c (take 11 xs) (cond (begins high xs || begins low xs) (codes "ufffd") (take 1 xs))) none ∙ ap (λ c. cond c (codes "ufffd") (take 1 xs)) half in
    let size : length xs ≡ length text - suc at = length-drop (suc at) text in
    let within : at + 6 ≤ length text = omega (arith, long, size) in
    let end : at + 6 ≡ suc at + 5 = omega arith in
    let front : take (at + 2) text ≡ take at text ++ 92 ∷ 117 ∷ [] =
    take-add at 2 text ∙ ap (λ l. take at text ++ l) (ap (take 2) (drop-cons text at 0 h) ∙ (ap (λ b. b ∷ take 1 xs) e ∙ ap (λ l. 92 ∷ take 1 l) (drop-cons text (suc at) 0 (omega (arith, within))) ∙ ap (λ b. 92 ∷ b ∷ []) (ap (λ i. get_or text i 0) there ∙ letter))) in
    let written : take (at + 6) new ≡ take at text ++ 92 ∷ codes "ufffd" =
    ap (take (at + 6)) wrote ∙ (take-put_mid (at + 2) 4 text (codes "fffd") (at + 6) (omega arith) (omega (arith, within)) ∙ (ap (λ l. l ++ codes "fffd") front ∙ append_assoc (take at text) (92 ∷ 117 ∷ []) (codes "fffd"))) in (
      within,
      ap (λ l. l ++ mend (drop (at + 6) text)) written ∙ (ap (λ i. (take at text ++ 92 ∷ codes "ufffd") ++ mend (drop i text)) end ∙ escape_over text (codes "ufffd") at h e same (omega (arith, long))),
      ap (drop (at + 6)) wrote ∙ drop-put_mid (at + 2) 4 text (codes "fffd") (at + 6) (omega arith) (omega (arith, within)) refl,
    )

-- any other escape stays
pub other_stays : (text : List ℕ) (at next : ℕ) (r s : Bool) → at < length text → get_or text at 0 ≡ 92 → r ≡ begins pair (take (length text - (at + 1)) (drop (at + 1) text)) → r ≡ false →
    s ≡ (begins high (take (length text - (at + 1)) (drop (at + 1) text)) || begins low (take (length text - (at + 1)) (drop (at + 1) text))) → s ≡ false → next ≡ min (length text) (at + 2) → take next text ++ mend (drop next text) ≡ take at text ++ mend (drop at text)
other_stays text at next r s h e tested_pair not_pair tested_half not_half is =
    let no_pair = behind_slash text at (begins pair) r false tested_pair not_pair in
    let neither = no_or (begins high (drop (at + 1) text)) (begins low (drop (at + 1) text)) (behind_slash text at (λ l. begins high l || begins low l) s false tested_half not_half) in
    let no_high = neither.0 in
    let no_low = neither.1 in
    let xs : List ℕ = drop (suc at) text in
    let there : suc at ≡ at + 1 = omega arith in
    let none : begins pair xs ≡ false = ap (λ i. begins pair (drop i text)) there ∙ no_pair in
    let none_high : begins high xs ≡ false = ap (λ i. begins high (drop i text)) there ∙ no_high in
    let none_low : begins low xs ≡ false = ap (λ i. begins low (drop i text)) there ∙ no_low in
    let same : instead xs ≡ take 1 xs =
    ap (λ c. cond c (take 11 xs) (cond (begins high xs || begins low xs) (codes "ufffd") (take 1 xs))) none
    ∙ (ap (λ c. cond (c || begins low xs) (codes "ufffd") (take 1 xs)) none_high ∙ ap (λ c. cond c (codes "ufffd") (take 1 xs)) none_low) in
    let size : length xs ≡ length text - suc at = length-drop (suc at) text in
    elim (cases_lt (at + 1) (length text)) [
      | inl more ↦
          let end : next ≡ suc at + 1 = omega (arith, is, more) in
          ap (λ i. take i text ++ mend (drop i text)) end ∙ stays text at 1 h e same (omega (arith, more, size))
      | inr last ↦
          let end : next ≡ length text = omega (arith, is, last) in
          let nothing : xs ≡ [] = drop_all (suc at) text (omega (arith, last)) in
          let whole : take next text ≡ take at text ++ 92 ∷ [] =
          ap (λ i. take i text) (omega (arith, end, h, last)) ∙ (taken text at 0 h e) in
          ap (λ l. l ++ mend (drop next text)) whole ∙ (ap (λ l. (take at text ++ 92 ∷ []) ++ mend l) (drop_all next text (omega (arith, end)))
          ∙ (append_assoc (take at text) (92 ∷ []) [] ∙ ap (λ l. take at text ++ l) (sym (mend_here text at h e ∙ ap (λ l. 92 ∷ mend_behind (instead l) l) nothing))))
    ]

-- ---- all of a text

-- from one escape to the next
pub mended_on : (old new all : List ℕ) (at end next : ℕ) → take at old ++ mend (drop at old) ≡ all → take end new ++ mend (drop end old) ≡ take at old ++ mend (drop at old) → drop end new ≡ drop end old →
    take next new ++ mend (drop next new) ≡ take end new ++ mend (drop end new) → take next new ++ mend (drop next new) ≡ all
mended_on old new all at end next sum escape same plain = plain ∙ (ap (λ l. take end new ++ mend l) same ∙ (escape ∙ sum))

pub mended_all : (new all : List ℕ) (at : ℕ) → length new ≤ at → take at new ++ mend (drop at new) ≡ all → new ≡ all
mended_all new all at past sum =
    sym (ap (λ l. l ++ mend (drop at new)) (take_all at new past) ∙ (ap (λ l. new ++ mend l) (drop_all at new past) ∙ append-nil new)) ∙ sum
