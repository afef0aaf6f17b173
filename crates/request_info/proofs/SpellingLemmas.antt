-- What is spelled is what `percent_decode` gives.
use Rattle.std.proofs.Common.{◌≡◌, ◌≢◌, ℕ, ◌+◌, ◌*◌, ◌-◌, ◌<◌, ◌≤◌, ◌==◌, ◌⊎◌, inl, inr, Bool, true, false, cond, nat_lt, List, [], ◌∷◌, ◌++◌, if◌then◌else◌, Option, Some, None, refl, sym, ap, ◌∙◌, ◌&&◌, arith}
use Rattle.std.specs.Char.{is_ascii_hexdigit, digit_value, is_digit}
use Rattle.std.specs.Str.{is_utf8}
use Rattle.std.proofs.lemmas.Bool.Decides.{nat_tests}
use Rattle.std.proofs.lemmas.Bool.{cond-true, cond-false}
use Rattle.percent_encoding.specs.Percent.{percent_decode, is_escape}
use Rattle.request_info.specs.Spelling.{IsHexDigit, SpellsByte, Spells}
use Rattle.request_info.specs.Target.{owed_after, are_escapes_whole, decoded}

both : (t u : Bool) → (t && u) ≡ true → (t ≡ true) × (u ≡ true)
both true u e = (refl, e)
both false u e = absurd (cc e)

join : (t u : Bool) → t ≡ true → u ≡ true → (t && u) ≡ true
join t u e f = rw (e, f) refl

-- ---- digits

hex_value : (c : ℕ) → is_ascii_hexdigit c ≡ true → IsHexDigit c (digit_value c) × (is_digit c 16 ≡ true)
hex_value c h = (by_digit (nat_lt c 58) refl, grind (arith, nat_tests, h))
  where
    by_case : (t : Bool) → nat_lt c 71 ≡ t → nat_lt c 58 ≡ false → (c ≡ 55 + digit_value c) ⊎ (c ≡ 87 + digit_value c)
    by_case true e f = inl (grind (arith, nat_tests, h, e, f))
    by_case false e f = inr (grind (arith, nat_tests, h, e, f))

    by_digit : (t : Bool) → nat_lt c 58 ≡ t → IsHexDigit c (digit_value c)
    by_digit true e = inl (grind (arith, nat_tests, h, e), grind (arith, nat_tests, h, e))
    by_digit false e = inr (grind (arith, nat_tests, h, e), grind (arith, nat_tests, h, e), by_case (nat_lt c 71) refl e)

hex_of : (c v : ℕ) → IsHexDigit c v → (digit_value c ≡ v) × (is_digit c 16 ≡ true) × (is_ascii_hexdigit c ≡ true)
hex_of c v (inl p) = (grind (arith, nat_tests, p.0, p.1), grind (arith, nat_tests, p.0, p.1), grind (arith, nat_tests, p.0, p.1))
hex_of c v (inr (p, q, inl e)) = (grind (arith, nat_tests, p, q, e), grind (arith, nat_tests, p, q, e), grind (arith, nat_tests, p, q, e))
hex_of c v (inr (p, q, inr e)) = (grind (arith, nat_tests, p, q, e), grind (arith, nat_tests, p, q, e), grind (arith, nat_tests, p, q, e))

-- ---- steps

whole_plain : (b : ℕ) (rest : List ℕ) → (b == 37) ≡ false → are_escapes_whole 0 (b ∷ rest) ≡ are_escapes_whole 0 rest
unfolding are_escapes_whole
whole_plain b rest e = rw e refl

whole_nil : are_escapes_whole 0 [] ≡ true
unfolding are_escapes_whole
whole_nil = refl

whole_one : are_escapes_whole 0 (37 ∷ []) ≡ false
unfolding are_escapes_whole
whole_one = refl

whole_two : (c : ℕ) → are_escapes_whole 0 (37 ∷ c ∷ []) ≡ (is_ascii_hexdigit c && false)
unfolding are_escapes_whole
whole_two c = refl

whole_escape : (c d : ℕ) (rest : List ℕ)
    → are_escapes_whole 0 (37 ∷ c ∷ d ∷ rest) ≡ (is_ascii_hexdigit c && (is_ascii_hexdigit d && are_escapes_whole 0 rest))
unfolding are_escapes_whole
whole_escape c d rest = refl

decode_nil : percent_decode [] ≡ []
unfolding percent_decode
decode_nil = refl

decode_plain : (b : ℕ) (rest : List ℕ) → (b == 37) ≡ false → percent_decode (b ∷ rest) ≡ b ∷ percent_decode rest
unfolding percent_decode
decode_plain b [] e = refl
decode_plain b (c ∷ []) e = refl
decode_plain b (c ∷ d ∷ rest) e = rw e refl

decode_escape : (c d : ℕ) (rest : List ℕ) → is_digit c 16 ≡ true → is_digit d 16 ≡ true
    → percent_decode (37 ∷ c ∷ d ∷ rest) ≡ (16 * digit_value c + digit_value d) ∷ percent_decode rest
unfolding percent_decode
decode_escape c d rest e f = rw (e, f) refl

-- ---- both directions

not_percent : (b : ℕ) → (b == 37) ≡ false → b ≢ 37
not_percent b e = λ same. grind (arith, nat_tests, e, same)

is_not_percent : (b : ℕ) → b ≢ 37 → (b == 37) ≡ false
is_not_percent b h = grind (arith, nat_tests, h)

spells_plain : (b : ℕ) (rest bytes : List ℕ) → (b == 37) ≡ false → Spells bytes rest → Spells (b ∷ bytes) (b ∷ rest)
spells_plain b rest bytes e h = (b ∷ [], rest, refl, inl (not_percent b e, refl), h)

spells_escape : (c d : ℕ) (rest bytes : List ℕ) → is_ascii_hexdigit c ≡ true → is_ascii_hexdigit d ≡ true → Spells bytes rest
    → Spells ((16 * digit_value c + digit_value d) ∷ bytes) (37 ∷ c ∷ d ∷ rest)
spells_escape c d rest bytes e f h = (
  37 ∷ c ∷ d ∷ [],
  rest,
  refl,
  inr (c, d, digit_value c, digit_value d, (hex_value c e).0, (hex_value d f).0, refl, refl),
  h,
)

pub whole_spells : (s : List ℕ) → are_escapes_whole 0 s ≡ true → Spells (percent_decode s) s
whole_spells [] w = rw decode_nil refl
whole_spells (b ∷ []) w = by_sign (b == 37) refl
  where
    by_sign : (t : Bool) → (b == 37) ≡ t → Spells (percent_decode (b ∷ [])) (b ∷ [])
    by_sign false e = rw (decode_plain b [] e, decode_nil) (spells_plain b [] [] e refl)
    by_sign true e =
        let sign : b ≡ 37 = grind (arith, nat_tests, e) in
        absurd (cc (sym w ∙ ap (λ x. are_escapes_whole 0 (x ∷ [])) sign ∙ whole_one))
whole_spells (b ∷ c ∷ []) w = by_sign (b == 37) refl (λ d. whole_spells (c ∷ []) d)
  where
    never : (t : Bool) → (t && false) ≡ false
    never true = refl
    never false = refl

    by_sign : (t : Bool) → (b == 37) ≡ t → (are_escapes_whole 0 (c ∷ []) ≡ true → Spells (percent_decode (c ∷ [])) (c ∷ []))
        → Spells (percent_decode (b ∷ c ∷ [])) (b ∷ c ∷ [])
    by_sign false e next =
        rw (decode_plain b (c ∷ []) e) (spells_plain b (c ∷ []) _ e (next (sym (whole_plain b (c ∷ []) e) ∙ w)))
    by_sign true e next =
        let sign : b ≡ 37 = grind (arith, nat_tests, e) in
        absurd (cc (sym w ∙ ap (λ x. are_escapes_whole 0 (x ∷ c ∷ [])) sign ∙ whole_two c ∙ never (is_ascii_hexdigit c)))
whole_spells (b ∷ c ∷ d ∷ rest) w = by_sign (b == 37) refl (λ e. whole_spells (c ∷ d ∷ rest) e) (λ e. whole_spells rest e)
  where
    by_sign : (t : Bool) → (b == 37) ≡ t
        → (are_escapes_whole 0 (c ∷ d ∷ rest) ≡ true → Spells (percent_decode (c ∷ d ∷ rest)) (c ∷ d ∷ rest))
        → (are_escapes_whole 0 rest ≡ true → Spells (percent_decode rest) rest)
        → Spells (percent_decode (b ∷ c ∷ d ∷ rest)) (b ∷ c ∷ d ∷ rest)
    by_sign false e next after =
        rw (decode_plain b (c ∷ d ∷ rest) e)
        (spells_plain b (c ∷ d ∷ rest) _ e (next (sym (whole_plain b (c ∷ d ∷ rest) e) ∙ w)))
    by_sign true e next after =
        let sign : b ≡ 37 = grind (arith, nat_tests, e) in
        let digits = both _ _ (sym (whole_escape c d rest) ∙ ap (λ x. are_escapes_whole 0 (x ∷ c ∷ d ∷ rest)) (sym sign) ∙ w) in
        let more = both _ _ digits.1 in
        rw (sign, decode_escape c d rest (hex_value c digits.0).1 (hex_value d more.0).1)
        (spells_escape c d rest (percent_decode rest) digits.0 more.0 (after more.1))

pub spells_whole : (bytes text : List ℕ) → Spells bytes text → (percent_decode text ≡ bytes) × (are_escapes_whole 0 text ≡ true)
spells_whole [] text e = rw e (decode_nil, whole_nil)
spells_whole (b ∷ bytes) text (piece, rest, e, inl p, h) =
    let ih = spells_whole bytes rest h in
    let plain = is_not_percent b p.0 in
    let is : text ≡ b ∷ rest = e ∙ ap (λ x. x ++ rest) p.1 in
    rw is (decode_plain b rest plain ∙ ap (λ x. b ∷ x) ih.0, whole_plain b rest plain ∙ ih.1)
spells_whole (b ∷ bytes) text (piece, rest, e, inr (c, d, high, low, hc, hd, value, p), h) =
    let ih = spells_whole bytes rest h in
    let one = hex_of c high hc in
    let two = hex_of d low hd in
    let is : text ≡ 37 ∷ c ∷ d ∷ rest = e ∙ ap (λ x. x ++ rest) p in
    let same : 16 * digit_value c + digit_value d ≡ b = omega (arith, one.0, two.0, value) in
    rw is (
      decode_escape c d rest one.1 two.1 ∙ ap (λ x. x ∷ percent_decode rest) same ∙ ap (λ x. b ∷ x) ih.0,
      whole_escape c d rest ∙ join _ _ one.2 (join _ _ two.2 ih.1),
    )

-- ---- the text of a path

some_is : {A : Type 0} (t : Bool) (a b : A) → (if t then Some a else None) ≡ Some b → (t ≡ true) × (a ≡ b)
some_is true a b e = (refl, cc e)
some_is false a b e = absurd (cc e)

pub decoded_spells : (s path : List ℕ) → decoded s ≡ Some path → Spells path s × (is_utf8 path ≡ true)
decoded_spells s path e =
    let is = some_is (are_escapes_whole 0 s && is_utf8 (percent_decode s)) (percent_decode s) path e in
    let parts = both _ _ is.0 in
    (rw (← is.1) (whole_spells s parts.0), ap is_utf8 (sym is.1) ∙ parts.1)

pub spells_decoded : (s path : List ℕ) → Spells path s → is_utf8 path ≡ true → decoded s ≡ Some path
spells_decoded s path h utf8 =
    let is = spells_whole path s h in
    cond-true _ _ _ (join _ _ is.1 (ap is_utf8 is.0 ∙ utf8)) ∙ ap (λ x. Some x) is.0
