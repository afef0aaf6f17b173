-- Size lines, read back from their end.
use Rattle.std.proofs.Common.{◌≡◌, ℕ, ◌+◌, ◌*◌, ◌<◌, ◌≤◌, ◌⊎◌, inl, inr, ◌==◌, ◌∷◌, [], ◌++◌}
use Rattle.std.proofs.Common.{List, length, Bool, true, false, not, ◌&&◌, nat_lt, refl, sym, ap, ◌∙◌, subst, arith}
use Rattle.std.proofs.Common.{append_assoc, cond}
use Rattle.std.specs.List.{list_all}
use Rattle.std.proofs.lemmas.Bool.Decides.{nat_tests}
use Rattle.body_frames.specs.declared.frame.BodyFault.TheVariants.{BadChunk}
use Rattle.body_frames.specs.declared.place.Mode.{Mode}
use Rattle.body_frames.specs.declared.place.Mode.TheVariants.{Digits, Blank, Extension, LineFeed, Broken}
use Rattle.body_frames.specs.Machine.{next_mode, after_digits}
use Rattle.body_frames.specs.Chunks.{digit_value, is_blank, is_hex, value_of, is_extension_byte, IsExtension}
use Rattle.body_frames.specs.Chunks.{Line, print_line, IsLine}

-- what may come after a size line of so many bytes, and what of it is the body's
abbrev pub After : Type 1
After = ℕ → List ℕ → List ℕ → Type 0

pub record GoodExtension (K : After) (line size : ℕ) (xs body : List ℕ) : Type 0 where
  pub bytes : List ℕ
  pub rest : List ℕ
  pub ok : list_all is_extension_byte bytes ≡ true
  pub short : line + length bytes ≤ 254
  pub split : xs ≡ bytes ++ 13 ∷ 10 ∷ rest
  pub good : K size rest body

pub record GoodTail (K : After) (line size : ℕ) (xs body : List ℕ) : Type 0 where
  pub blanks : List ℕ
  pub extension : List ℕ
  pub rest : List ℕ
  pub gap : list_all is_blank blanks ≡ true
  pub ext : IsExtension extension
  pub short : line + length blanks + length extension ≤ 254
  pub split : xs ≡ blanks ++ (extension ++ 13 ∷ 10 ∷ rest)
  pub good : K size rest body

pub record GoodDigits (K : After) (line size : ℕ) (xs body : List ℕ) : Type 0 where
  pub digits : List ℕ
  pub after : List ℕ
  pub some : 0 < line + length digits
  pub few : line + length digits ≤ 16
  pub hex : list_all is_hex digits ≡ true
  pub split : xs ≡ digits ++ after
  pub tail : GoodTail K (line + length digits) (value_of size digits) after body

-- from within a size line, its end and what comes after it
abbrev pub InLine : After → Mode → List ℕ → List ℕ → Type 0
InLine K (Digits line size) xs body = GoodDigits K line size xs body
InLine K (Blank line size) xs body = GoodTail K line size xs body
InLine K (Extension line size) xs body = GoodExtension K line size xs body
InLine K (LineFeed size) xs body = (rest : List ℕ) × (xs ≡ 10 ∷ rest) × K size rest body
InLine K _ xs body = ⊥

which : (K : After) (t : Bool) (m n : Mode) (xs body : List ℕ) → InLine K (cond t m n) xs body
    → ((t ≡ true) × InLine K m xs body) ⊎ ((t ≡ false) × InLine K n xs body)
which K true m n xs body h = inl (refl, h)
which K false m n xs body h = inr (refl, h)

pub both_true : (t u : Bool) → t && u ≡ true → (t ≡ true) × (u ≡ true)
both_true true u e = (refl, e)
both_true false u e = absurd (cc e)

pub same_byte : (b n : ℕ) → b == n ≡ true → b ≡ n
same_byte b n e = grind (arith, nat_tests)

pub lower : (a b : ℕ) → nat_lt a b ≡ true → a < b
lower a b e = grind (arith, nat_tests)

-- a size line before what comes after it
pub record GoodLine (size : ℕ) (xs : List ℕ) (rest : List ℕ) : Type 0 where
  pub line : Line
  pub is : IsLine line size
  pub split : xs ≡ print_line line ++ rest

pub line_of : (K : After) (xs body : List ℕ) → GoodDigits K 0 0 xs body
    → (size : ℕ) × (rest : List ℕ) × GoodLine size xs rest × K size rest body
line_of K xs body h =
    let l : Line = record { digits = h.digits; blanks = h.tail.blanks; extension = h.tail.extension } in (
      value_of 0 h.digits,
      h.tail.rest,
      record {
        line = l;
        is = record {
          some = omega (arith, h.some);
          few = omega (arith, h.few);
          hex = h.hex;
          gap = h.tail.gap;
          extension = h.tail.ext;
          short = omega (arith, h.tail.short);
          value = refl;
        };
        split = h.split ∙ ap (λ r. h.digits ++ r) h.tail.split
            ∙ regroup h.digits h.tail.blanks h.tail.extension h.tail.rest;
      },
      h.tail.good,
    )
  where
    regroup : (a b c r : List ℕ) → a ++ (b ++ (c ++ 13 ∷ 10 ∷ r)) ≡ (a ++ (b ++ (c ++ 13 ∷ 10 ∷ []))) ++ r
    regroup a b c r = simp append_assoc

-- ---- one byte back

back_line : (K : After) (size b : ℕ) (xs body : List ℕ) → b ≡ 13 → InLine K (LineFeed size) xs body
    → (rest : List ℕ) × (b ∷ xs ≡ 13 ∷ 10 ∷ rest) × K size rest body
back_line K size b xs body e h = (h.0, cons b 13 xs (10 ∷ h.0) e h.1, h.2)
  where
    cons : (a c : ℕ) (k l : List ℕ) → a ≡ c → k ≡ l → a ∷ k ≡ c ∷ l
    cons a c k l e f = cc

pub back_tail : (K : After) (framed line size b : ℕ) (xs body : List ℕ) → line ≤ 254 → InLine K (after_digits framed line size b) xs body
    → GoodTail K line size (b ∷ xs) body
back_tail K framed line size b xs body short h = by_first (which K (b == 13) (LineFeed size) _ xs body h)
  where
    by_third : (((b == 59 && nat_lt line 254) ≡ true) × GoodExtension K (line + 1) size xs body)
        ⊎ (((b == 59 && nat_lt line 254) ≡ false) × ⊥) → GoodTail K line size (b ∷ xs) body
    by_third (inr k) = absurd k.1
    by_third (inl k) =
        let e = both_true (b == 59) (nat_lt line 254) k.0 in record {
          blanks = [];
          extension = b ∷ k.1.bytes;
          rest = k.1.rest;
          gap = refl;
          ext = (same_byte b 59 e.0, k.1.ok);
          short = omega (arith, k.1.short);
          split = ap (λ l. b ∷ l) k.1.split;
          good = k.1.good;
        }

    by_second : (((is_blank b && nat_lt line 254) ≡ true) × GoodTail K (line + 1) size xs body)
        ⊎
        (((is_blank b && nat_lt line 254) ≡ false)
        × InLine K (cond (b == 59 && nat_lt line 254) (Extension (line + 1) size) (Broken (BadChunk framed))) xs body)
        → GoodTail K line size (b ∷ xs) body
    by_second (inl k) =
        let e = both_true (is_blank b) (nat_lt line 254) k.0 in record {
          blanks = b ∷ k.1.blanks;
          extension = k.1.extension;
          rest = k.1.rest;
          gap = rw e.0 k.1.gap;
          ext = k.1.ext;
          short = omega (arith, k.1.short);
          split = ap (λ l. b ∷ l) k.1.split;
          good = k.1.good;
        }
    by_second (inr k) =
        by_third
        (which K (b == 59 && nat_lt line 254) (Extension (line + 1) size) (Broken (BadChunk framed)) xs body k.1)

    by_first : ((b == 13 ≡ true) × InLine K (LineFeed size) xs body)
        ⊎
        ((b == 13 ≡ false)
        × InLine K
        (cond (is_blank b && nat_lt line 254) (Blank (line + 1) size)
        (cond (b == 59 && nat_lt line 254) (Extension (line + 1) size) (Broken (BadChunk framed)))) xs body)
        → GoodTail K line size (b ∷ xs) body
    by_first (inl k) =
        let r = back_line K size b xs body (same_byte b 13 k.0) k.1 in
        record {
          blanks = [];
          extension = [];
          rest = r.0;
          gap = refl;
          ext = tt;
          short = omega arith;
          split =
              r.1;
          good = r.2;
        }
    by_first (inr k) = by_second (which K (is_blank b && nat_lt line 254) (Blank (line + 1) size) _ xs body k.1)

pub back_digits : (K : After) (framed room line size b : ℕ) (xs body : List ℕ) → line ≤ 16
    → InLine K (next_mode framed room (Digits line size) b) xs body → GoodDigits K line size (b ∷ xs) body
back_digits K framed room line size b xs body short h =
    by_first (which K (is_hex b && nat_lt line 16) (Digits (line + 1) (size * 16 + digit_value b)) _ xs body h)
  where
    by_second : ((line == 0 ≡ true) × ⊥) ⊎ ((line == 0 ≡ false) × InLine K (after_digits framed line size b) xs body)
        → GoodDigits K line size (b ∷ xs) body
    by_second (inl k) = absurd k.1
    by_second (inr k) =
        let some : 0 < line = grind (arith, nat_tests, k.0) in
        let t : GoodTail K line size (b ∷ xs) body = back_tail K framed line size b xs body (omega arith) k.1 in
        let same : line + 0 ≡ line = omega arith in
        record {
          digits = [];
          after = b ∷ xs;
          some = omega arith;
          few = omega arith;
          hex = refl;
          split = refl;
          tail =
              subst (λ n. GoodTail K n size (b ∷ xs) body) (sym same) t;
        }

    by_first : (((is_hex b && nat_lt line 16) ≡ true) × GoodDigits K (line + 1) (size * 16 + digit_value b) xs body)
        ⊎
        (((is_hex b && nat_lt line 16) ≡ false)
        × InLine K (cond (line == 0) (Broken (BadChunk framed)) (after_digits framed line size b)) xs body)
        → GoodDigits K line size (b ∷ xs) body
    by_first (inl k) =
        let e = both_true (is_hex b) (nat_lt line 16) k.0 in
        let g = k.1 in
        let same : line + 1 + length g.digits ≡ line + length (b ∷ g.digits) = omega arith in
        record {
          digits = b ∷ g.digits;
          after = g.after;
          some = omega arith;
          few = omega (arith, g.few);
          hex = rw e.0 g.hex;
          split = ap (λ l. b ∷ l) g.split;
          tail = subst (λ n. GoodTail K n (value_of (size * 16 + digit_value b) g.digits) g.after body) same g.tail;
        }
    by_first (inr k) =
        by_second (which K (line == 0) (Broken (BadChunk framed)) (after_digits framed line size b) xs body k.1)

pub back_extension : (K : After) (framed room line size b : ℕ) (xs body : List ℕ) → line ≤ 254
    → InLine K (next_mode framed room (Extension line size) b) xs body → GoodExtension K line size (b ∷ xs) body
back_extension K framed room line size b xs body short h = by_first (which K (b == 13) (LineFeed size) _ xs body h)
  where
    by_second : (b == 13 ≡ false)
        → (((not (b == 10) && nat_lt line 254) ≡ true) × GoodExtension K (line + 1) size xs body)
        ⊎ (((not (b == 10) && nat_lt line 254) ≡ false) × ⊥) → GoodExtension K line size (b ∷ xs) body
    by_second f (inr k) = absurd k.1
    by_second f (inl k) =
        let e = both_true (not (b == 10)) (nat_lt line 254) k.0 in record {
          bytes = b ∷ k.1.bytes;
          rest = k.1.rest;
          ok = rw (f, e.0) k.1.ok;
          short = omega (arith, k.1.short);
          split = ap (λ l. b ∷ l) k.1.split;
          good = k.1.good;
        }

    by_first : ((b == 13 ≡ true) × InLine K (LineFeed size) xs body)
        ⊎
        ((b == 13 ≡ false)
        × InLine K
        (cond (not (b == 10) && nat_lt line 254) (Extension (line + 1) size) (Broken (BadChunk framed))) xs body)
        → GoodExtension K line size (b ∷ xs) body
    by_first (inl k) =
        let r = back_line K size b xs body (same_byte b 13 k.0) k.1 in
        record { bytes = []; rest = r.0; ok = refl; short = omega arith; split = r.1; good = r.2 }
    by_first (inr k) =
        by_second k.0
        (which K (not (b == 10) && nat_lt line 254) (Extension (line + 1) size) (Broken (BadChunk framed)) xs body k.1)

-- ---- where a byte of a size line leads

-- within a size line, or broken there
abbrev pub in_line : Mode → Bool
in_line (Digits line size) = true
in_line (Blank line size) = true
in_line (Extension line size) = true
in_line (LineFeed size) = true
in_line (Broken (BadChunk at)) = true
in_line _ = false

-- before the end of a size line
abbrev pub in_text : Mode → Bool
in_text (Digits line size) = true
in_text (Blank line size) = true
in_text (Extension line size) = true
in_text _ = false

pub line_next : (framed room : ℕ) (m : Mode) (b : ℕ) → in_text m ≡ true → in_line (next_mode framed room m b) ≡ true
line_next framed room (Digits line size) b e = grind (arith, nat_tests)
line_next framed room (Blank line size) b e = grind (arith, nat_tests)
line_next framed room (Extension line size) b e = grind (arith, nat_tests)
line_next framed room _ b e = absurd (cc e)
