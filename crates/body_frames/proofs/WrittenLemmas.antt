-- Chunks that are written are chunks of the grammar.
use Rattle.std.proofs.Common.{suc, zero, ◌≡◌, ℕ, ◌+◌, ◌*◌, ◌/◌, ◌%◌, ◌^◌, ◌<◌, ◌≤◌, ◌==◌, ◌∷◌, [], ◌++◌, List, length}
use Rattle.std.proofs.Common.{Bool, true, false, cond, All, refl, sym, ap, ◌∙◌, subst, arith, append_assoc}
use Rattle.std.specs.Prelude.{nat_lt}
use Rattle.std.specs.List.{list_all, flat_map}
use Rattle.std.specs.Fmt.{digits, digits_onto, digit_glyph}
use Rattle.std.specs.Char.{digit_value as digit_of}
use Rattle.std.specs.Str.Parse.{AllDigits, digits_value_after}
use Rattle.std.proofs.lemmas.Fmt.{digits_is_IsNumeral}
use Rattle.std.proofs.lemmas.Grind.{pow_more}
use Rattle.std.proofs.lemmas.Bool.Decides.{nat_tests}
use Rattle.body_frames.specs.Chunks.{digit_value}
use Rattle.body_frames.specs.Chunks.{is_hex, value_of, Line, print_line, IsLine, print_chunk}
use Rattle.body_frames.specs.Chunks.{IsChunked, IsPiece, chunk_text, last_text}
use Rattle.body_frames.proofs.ChunkSound.{no_chunk}

-- a number of so many hexadecimal digits is written in so many
low_pow : (m n : ℕ) → n < 16 ^ (suc m + 1) → n / 16 < 16 ^ (m + 1)
low_pow m n h =
    let same : 16 ^ (suc m + 1) ≡ 16 ^ (m + 1 + 1) = ap (λ k. 16 ^ k) (omega arith) in
    let more = pow_more 16 (m + 1) in
    omega (arith, h, same, more)

length_onto : (m k n : ℕ) (acc : List ℕ) → n < 16 ^ (m + 1) → m < k
    → length (digits_onto k 16 false n acc) ≤ m + 1 + length acc
length_onto m zero n acc h f = absurd (omega (arith, f))
length_onto zero (suc k) n acc h f =
    let none : n / 16 == 0 ≡ true = grind (arith, nat_tests, h) in
    rw none (omega arith)
length_onto (suc m) (suc k) n acc h f =
    by_first (n / 16 == 0)
    (length_onto m k (n / 16) (digit_glyph false (n % 16) ∷ acc) (low_pow m n h) (omega (arith, f)))
  where
    by_first : (t : Bool)
        → length (digits_onto k 16 false (n / 16) (digit_glyph false (n % 16) ∷ acc)) ≤ m + 1 + length
        (digit_glyph false (n % 16) ∷ acc)
        → length
        (cond t (digit_glyph false (n % 16) ∷ acc)
        (digits_onto k 16 false (n / 16) (digit_glyph false (n % 16) ∷ acc))) ≤ suc m + 1 + length acc
    by_first true e = omega arith
    by_first false e = omega (arith, e)

length_hex : (n : ℕ) → n < 2 ^ 64 → length (digits 16 false n) ≤ 16
unfolding digits
length_hex n h = let e = length_onto 15 64 n [] h (omega arith) in omega (arith, e)

same_digit : (b : ℕ) → digit_of b < 16 → digit_value b ≡ digit_of b
unfolding digit_value
same_digit b h = grind (arith, nat_tests)

all_hex : (ds : List ℕ) → AllDigits 16 ds → list_all is_hex ds ≡ true
all_hex [] h = refl
all_hex (d ∷ ds) h =
    let low : nat_lt (digit_value d) 16 ≡ true = grind (arith, nat_tests, same_digit d h.0, h.0) in
    rw low (all_hex ds h.1)

same_value : (ds : List ℕ) (n : ℕ) → AllDigits 16 ds → value_of n ds ≡ digits_value_after 16 n ds
same_value [] n h = refl
same_value (d ∷ ds) n h =
    ap (λ v. value_of (n * 16 + v) ds) (same_digit d h.0) ∙ same_value ds (n * 16 + digit_of d) h.1

line_of : ℕ → Line
line_of n = record { digits = digits 16 false n; blanks = []; extension = [] }

is_line : (n : ℕ) → n < 2 ^ 64 → IsLine (line_of n) n
unfolding line_of
is_line n h =
    let is = digits_is_IsNumeral 16 false (omega arith) (omega arith) n (wide n h) in
    let size = length_hex n h in
    record {
      some = is.0.0;
      few = size;
      hex = all_hex (digits 16 false n) is.0.1;
      gap = refl;
      extension = tt;
      short = omega (arith, size);
      value = same_value (digits 16 false n) 0 is.0.1 ∙ is.1;
    }
  where
    wide : (n : ℕ) → n < 2 ^ 64 → n < 16 ^ 64
    wide n h = omega (arith, h)

one_more : (piece text body : List ℕ) → IsPiece piece → IsChunked text body
    → IsChunked (chunk_text piece ++ text) (piece ++ body)
unfolding line_of
one_more piece text body is h = record {
  chunks = record { line = line_of (length piece); bytes = piece } ∷ h.chunks;
  last = h.last;
  each = (is_line (length piece) is.1, is.0, h.each);
  end = h.end;
  text_is = ap (λ l. chunk_text piece ++ l) h.text_is
      ∙ regroup (digits 16 false (length piece)) piece (flat_map print_chunk h.chunks)
      (print_line h.last ++ 13 ∷ 10 ∷ []);
  body_is = ap (λ l. piece ++ l) h.body_is;
}
  where
    regroup : (d p t r : List ℕ)
        → (d ++ (13 ∷ 10 ∷ (p ++ 13 ∷ 10 ∷ []))) ++ (t ++ r) ≡ ((d ++ 13 ∷ 10 ∷ []) ++ (p ++ 13 ∷ 10 ∷ [])) ++ t ++ r
    regroup d p t r = simp append_assoc

pub written : (pieces : List (List ℕ)) → All IsPiece pieces
    → IsChunked (flat_map chunk_text pieces ++ last_text) (flat_map (λ piece. piece) pieces)
written [] h = no_chunk
written (piece ∷ pieces) h =
    subst (λ l. IsChunked l (piece ++ flat_map (λ p. p) pieces))
    (sym (append_assoc (chunk_text piece) (flat_map chunk_text pieces) last_text))
    (one_more piece (flat_map chunk_text pieces ++ last_text) (flat_map (λ p. p) pieces) (h 0 [] (omega arith))
    (written pieces (λ k d low. h (suc k) d (omega (arith, low)))))
