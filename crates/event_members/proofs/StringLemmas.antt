-- A string that was written is read again.
use Rattle.std.proofs.Common.{◌≡◌, ℕ, zero, suc, ◌+◌, ◌<◌, ◌≤◌, ◌/◌, ◌%◌, true, false, List, [], ◌∷◌, ◌++◌, length, Some, refl, ap, ◌∙◌, append_assoc, arith}
use Rattle.std.specs.Prelude.{◌==◌, if◌then◌else◌}
use Rattle.std.specs.List.{flat_map}
use Rattle.std.specs.Str.{is_utf8}
use Rattle.std.proofs.lemmas.Bool.Decides.{nat_tests}
use Rattle.std.proofs.lemmas.List.{length-append}
use Rattle.json_span.specs.Quote.{hex_digit, escaped, quoted}
use Rattle.event_members.specs.TextMembers.{hex_value, piece_at, is_closed, up_to, string_at, text_at}

-- ---- one byte

hex_again : (n : ℕ) → n < 16 → hex_value (hex_digit n) ≡ n
hex_again n h = grind (arith, nat_tests)

control_again : (c : ℕ) → c < 32 → (if hex_digit (c / 16) == 49 then 16 + hex_value (hex_digit (c % 16)) else hex_value (hex_digit (c % 16))) ≡ c
control_again c h =
    let low = hex_again (c % 16) (omega arith) in
    grind (arith, nat_tests)

pub piece_again : (c : ℕ) (rest : List ℕ) → piece_at (escaped c ++ rest) ≡ Some (c, rest)
piece_again c rest = grind (arith, nat_tests, control_again)

pub not_closed : (c : ℕ) (rest : List ℕ) → is_closed 34 (escaped c ++ rest) ≡ false
not_closed c rest = grind (arith, nat_tests)

escaped_long : (c : ℕ) → 0 < length (escaped c)
escaped_long c = grind (arith, nat_tests)

-- ---- strings

long_enough : (s : List ℕ) → length s ≤ length (flat_map escaped s)
long_enough [] = omega arith
long_enough (c ∷ cs) =
    let more = long_enough cs in
    omega (arith, escaped_long c, length-append (escaped c) (flat_map escaped cs))

pub inside_again : (most : ℕ) (s rest : List ℕ) → length s < most → up_to 34 piece_at most (flat_map escaped s ++ 34 ∷ rest) ≡ Some (s, rest)
unfolding up_to
inside_again zero s rest h = absurd (omega arith)
inside_again (suc most) [] rest h = refl
inside_again (suc most) (c ∷ cs) rest h =
    let regrouped : (escaped c ++ flat_map escaped cs) ++ 34 ∷ rest ≡ escaped c ++ (flat_map escaped cs ++ 34 ∷ rest) = append_assoc (escaped c) (flat_map escaped cs) (34 ∷ rest) in
    ap (up_to 34 piece_at (suc most)) regrouped
    ∙ rw (not_closed c (flat_map escaped cs ++ 34 ∷ rest), piece_again c (flat_map escaped cs ++ 34 ∷ rest), inside_again most cs rest (omega arith)) refl

pub string_again : (s rest : List ℕ) → string_at (quoted s ++ rest) ≡ Some (s, rest)
unfolding string_at
string_again s rest =
    let regrouped : (flat_map escaped s ++ 34 ∷ []) ++ rest ≡ flat_map escaped s ++ 34 ∷ rest = append_assoc (flat_map escaped s) (34 ∷ []) rest in
    let size = long_enough s in
    let all = length-append (flat_map escaped s) (34 ∷ rest) in
    ap (λ l. up_to 34 piece_at (length l) l) regrouped ∙ inside_again (length (flat_map escaped s ++ 34 ∷ rest)) s rest (omega arith)

pub text_again : (s rest : List ℕ) → is_utf8 s ≡ true → text_at (quoted s ++ rest) ≡ Some (s, rest)
unfolding text_at
text_again s rest h = rw (string_again s rest, h) refl
