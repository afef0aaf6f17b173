-- How far strings and values go in compact text.
use Rattle.std.proofs.Common.{◌≡◌, ℕ, suc, ◌+◌, ◌<◌, ◌∷◌, [], ◌++◌, List, length, drop, Bool, true, false, cond, refl, sym, ap, ◌∙◌, inl, inr, arith, zero-add, append_assoc, length-append}
use Rattle.std.specs.Prelude.{◌==◌, ◌⊎◌, flat_map}
use Rattle.std.proofs.Math.Seq.{drop-append_seam}
use Rattle.std.proofs.lemmas.Bool.Decides.{nat_tests}
use Rattle.json_span.specs.Number.{is_digit, is_nonzero_digit, is_mark, is_sign, AreDigits, IsDigits, IsWhole, IsMinus, IsFraction, IsPower, IsExponent, IsNumber}
use Rattle.json_span.specs.Strings.{is, within, tail, is_hex, is_plain, is_short_escape, Meets, MeetsOne, shapes, ArePieces, IsString}
use Rattle.json_span.specs.Value.{Value, token, array, object, Items, no_items, item, Members, no_members, member, flat, flat_items, flat_members, comma_if, IsLiteral, IsToken}
use Rattle.json_prune.specs.Skip.{string_size, Where, outside, inside, escaped, at_mark, size, Ends}
use Rattle.json_prune.specs.Mark.{mark_of}
use Rattle.json_prune.specs.declared.mark.Mark.TheVariants.{Other}
use Rattle.json_prune.specs.Tokens.{HasTokens, ItemsHaveTokens, MembersHaveTokens}

-- ---- a string, and what is behind it

abbrev inner : Bool → Where
inner true = escaped
inner false = inside

pub string_then : (e : Bool) (n : ℕ) (xs : List ℕ) → size (inner e) n xs ≡ string_size e xs + size outside n (drop (string_size e xs) xs)
string_then true n [] = sym (zero-add 0)
string_then false n [] = sym (zero-add 0)
string_then true n (b ∷ bs) = let h = string_then false n bs in omega arith
string_then false n (b ∷ bs) = by_quote (b == 34) (by_backslash (b == 92) (string_then true n bs) (string_then false n bs))
  where
    by_backslash : (c : Bool) → size escaped n bs ≡ string_size true bs + size outside n (drop (string_size true bs) bs) → size inside n bs ≡ string_size false bs + size outside n (drop (string_size false bs) bs)
        → suc (size (cond c escaped inside) n bs) ≡ suc (string_size c bs) + size outside n (drop (string_size c bs) bs)
    by_backslash true h k = omega arith
    by_backslash false h k = omega arith

    by_quote : (c : Bool) → suc (size (cond (b == 92) escaped inside) n bs) ≡ suc (string_size (b == 92) bs) + size outside n (drop (string_size (b == 92) bs) bs)
        → suc (size (cond c outside (cond (b == 92) escaped inside)) n bs) ≡ cond c 1 (suc (string_size (b == 92) bs)) + size outside n (drop (cond c 1 (suc (string_size (b == 92) bs))) (b ∷ bs))
    by_quote true h = omega arith
    by_quote false h = h

-- ---- the pieces of a string

-- neither quotation mark nor backslash
abbrev pub IsQuiet : ℕ → Type 0
IsQuiet b = ((b == 34) ≡ false) × ((b == 92) ≡ false)

abbrev pub AreQuiet : List ℕ → Type 0
AreQuiet [] = Unit {0}
AreQuiet (b ∷ bs) = IsQuiet b × AreQuiet bs

abbrev QuietTests : List (ℕ → Bool) → Type 0
QuietTests [] = Unit {0}
QuietTests (p ∷ ps) = ((b : ℕ) → p b ≡ true → IsQuiet b) × QuietTests ps

meets_quiet : (ps : List (ℕ → Bool)) (bs : List ℕ) → QuietTests ps → Meets ps bs → AreQuiet bs
meets_quiet [] [] q m = tt
meets_quiet [] (b ∷ bs) q m = absurd m
meets_quiet (p ∷ ps) [] q m = absurd m
meets_quiet (p ∷ ps) (b ∷ bs) q m = (q.0 b m.0, meets_quiet ps bs q.1 m.1)

plain_quiet : (b : ℕ) → is_plain b ≡ true → IsQuiet b
plain_quiet b h = (grind (arith, nat_tests), grind (arith, nat_tests))

tail_quiet : (b : ℕ) → tail b ≡ true → IsQuiet b
tail_quiet b h = (grind (arith, nat_tests), grind (arith, nat_tests))

pub hex_quiet : (b : ℕ) → is_hex b ≡ true → IsQuiet b
hex_quiet b h = (grind (arith, nat_tests), grind (arith, nat_tests))

within_quiet : (low high : ℕ) → 92 < low → (b : ℕ) → within low high b ≡ true → IsQuiet b
within_quiet low high l b h = (grind (arith, nat_tests), grind (arith, nat_tests))

is_quiet : (a : ℕ) → 92 < a → (b : ℕ) → is a b ≡ true → IsQuiet b
is_quiet a l b h = (grind (arith, nat_tests), grind (arith, nat_tests))

-- characters, a short escape, or an escape of four digits
abbrev pub IsQuietPiece : List ℕ → Type 0
IsQuietPiece p = (b : ℕ) × (bs : List ℕ) × IsQuiet b × AreQuiet bs × (p ≡ b ∷ bs)

quiet_piece : (p : ℕ → Bool) (ps : List (ℕ → Bool)) (bs : List ℕ) → QuietTests (p ∷ ps) → Meets (p ∷ ps) bs → IsQuietPiece bs
quiet_piece p ps [] q m = absurd m
quiet_piece p ps (b ∷ bs) q m = (b, bs, q.0 b m.0, meets_quiet ps bs q.1 m.1, refl)

abbrev pub IsShort : List ℕ → Type 0
IsShort p = (c : ℕ) × (is_short_escape c ≡ true) × (p ≡ 92 ∷ c ∷ [])

abbrev pub IsCoded : List ℕ → Type 0
IsCoded p = (a b c d : ℕ) × (is_hex a ≡ true) × (is_hex b ≡ true) × (is_hex c ≡ true) × (is_hex d ≡ true) × (p ≡ 92 ∷ 117 ∷ a ∷ b ∷ c ∷ d ∷ [])

abbrev pub Kinds : List ℕ → Type 0
Kinds p = IsQuietPiece p ⊎ (IsShort p ⊎ IsCoded p)

short_of : (p : List ℕ) → Meets (is 92 ∷ is_short_escape ∷ []) p → IsShort p
short_of [] m = absurd m
short_of (a ∷ []) m = absurd m.1
short_of (a ∷ c ∷ []) m = let same : a ≡ 92 = grind (arith, nat_tests, m.0) in (c, m.1.0, ap (λ x. x ∷ c ∷ []) same)
short_of (a ∷ c ∷ x ∷ xs) m = absurd m.1.1

coded_of : (p : List ℕ) → Meets (is 92 ∷ is 117 ∷ is_hex ∷ is_hex ∷ is_hex ∷ is_hex ∷ []) p → IsCoded p
coded_of [] m = absurd m
coded_of (s ∷ []) m = absurd m.1
coded_of (s ∷ u ∷ []) m = absurd m.1.1
coded_of (s ∷ u ∷ a ∷ []) m = absurd m.1.1.1
coded_of (s ∷ u ∷ a ∷ b ∷ []) m = absurd m.1.1.1.1
coded_of (s ∷ u ∷ a ∷ b ∷ c ∷ []) m = absurd m.1.1.1.1.1
coded_of (s ∷ u ∷ a ∷ b ∷ c ∷ d ∷ []) m =
    let first : s ≡ 92 = grind (arith, nat_tests, m.0) in
    let second : u ≡ 117 = grind (arith, nat_tests, m.1.0) in
    (a, b, c, d, m.1.1.0, m.1.1.1.0, m.1.1.1.1.0, m.1.1.1.1.1.0, cc)
coded_of (s ∷ u ∷ a ∷ b ∷ c ∷ d ∷ x ∷ xs) m = absurd m.1.1.1.1.1.1

pub kind_of : (p : List ℕ) → MeetsOne shapes p → Kinds p
kind_of p (inl m) = inl (quiet_piece (is_plain) ([]) p (plain_quiet, tt) m)
kind_of p (inr (inl m)) = inr (inl (short_of p m))
kind_of p (inr (inr (inl m))) = inr (inr (coded_of p m))
kind_of p (inr (inr (inr (inl m)))) = inl (quiet_piece (within 194 223) (tail ∷ []) p (within_quiet 194 223 (omega arith), (tail_quiet, tt)) m)
kind_of p (inr (inr (inr (inr (inl m))))) = inl (quiet_piece (is 224) (within 160 191 ∷ tail ∷ []) p (is_quiet 224 (omega arith), (within_quiet 160 191 (omega arith), (tail_quiet, tt))) m)
kind_of p (inr (inr (inr (inr (inr (inl m)))))) = inl (quiet_piece (within 225 236) (tail ∷ tail ∷ []) p (within_quiet 225 236 (omega arith), (tail_quiet, (tail_quiet, tt))) m)
kind_of p (inr (inr (inr (inr (inr (inr (inl m))))))) = inl (quiet_piece (is 237) (within 128 159 ∷ tail ∷ []) p (is_quiet 237 (omega arith), (within_quiet 128 159 (omega arith), (tail_quiet, tt))) m)
kind_of p (inr (inr (inr (inr (inr (inr (inr (inl m)))))))) = inl (quiet_piece (within 238 239) (tail ∷ tail ∷ []) p (within_quiet 238 239 (omega arith), (tail_quiet, (tail_quiet, tt))) m)
kind_of p (inr (inr (inr (inr (inr (inr (inr (inr (inl m))))))))) = inl (quiet_piece (is 240) (within 144 191 ∷ tail ∷ tail ∷ []) p (is_quiet 240 (omega arith), (within_quiet 144 191 (omega arith), (tail_quiet, (tail_quiet, tt)))) m)
kind_of p (inr (inr (inr (inr (inr (inr (inr (inr (inr (inl m)))))))))) = inl (quiet_piece (within 241 243) (tail ∷ tail ∷ tail ∷ []) p (within_quiet 241 243 (omega arith), (tail_quiet, (tail_quiet, (tail_quiet, tt)))) m)
kind_of p (inr (inr (inr (inr (inr (inr (inr (inr (inr (inr (inl m))))))))))) = inl (quiet_piece (is 244) (within 128 143 ∷ tail ∷ tail ∷ []) p (is_quiet 244 (omega arith), (within_quiet 128 143 (omega arith), (tail_quiet, (tail_quiet, tt)))) m)
kind_of p (inr (inr (inr (inr (inr (inr (inr (inr (inr (inr (inr m))))))))))) = absurd m

quiet_over : (p xs : List ℕ) → AreQuiet p → string_size false (p ++ xs) ≡ length p + string_size false xs
quiet_over [] xs q = sym (zero-add (string_size false xs))
quiet_over (b ∷ bs) xs q =
    ap (λ c. cond c 1 (suc (string_size (b == 92) (bs ++ xs)))) q.0.0
    ∙ (ap (λ c. suc (string_size c (bs ++ xs))) q.0.1
    ∙ (let h = quiet_over bs xs q.1 in omega arith))

piece_over : (p xs : List ℕ) → Kinds p → string_size false (p ++ xs) ≡ length p + string_size false xs
piece_over p xs (inl (b, bs, q, qs, e)) = rw e (quiet_over (b ∷ bs) xs (q, qs))
piece_over p xs (inr (inl (c, h, e))) = rw e (omega arith)
piece_over p xs (inr (inr (a, b, c, d, ha, hb, hc, hd, e))) =
    rw e (let h = quiet_over (a ∷ b ∷ c ∷ d ∷ []) xs (hex_quiet a ha, (hex_quiet b hb, (hex_quiet c hc, (hex_quiet d hd, tt)))) in omega arith)

abbrev pub joined : List (List ℕ) → List ℕ
joined = flat_map (λ (p : List ℕ). p)

pieces_over : (ps : List (List ℕ)) (xs : List ℕ) → ArePieces ps → string_size false (joined ps ++ 34 ∷ xs) ≡ length (joined ps) + 1
pieces_over [] xs h = omega arith
pieces_over (p ∷ ps) xs h =
    ap (string_size false) (append_assoc p (joined ps) (34 ∷ xs))
    ∙ (piece_over p (joined ps ++ 34 ∷ xs) (kind_of p h.0)
    ∙ (let more = pieces_over ps xs h.1 in omega (arith, more, length-append p (joined ps))))

-- a string's size, seen from behind its first quotation mark
pub string_over : (ps : List (List ℕ)) (rest : List ℕ) → ArePieces ps → string_size false ((joined ps ++ 34 ∷ []) ++ rest) ≡ length (joined ps ++ 34 ∷ [])
string_over ps rest h =
    ap (string_size false) (append_assoc (joined ps) (34 ∷ []) rest)
    ∙ (pieces_over ps rest h ∙ sym (length-append (joined ps) (34 ∷ [])))

pub quoted_over : (t rest : List ℕ) (n : ℕ) → IsString t → size outside n (t ++ rest) ≡ length t + size outside n rest
quoted_over t rest n s =
    let body : List ℕ = joined s.0 ++ 34 ∷ [] in
    let reach = string_over s.0 rest s.1 in
    let then = string_then false n (body ++ rest) in
    rw s.2 (ap suc (then ∙ (ap (λ k. k + size outside n (drop k (body ++ rest))) reach ∙ ap (λ l. length body + size outside n l) (drop-append_seam body rest))) ∙ omega arith)

-- ---- numbers and literals

abbrev pub IsApart : ℕ → Type 0
IsApart b = (mark_of b ≡ Other) × ((b == 92) ≡ false)

abbrev pub AreApart : List ℕ → Type 0
AreApart [] = Unit {0}
AreApart (b ∷ bs) = IsApart b × AreApart bs

apart_over : (t rest : List ℕ) (n : ℕ) → AreApart t → size outside n (t ++ rest) ≡ length t + size outside n rest
apart_over [] rest n h = sym (zero-add (size outside n rest))
apart_over (b ∷ bs) rest n h =
    ap (λ m. at_mark m n (size inside n (bs ++ rest)) (λ k. size outside k (bs ++ rest))) h.0.0
    ∙ (let more = apart_over bs rest n h.1 in omega arith)

apart-append : (xs ys : List ℕ) → AreApart xs → AreApart ys → AreApart (xs ++ ys)
apart-append [] ys h k = k
apart-append (x ∷ xs) ys h k = (h.0, apart-append xs ys h.1 k)

apart_byte : (b : ℕ) → (b == 34) ≡ false → (b == 91) ≡ false → (b == 123) ≡ false → (b == 93) ≡ false → (b == 125) ≡ false → (b == 44) ≡ false → (b == 92) ≡ false → IsApart b
apart_byte b quote o1 o2 c1 c2 comma back = (rw (quote, o1, o2, c1, c2, comma) refl, back)

digit_apart : (b : ℕ) → is_digit b ≡ true → IsApart b
digit_apart b h = apart_byte b (grind (arith, nat_tests)) (grind (arith, nat_tests)) (grind (arith, nat_tests)) (grind (arith, nat_tests)) (grind (arith, nat_tests)) (grind (arith, nat_tests)) (grind (arith, nat_tests))

digits_apart : (ds : List ℕ) → AreDigits ds → AreApart ds
digits_apart [] h = tt
digits_apart (d ∷ ds) h = (digit_apart d h.0, digits_apart ds h.1)

some_apart : (ds : List ℕ) → IsDigits ds → AreApart ds
some_apart [] h = absurd h
some_apart (d ∷ ds) h = (digit_apart d h.0, digits_apart ds h.1)

nonzero_digit : (b : ℕ) → is_nonzero_digit b ≡ true → is_digit b ≡ true
nonzero_digit b h = grind (arith, nat_tests)

whole_apart : (ds : List ℕ) → IsWhole ds → AreApart ds
whole_apart [] h = absurd h
whole_apart (d ∷ ds) (inl h) = rw (h.0, h.1) (digit_apart 48 refl, tt)
whole_apart (d ∷ ds) (inr h) = (digit_apart d (nonzero_digit d h.0), digits_apart ds h.1)

minus_apart : (s : List ℕ) → IsMinus s → AreApart s
minus_apart s (inl e) = rw e tt
minus_apart s (inr e) = rw e ((refl, refl), tt)

fraction_apart : (s : List ℕ) → IsFraction s → AreApart s
fraction_apart [] h = tt
fraction_apart (p ∷ ds) h = rw h.0 ((refl, refl), some_apart ds h.1)

sign_apart : (b : ℕ) → is_sign b ≡ true → IsApart b
sign_apart b h = apart_byte b (grind (arith, nat_tests)) (grind (arith, nat_tests)) (grind (arith, nat_tests)) (grind (arith, nat_tests)) (grind (arith, nat_tests)) (grind (arith, nat_tests)) (grind (arith, nat_tests))

mark_apart : (b : ℕ) → is_mark b ≡ true → IsApart b
mark_apart b h = apart_byte b (grind (arith, nat_tests)) (grind (arith, nat_tests)) (grind (arith, nat_tests)) (grind (arith, nat_tests)) (grind (arith, nat_tests)) (grind (arith, nat_tests)) (grind (arith, nat_tests))

power_apart : (bs : List ℕ) → IsPower bs → AreApart bs
power_apart [] h = absurd h
power_apart (b ∷ bs) (inl h) = some_apart (b ∷ bs) h
power_apart (b ∷ bs) (inr h) = (sign_apart b h.0, some_apart bs h.1)

exponent_apart : (s : List ℕ) → IsExponent s → AreApart s
exponent_apart [] h = tt
exponent_apart (e ∷ bs) h = (mark_apart e h.0, power_apart bs h.1)

pub number_apart : (t : List ℕ) → IsNumber t → AreApart t
number_apart t h =
    rw h.is (apart-append h.minus (h.whole ++ (h.fraction ++ h.exponent)) (minus_apart h.minus h.is_minus) (apart-append h.whole (h.fraction ++ h.exponent) (whole_apart h.whole h.is_whole) (apart-append h.fraction h.exponent (fraction_apart h.fraction h.is_fraction) (exponent_apart h.exponent h.is_exponent))))

pub literal_apart : (t : List ℕ) → IsLiteral t → AreApart t
literal_apart t (inl e) = rw e ((refl, refl), ((refl, refl), ((refl, refl), ((refl, refl), tt))))
literal_apart t (inr (inl e)) = rw e ((refl, refl), ((refl, refl), ((refl, refl), ((refl, refl), ((refl, refl), tt)))))
literal_apart t (inr (inr e)) = rw e ((refl, refl), ((refl, refl), ((refl, refl), ((refl, refl), tt))))

-- ---- values

token_over : (t rest : List ℕ) (n : ℕ) → IsToken t → size outside n (t ++ rest) ≡ length t + size outside n rest
token_over t rest n (inl h) = apart_over t rest n (literal_apart t h)
token_over t rest n (inr (inl h)) = apart_over t rest n (number_apart t h)
token_over t rest n (inr (inr h)) = quoted_over t rest n h

-- a comma between brackets
comma_over : (later : Bool) (rest : List ℕ) (n : ℕ) → size outside (suc n) (comma_if later ++ rest) ≡ length (comma_if later) + size outside (suc n) rest
comma_over true rest n = omega arith
comma_over false rest n = sym (zero-add (size outside (suc n) rest))

mutual
  pub value_over : (v : Value) (rest : List ℕ) (n : ℕ) → HasTokens v → size outside n (flat v ++ rest) ≡ length (flat v) + size outside n rest
  value_over (token t) rest n h = token_over t rest n h
  value_over (array vs) rest n h = let more = items_over vs false rest n h in omega arith
  value_over (object ms) rest n h = let more = members_over ms false rest n h in omega arith

  items_over : (vs : Items) (later : Bool) (rest : List ℕ) (n : ℕ) → ItemsHaveTokens vs → size outside (suc n) (flat_items later vs ++ rest) ≡ length (flat_items later vs) + size outside n rest
  items_over no_items later rest n h = omega arith
  items_over (item v vs) later rest n h =
      let tail : List ℕ = flat_items true vs in
      let same : flat_items later (item v vs) ++ rest ≡ comma_if later ++ (flat v ++ (tail ++ rest)) = append_assoc (comma_if later) (flat v ++ tail) rest ∙ ap (λ l. comma_if later ++ l) (append_assoc (flat v) tail rest) in
      let comma = comma_over later (flat v ++ (tail ++ rest)) n in
      let value = value_over v (tail ++ rest) (suc n) h.0 in
      let more = items_over vs true rest n h.1 in
      ap (size outside (suc n)) same ∙ omega (arith, length-append (comma_if later) (flat v ++ tail), length-append (flat v) tail)

  pub members_over : (ms : Members) (later : Bool) (rest : List ℕ) (n : ℕ) → MembersHaveTokens ms → size outside (suc n) (flat_members later ms ++ rest) ≡ length (flat_members later ms) + size outside n rest
  members_over no_members later rest n h = omega arith
  members_over (member k v ms) later rest n h =
      let tail : List ℕ = flat_members true ms in
      let same : flat_members later (member k v ms) ++ rest ≡ comma_if later ++ (k ++ (58 ∷ (flat v ++ (tail ++ rest)))) =
      append_assoc (comma_if later) (k ++ (58 ∷ (flat v ++ tail))) rest
      ∙ ap (λ l. comma_if later ++ l) (append_assoc k (58 ∷ (flat v ++ tail)) rest ∙ ap (λ l. k ++ (58 ∷ l)) (append_assoc (flat v) tail rest)) in
      let comma = comma_over later (k ++ (58 ∷ (flat v ++ (tail ++ rest)))) n in
      let name = quoted_over k (58 ∷ (flat v ++ (tail ++ rest))) (suc n) h.0 in
      let value = value_over v (tail ++ rest) (suc n) h.1 in
      let more = members_over ms true rest n h.2 in
      ap (size outside (suc n)) same
      ∙ omega (arith, length-append (comma_if later) (k ++ (58 ∷ (flat v ++ tail))), length-append k (58 ∷ (flat v ++ tail)), length-append (flat v) tail)

ends_stop : (rest : List ℕ) → Ends rest → size outside 0 rest ≡ 0
ends_stop [] h = refl
ends_stop (b ∷ bs) (inl e) = rw e refl
ends_stop (b ∷ bs) (inr (inl e)) = rw e refl
ends_stop (b ∷ bs) (inr (inr e)) = rw e refl

-- what `value_len` answers at a value
pub value_stops : (v : Value) (rest : List ℕ) → HasTokens v → Ends rest → size outside 0 (flat v ++ rest) ≡ length (flat v)
value_stops v rest h ends = value_over v rest 0 h ∙ (let none = ends_stop rest ends in omega arith)
