-- The machine of strings follows their grammar.
use Rattle.std.proofs.Common.{◌≡◌, ℕ, ◌∷◌, [], ◌++◌, List, Bool, true, false, cond, Option, Some, None, refl, sym, ap, ◌∙◌, subst, inl, inr, arith, eqb-true, true≢false, append_assoc}
use Rattle.std.specs.Prelude.{MatchOption, ◌==◌, flat_map}
use Rattle.std.proofs.lemmas.Bool.Decides.{nat_tests}
use Rattle.json_span.specs.Strings.{is, within, tail, is_hex, is_plain, is_short_escape, Meets, MeetsOne, shapes, ArePieces, IsString}
use Rattle.json_span.specs.Machine.{string_step, string_ends}
use Rattle.json_span.specs.declared.string.Inside.{Inside}
use Rattle.json_span.specs.declared.string.Inside.TheVariants as inside
use Rattle.json_span.proofs.RunLemmas.{Accepts, goes}

abbrev pub Takes : Inside → List ℕ → Type 0
Takes = Accepts string_step string_ends

abbrev Then : Option Inside → List ℕ → Type 0
Then o bs = MatchOption o ⊥ (λ n. Takes n bs)

abbrev pub joined : List (List ℕ) → List ℕ
joined = flat_map (λ (p : List ℕ). p)

-- ---- what is taken, the grammar has

-- pieces, and the closing quotation mark
record Rest (t : List ℕ) : Type 0 where
  pieces : List (List ℕ)
  are : ArePieces pieces
  is_joined : t ≡ joined pieces ++ 34 ∷ []

-- bytes that pass these tests, and the rest of the string
record Owed (tests : List (ℕ → Bool)) (t : List ℕ) : Type 0 where
  bytes : List ℕ
  rest : List ℕ
  meets : Meets tests bytes
  parts : t ≡ bytes ++ rest
  closes : Rest rest

owed_none : (t : List ℕ) → Rest t → Owed [] t
owed_none t r = record { bytes = []; rest = t; meets = tt; parts = refl; closes = r }

owed_more : (p : ℕ → Bool) (ps : List (ℕ → Bool)) (b : ℕ) (bs : List ℕ) → p b ≡ true → Owed ps bs → Owed (p ∷ ps) (b ∷ bs)
owed_more p ps b bs e o = record { bytes = b ∷ o.bytes; rest = o.rest; meets = (e, o.meets); parts = ap (λ l. b ∷ l) o.parts; closes = o.closes }

one_test : (p : ℕ → Bool) (ps : List (ℕ → Bool)) (n : Inside) (b : ℕ) (bs : List ℕ) → (Takes n bs → Owed ps bs) → Then (cond (p b) (Some n) None) bs → Owed (p ∷ ps) (b ∷ bs)
one_test p ps n b bs next h = by_test (p b) refl h
  where
    by_test : (c : Bool) → p b ≡ c → Then (cond c (Some n) None) bs → Owed (p ∷ ps) (b ∷ bs)
    by_test true e k = owed_more p ps b bs e (next k)
    by_test false e k = absurd k

rest_of : (tests : List (ℕ → Bool)) (t : List ℕ) → ((bytes : List ℕ) → Meets tests bytes → MeetsOne shapes bytes) → Owed tests t → Rest t
rest_of tests t member o = record {
  pieces = o.bytes ∷ o.closes.pieces;
  are = (member o.bytes o.meets, o.closes.are);
  is_joined = o.parts ∙ ap (λ r. o.bytes ++ r) o.closes.is_joined ∙ sym (append_assoc o.bytes (joined o.closes.pieces) (34 ∷ []));
}

abbrev hexes4 : List (ℕ → Bool)
hexes4 = is_hex ∷ is_hex ∷ is_hex ∷ is_hex ∷ []

escape_byte : (b : ℕ) (bs : List ℕ) → (Takes inside.Plain bs → Rest bs) → (Takes inside.Hex4 bs → Owed hexes4 bs)
    → Then (cond (is_short_escape b) (Some inside.Plain) (cond (b == 117) (Some inside.Hex4) None)) bs → Rest (92 ∷ b ∷ bs)
escape_byte b bs plain hex h = by_short (is_short_escape b) refl h
  where
    by_u : (c : Bool) → (b == 117) ≡ c → Then (cond c (Some inside.Hex4) None) bs → Rest (92 ∷ b ∷ bs)
    by_u true e k = rest_of (is 92 ∷ is 117 ∷ hexes4) (92 ∷ b ∷ bs) (λ x m. inr (inr (inl m))) (owed_more (is 92) (is 117 ∷ hexes4) 92 (b ∷ bs) refl (owed_more (is 117) hexes4 b bs e (hex k)))
    by_u false e k = absurd k

    by_short : (c : Bool) → is_short_escape b ≡ c → Then (cond c (Some inside.Plain) (cond (b == 117) (Some inside.Hex4) None)) bs → Rest (92 ∷ b ∷ bs)
    by_short true e k = rest_of (is 92 ∷ is_short_escape ∷ []) (92 ∷ b ∷ bs) (λ x m. inr (inl m)) (owed_more (is 92) (is_short_escape ∷ []) 92 (b ∷ bs) refl (owed_more is_short_escape [] b bs e (owed_none bs (plain k))))
    by_short false e k = by_u (b == 117) refl k

plain_byte : (b : ℕ) (bs : List ℕ) → (Takes inside.Closed bs → bs ≡ []) → (Takes inside.Escape bs → Rest (92 ∷ bs)) → (Takes inside.Plain bs → Rest bs)
    → (Takes inside.Tail1 bs → Owed (tail ∷ []) bs)
    → (Takes inside.Tail2 bs → Owed (tail ∷ tail ∷ []) bs)
    → (Takes inside.Tail3 bs → Owed (tail ∷ tail ∷ tail ∷ []) bs)
    → (Takes inside.AfterE0 bs → Owed (within 160 191 ∷ tail ∷ []) bs)
    → (Takes inside.AfterEd bs → Owed (within 128 159 ∷ tail ∷ []) bs)
    → (Takes inside.AfterF0 bs → Owed (within 144 191 ∷ tail ∷ tail ∷ []) bs)
    → (Takes inside.AfterF4 bs → Owed (within 128 143 ∷ tail ∷ tail ∷ []) bs)
    → Then (cond (b == 34) (Some inside.Closed) (cond (b == 92) (Some inside.Escape) (cond (is_plain b) (Some inside.Plain) (cond (within 194 223 b) (Some inside.Tail1) (cond (is 224 b) (Some inside.AfterE0) (cond (within 225 236 b) (Some inside.Tail2) (cond (is 237 b) (Some inside.AfterEd) (cond (within 238 239 b) (Some inside.Tail2) (cond (is 240 b) (Some inside.AfterF0) (cond (within 241 243 b) (Some inside.Tail3) (cond (is 244 b) (Some inside.AfterF4) None))))))))))) bs → Rest (b ∷ bs)
plain_byte b bs closed escape plain tail1 tail2 tail3 e0 ed f0 f4 h = by_quote (b == 34) refl h
  where
    by_8 : (c : Bool) → (is 244 b) ≡ c → Then (cond c (Some inside.AfterF4) None) bs → Rest (b ∷ bs)
    by_8 true e k = rest_of (is 244 ∷ (within 128 143 ∷ tail ∷ tail ∷ [])) (b ∷ bs) (λ x m. inr (inr (inr (inr (inr (inr (inr (inr (inr (inr (inl m))))))))))) (owed_more (is 244) (within 128 143 ∷ tail ∷ tail ∷ []) b bs e (f4 k))
    by_8 false e k = absurd k

    by_7 : (c : Bool) → (within 241 243 b) ≡ c → Then (cond c (Some inside.Tail3) (cond (is 244 b) (Some inside.AfterF4) None)) bs → Rest (b ∷ bs)
    by_7 true e k = rest_of (within 241 243 ∷ (tail ∷ tail ∷ tail ∷ [])) (b ∷ bs) (λ x m. inr (inr (inr (inr (inr (inr (inr (inr (inr (inl m)))))))))) (owed_more (within 241 243) (tail ∷ tail ∷ tail ∷ []) b bs e (tail3 k))
    by_7 false e k = by_8 (is 244 b) refl k

    by_6 : (c : Bool) → (is 240 b) ≡ c → Then (cond c (Some inside.AfterF0) (cond (within 241 243 b) (Some inside.Tail3) (cond (is 244 b) (Some inside.AfterF4) None))) bs → Rest (b ∷ bs)
    by_6 true e k = rest_of (is 240 ∷ (within 144 191 ∷ tail ∷ tail ∷ [])) (b ∷ bs) (λ x m. inr (inr (inr (inr (inr (inr (inr (inr (inl m))))))))) (owed_more (is 240) (within 144 191 ∷ tail ∷ tail ∷ []) b bs e (f0 k))
    by_6 false e k = by_7 (within 241 243 b) refl k

    by_5 : (c : Bool) → (within 238 239 b) ≡ c → Then (cond c (Some inside.Tail2) (cond (is 240 b) (Some inside.AfterF0) (cond (within 241 243 b) (Some inside.Tail3) (cond (is 244 b) (Some inside.AfterF4) None)))) bs → Rest (b ∷ bs)
    by_5 true e k = rest_of (within 238 239 ∷ (tail ∷ tail ∷ [])) (b ∷ bs) (λ x m. inr (inr (inr (inr (inr (inr (inr (inl m)))))))) (owed_more (within 238 239) (tail ∷ tail ∷ []) b bs e (tail2 k))
    by_5 false e k = by_6 (is 240 b) refl k

    by_4 : (c : Bool) → (is 237 b) ≡ c → Then (cond c (Some inside.AfterEd) (cond (within 238 239 b) (Some inside.Tail2) (cond (is 240 b) (Some inside.AfterF0) (cond (within 241 243 b) (Some inside.Tail3) (cond (is 244 b) (Some inside.AfterF4) None))))) bs → Rest (b ∷ bs)
    by_4 true e k = rest_of (is 237 ∷ (within 128 159 ∷ tail ∷ [])) (b ∷ bs) (λ x m. inr (inr (inr (inr (inr (inr (inl m))))))) (owed_more (is 237) (within 128 159 ∷ tail ∷ []) b bs e (ed k))
    by_4 false e k = by_5 (within 238 239 b) refl k

    by_3 : (c : Bool) → (within 225 236 b) ≡ c → Then (cond c (Some inside.Tail2) (cond (is 237 b) (Some inside.AfterEd) (cond (within 238 239 b) (Some inside.Tail2) (cond (is 240 b) (Some inside.AfterF0) (cond (within 241 243 b) (Some inside.Tail3) (cond (is 244 b) (Some inside.AfterF4) None)))))) bs → Rest (b ∷ bs)
    by_3 true e k = rest_of (within 225 236 ∷ (tail ∷ tail ∷ [])) (b ∷ bs) (λ x m. inr (inr (inr (inr (inr (inl m)))))) (owed_more (within 225 236) (tail ∷ tail ∷ []) b bs e (tail2 k))
    by_3 false e k = by_4 (is 237 b) refl k

    by_2 : (c : Bool) → (is 224 b) ≡ c → Then (cond c (Some inside.AfterE0) (cond (within 225 236 b) (Some inside.Tail2) (cond (is 237 b) (Some inside.AfterEd) (cond (within 238 239 b) (Some inside.Tail2) (cond (is 240 b) (Some inside.AfterF0) (cond (within 241 243 b) (Some inside.Tail3) (cond (is 244 b) (Some inside.AfterF4) None))))))) bs → Rest (b ∷ bs)
    by_2 true e k = rest_of (is 224 ∷ (within 160 191 ∷ tail ∷ [])) (b ∷ bs) (λ x m. inr (inr (inr (inr (inl m))))) (owed_more (is 224) (within 160 191 ∷ tail ∷ []) b bs e (e0 k))
    by_2 false e k = by_3 (within 225 236 b) refl k

    by_1 : (c : Bool) → (within 194 223 b) ≡ c → Then (cond c (Some inside.Tail1) (cond (is 224 b) (Some inside.AfterE0) (cond (within 225 236 b) (Some inside.Tail2) (cond (is 237 b) (Some inside.AfterEd) (cond (within 238 239 b) (Some inside.Tail2) (cond (is 240 b) (Some inside.AfterF0) (cond (within 241 243 b) (Some inside.Tail3) (cond (is 244 b) (Some inside.AfterF4) None)))))))) bs → Rest (b ∷ bs)
    by_1 true e k = rest_of (within 194 223 ∷ (tail ∷ [])) (b ∷ bs) (λ x m. inr (inr (inr (inl m)))) (owed_more (within 194 223) (tail ∷ []) b bs e (tail1 k))
    by_1 false e k = by_2 (is 224 b) refl k

    by_0 : (c : Bool) → (is_plain b) ≡ c → Then (cond c (Some inside.Plain) (cond (within 194 223 b) (Some inside.Tail1) (cond (is 224 b) (Some inside.AfterE0) (cond (within 225 236 b) (Some inside.Tail2) (cond (is 237 b) (Some inside.AfterEd) (cond (within 238 239 b) (Some inside.Tail2) (cond (is 240 b) (Some inside.AfterF0) (cond (within 241 243 b) (Some inside.Tail3) (cond (is 244 b) (Some inside.AfterF4) None))))))))) bs → Rest (b ∷ bs)
    by_0 true e k = rest_of (is_plain ∷ []) (b ∷ bs) (λ x m. inl m) (owed_more (is_plain) [] b bs e (owed_none bs (plain k)))
    by_0 false e k = by_1 (within 194 223 b) refl k

    by_escape : (c : Bool) → (b == 92) ≡ c → Then (cond c (Some inside.Escape) (cond (is_plain b) (Some inside.Plain) (cond (within 194 223 b) (Some inside.Tail1) (cond (is 224 b) (Some inside.AfterE0) (cond (within 225 236 b) (Some inside.Tail2) (cond (is 237 b) (Some inside.AfterEd) (cond (within 238 239 b) (Some inside.Tail2) (cond (is 240 b) (Some inside.AfterF0) (cond (within 241 243 b) (Some inside.Tail3) (cond (is 244 b) (Some inside.AfterF4) None)))))))))) bs → Rest (b ∷ bs)
    by_escape true e k = subst (λ x. Rest (x ∷ bs)) (sym (eqb-true b 92 e)) (escape k)
    by_escape false e k = by_0 (is_plain b) refl k

    by_quote : (c : Bool) → (b == 34) ≡ c → Then (cond c (Some inside.Closed) (cond (b == 92) (Some inside.Escape) (cond (is_plain b) (Some inside.Plain) (cond (within 194 223 b) (Some inside.Tail1) (cond (is 224 b) (Some inside.AfterE0) (cond (within 225 236 b) (Some inside.Tail2) (cond (is 237 b) (Some inside.AfterEd) (cond (within 238 239 b) (Some inside.Tail2) (cond (is 240 b) (Some inside.AfterF0) (cond (within 241 243 b) (Some inside.Tail3) (cond (is 244 b) (Some inside.AfterF4) None))))))))))) bs → Rest (b ∷ bs)
    by_quote true e k = record { pieces = []; are = tt; is_joined = ap (λ l. b ∷ l) (closed k) ∙ ap (λ x. x ∷ []) (eqb-true b 34 e) }
    by_quote false e k = by_escape (b == 92) refl k

closed_taken : (t : List ℕ) → Takes inside.Closed t → t ≡ []
closed_taken [] h = refl
closed_taken (b ∷ bs) h = absurd h

mutual
  plain_taken : (t : List ℕ) → Takes inside.Plain t → Rest t
  plain_taken [] h = absurd (true≢false (sym h))
  plain_taken (b ∷ bs) h = plain_byte b bs (closed_taken bs) (λ k. escape_taken bs k) (λ k. plain_taken bs k) (λ k. tail1_taken bs k) (λ k. tail2_taken bs k) (λ k. tail3_taken bs k) (λ k. e0_taken bs k) (λ k. ed_taken bs k) (λ k. f0_taken bs k) (λ k. f4_taken bs k) h

  escape_taken : (t : List ℕ) → Takes inside.Escape t → Rest (92 ∷ t)
  escape_taken [] h = absurd (true≢false (sym h))
  escape_taken (b ∷ bs) h = escape_byte b bs (λ k. plain_taken bs k) (λ k. hex4_taken bs k) h

  hex1_taken : (t : List ℕ) → Takes inside.Hex1 t → Owed (is_hex ∷ []) t
  hex1_taken [] h = absurd (true≢false (sym h))
  hex1_taken (b ∷ bs) h = one_test (is_hex) [] inside.Plain b bs (λ k. owed_none bs (plain_taken bs k)) h

  hex2_taken : (t : List ℕ) → Takes inside.Hex2 t → Owed (is_hex ∷ (is_hex ∷ [])) t
  hex2_taken [] h = absurd (true≢false (sym h))
  hex2_taken (b ∷ bs) h = one_test (is_hex) (is_hex ∷ []) inside.Hex1 b bs (λ k. hex1_taken bs k) h

  hex3_taken : (t : List ℕ) → Takes inside.Hex3 t → Owed (is_hex ∷ (is_hex ∷ is_hex ∷ [])) t
  hex3_taken [] h = absurd (true≢false (sym h))
  hex3_taken (b ∷ bs) h = one_test (is_hex) (is_hex ∷ is_hex ∷ []) inside.Hex2 b bs (λ k. hex2_taken bs k) h

  hex4_taken : (t : List ℕ) → Takes inside.Hex4 t → Owed (is_hex ∷ (is_hex ∷ is_hex ∷ is_hex ∷ [])) t
  hex4_taken [] h = absurd (true≢false (sym h))
  hex4_taken (b ∷ bs) h = one_test (is_hex) (is_hex ∷ is_hex ∷ is_hex ∷ []) inside.Hex3 b bs (λ k. hex3_taken bs k) h

  tail1_taken : (t : List ℕ) → Takes inside.Tail1 t → Owed (tail ∷ []) t
  tail1_taken [] h = absurd (true≢false (sym h))
  tail1_taken (b ∷ bs) h = one_test (tail) [] inside.Plain b bs (λ k. owed_none bs (plain_taken bs k)) h

  tail2_taken : (t : List ℕ) → Takes inside.Tail2 t → Owed (tail ∷ (tail ∷ [])) t
  tail2_taken [] h = absurd (true≢false (sym h))
  tail2_taken (b ∷ bs) h = one_test (tail) (tail ∷ []) inside.Tail1 b bs (λ k. tail1_taken bs k) h

  tail3_taken : (t : List ℕ) → Takes inside.Tail3 t → Owed (tail ∷ (tail ∷ tail ∷ [])) t
  tail3_taken [] h = absurd (true≢false (sym h))
  tail3_taken (b ∷ bs) h = one_test (tail) (tail ∷ tail ∷ []) inside.Tail2 b bs (λ k. tail2_taken bs k) h

  e0_taken : (t : List ℕ) → Takes inside.AfterE0 t → Owed (within 160 191 ∷ (tail ∷ [])) t
  e0_taken [] h = absurd (true≢false (sym h))
  e0_taken (b ∷ bs) h = one_test (within 160 191) (tail ∷ []) inside.Tail1 b bs (λ k. tail1_taken bs k) h

  ed_taken : (t : List ℕ) → Takes inside.AfterEd t → Owed (within 128 159 ∷ (tail ∷ [])) t
  ed_taken [] h = absurd (true≢false (sym h))
  ed_taken (b ∷ bs) h = one_test (within 128 159) (tail ∷ []) inside.Tail1 b bs (λ k. tail1_taken bs k) h

  f0_taken : (t : List ℕ) → Takes inside.AfterF0 t → Owed (within 144 191 ∷ (tail ∷ tail ∷ [])) t
  f0_taken [] h = absurd (true≢false (sym h))
  f0_taken (b ∷ bs) h = one_test (within 144 191) (tail ∷ tail ∷ []) inside.Tail2 b bs (λ k. tail2_taken bs k) h

  f4_taken : (t : List ℕ) → Takes inside.AfterF4 t → Owed (within 128 143 ∷ (tail ∷ tail ∷ [])) t
  f4_taken [] h = absurd (true≢false (sym h))
  f4_taken (b ∷ bs) h = one_test (within 128 143) (tail ∷ tail ∷ []) inside.Tail2 b bs (λ k. tail2_taken bs k) h

string_of : (t : List ℕ) → Rest t → IsString (34 ∷ t)
string_of t r = (r.pieces, r.are, ap (λ l. 34 ∷ l) r.is_joined)

pub string_taken : (t : List ℕ) → Takes inside.Start t → IsString t
string_taken [] h = absurd (true≢false (sym h))
string_taken (b ∷ bs) h = by_quote (b == 34) refl h
  where
    by_quote : (c : Bool) → (b == 34) ≡ c → Then (cond c (Some inside.Plain) None) bs → IsString (b ∷ bs)
    by_quote true e k = subst (λ x. IsString (x ∷ bs)) (sym (eqb-true b 34 e)) (string_of bs (plain_taken bs k))
    by_quote false e k = absurd k

-- ---- what the grammar has is taken

go : (s n : Inside) (b : ℕ) (bs : List ℕ) → string_step s b ≡ Some n → Takes n bs → Takes s (b ∷ bs)
go = goes string_step string_ends

-- the state takes bytes that pass the tests, and then the rest
abbrev Passes : Inside → List (ℕ → Bool) → Type 0
Passes s tests = (bytes rest : List ℕ) → Meets tests bytes → Takes inside.Plain rest → Takes s (bytes ++ rest)

no_more : Passes inside.Plain []
no_more [] rest m k = k
no_more (b ∷ bs) rest m k = absurd m

one : (s n : Inside) (p : ℕ → Bool) (ps : List (ℕ → Bool)) → ((b : ℕ) → p b ≡ true → string_step s b ≡ Some n) → Passes n ps → Passes s (p ∷ ps)
one s n p ps step next [] rest m k = absurd m
one s n p ps step next (b ∷ bs) rest m k = go s n b (bs ++ rest) (step b m.0) (next bs rest m.1 k)

simply : (n : Inside) (c : Bool) → c ≡ true → cond c (Some n) None ≡ Some n
simply n c e = ap (λ x. cond x (Some n) None) e

hex1 : Passes inside.Hex1 (is_hex ∷ [])
hex1 = one inside.Hex1 inside.Plain is_hex [] (λ b e. simply inside.Plain (is_hex b) e) no_more

hex2 : Passes inside.Hex2 (is_hex ∷ is_hex ∷ [])
hex2 = one inside.Hex2 inside.Hex1 is_hex (is_hex ∷ []) (λ b e. simply inside.Hex1 (is_hex b) e) hex1

hex3 : Passes inside.Hex3 (is_hex ∷ is_hex ∷ is_hex ∷ [])
hex3 = one inside.Hex3 inside.Hex2 is_hex (is_hex ∷ is_hex ∷ []) (λ b e. simply inside.Hex2 (is_hex b) e) hex2

hex4 : Passes inside.Hex4 hexes4
hex4 = one inside.Hex4 inside.Hex3 is_hex (is_hex ∷ is_hex ∷ is_hex ∷ []) (λ b e. simply inside.Hex3 (is_hex b) e) hex3

tail1 : Passes inside.Tail1 (tail ∷ [])
tail1 = one inside.Tail1 inside.Plain tail [] (λ b e. simply inside.Plain (tail b) e) no_more

tail2 : Passes inside.Tail2 (tail ∷ tail ∷ [])
tail2 = one inside.Tail2 inside.Tail1 tail (tail ∷ []) (λ b e. simply inside.Tail1 (tail b) e) tail1

tail3 : Passes inside.Tail3 (tail ∷ tail ∷ tail ∷ [])
tail3 = one inside.Tail3 inside.Tail2 tail (tail ∷ tail ∷ []) (λ b e. simply inside.Tail2 (tail b) e) tail2

e0 : Passes inside.AfterE0 (within 160 191 ∷ tail ∷ [])
e0 = one inside.AfterE0 inside.Tail1 (within 160 191) (tail ∷ []) (λ b e. simply inside.Tail1 (within 160 191 b) e) tail1

ed : Passes inside.AfterEd (within 128 159 ∷ tail ∷ [])
ed = one inside.AfterEd inside.Tail1 (within 128 159) (tail ∷ []) (λ b e. simply inside.Tail1 (within 128 159 b) e) tail1

f0 : Passes inside.AfterF0 (within 144 191 ∷ tail ∷ tail ∷ [])
f0 = one inside.AfterF0 inside.Tail2 (within 144 191) (tail ∷ tail ∷ []) (λ b e. simply inside.Tail2 (within 144 191 b) e) tail2

f4 : Passes inside.AfterF4 (within 128 143 ∷ tail ∷ tail ∷ [])
f4 = one inside.AfterF4 inside.Tail2 (within 128 143) (tail ∷ tail ∷ []) (λ b e. simply inside.Tail2 (within 128 143 b) e) tail2

at_byte : (s n : Inside) (a b : ℕ) → (b == a) ≡ true → string_step s a ≡ Some n → string_step s b ≡ Some n
at_byte s n a b e h = subst (λ x. string_step s x ≡ Some n) (sym (eqb-true b a e)) h

plain_plain : (b : ℕ) → is_plain b ≡ true → string_step inside.Plain b ≡ Some inside.Plain
plain_plain b e = grind (arith, nat_tests)

plain_two : (b : ℕ) → within 194 223 b ≡ true → string_step inside.Plain b ≡ Some inside.Tail1
plain_two b e = grind (arith, nat_tests)

plain_three : (b : ℕ) → within 225 236 b ≡ true → string_step inside.Plain b ≡ Some inside.Tail2
plain_three b e = grind (arith, nat_tests)

plain_three_too : (b : ℕ) → within 238 239 b ≡ true → string_step inside.Plain b ≡ Some inside.Tail2
plain_three_too b e = grind (arith, nat_tests)

plain_four : (b : ℕ) → within 241 243 b ≡ true → string_step inside.Plain b ≡ Some inside.Tail3
plain_four b e = grind (arith, nat_tests)

escape_short : (b : ℕ) → is_short_escape b ≡ true → string_step inside.Escape b ≡ Some inside.Plain
escape_short b e = ap (λ c. cond c (Some inside.Plain) (cond (b == 117) (Some inside.Hex4) None)) e

piece_goes : (p rest : List ℕ) → MeetsOne shapes p → Takes inside.Plain rest → Takes inside.Plain (p ++ rest)
piece_goes p rest (inl m) k = one inside.Plain inside.Plain is_plain [] plain_plain no_more p rest m k
piece_goes p rest (inr (inl m)) k = one inside.Plain inside.Escape (is 92) (is_short_escape ∷ []) (λ b e. at_byte inside.Plain inside.Escape 92 b e refl) (one inside.Escape inside.Plain is_short_escape [] escape_short no_more) p rest m k
piece_goes p rest (inr (inr (inl m))) k = one inside.Plain inside.Escape (is 92) (is 117 ∷ hexes4) (λ b e. at_byte inside.Plain inside.Escape 92 b e refl) (one inside.Escape inside.Hex4 (is 117) hexes4 (λ b e. at_byte inside.Escape inside.Hex4 117 b e refl) hex4) p rest m k
piece_goes p rest (inr (inr (inr (inl m)))) k = one inside.Plain inside.Tail1 (within 194 223) (tail ∷ []) plain_two tail1 p rest m k
piece_goes p rest (inr (inr (inr (inr (inl m))))) k = one inside.Plain inside.AfterE0 (is 224) (within 160 191 ∷ tail ∷ []) (λ b e. at_byte inside.Plain inside.AfterE0 224 b e refl) e0 p rest m k
piece_goes p rest (inr (inr (inr (inr (inr (inl m)))))) k = one inside.Plain inside.Tail2 (within 225 236) (tail ∷ tail ∷ []) plain_three tail2 p rest m k
piece_goes p rest (inr (inr (inr (inr (inr (inr (inl m))))))) k = one inside.Plain inside.AfterEd (is 237) (within 128 159 ∷ tail ∷ []) (λ b e. at_byte inside.Plain inside.AfterEd 237 b e refl) ed p rest m k
piece_goes p rest (inr (inr (inr (inr (inr (inr (inr (inl m)))))))) k = one inside.Plain inside.Tail2 (within 238 239) (tail ∷ tail ∷ []) plain_three_too tail2 p rest m k
piece_goes p rest (inr (inr (inr (inr (inr (inr (inr (inr (inl m))))))))) k = one inside.Plain inside.AfterF0 (is 240) (within 144 191 ∷ tail ∷ tail ∷ []) (λ b e. at_byte inside.Plain inside.AfterF0 240 b e refl) f0 p rest m k
piece_goes p rest (inr (inr (inr (inr (inr (inr (inr (inr (inr (inl m)))))))))) k = one inside.Plain inside.Tail3 (within 241 243) (tail ∷ tail ∷ tail ∷ []) plain_four tail3 p rest m k
piece_goes p rest (inr (inr (inr (inr (inr (inr (inr (inr (inr (inr (inl m))))))))))) k = one inside.Plain inside.AfterF4 (is 244) (within 128 143 ∷ tail ∷ tail ∷ []) (λ b e. at_byte inside.Plain inside.AfterF4 244 b e refl) f4 p rest m k
piece_goes p rest (inr (inr (inr (inr (inr (inr (inr (inr (inr (inr (inr none))))))))))) k = absurd none

pieces_go : (ps : List (List ℕ)) → ArePieces ps → Takes inside.Plain (joined ps ++ 34 ∷ [])
pieces_go [] h = go inside.Plain inside.Closed 34 [] refl refl
pieces_go (p ∷ ps) h = rw (append_assoc p (joined ps) (34 ∷ [])) (piece_goes p (joined ps ++ 34 ∷ []) h.0 (pieces_go ps h.1))

pub string_goes : (t : List ℕ) → IsString t → Takes inside.Start t
string_goes t h = rw h.2 (go inside.Start inside.Plain 34 (joined h.0 ++ 34 ∷ []) refl (pieces_go h.0 h.1))

-- ---- each state can be completed

pub string_completion : Inside → List ℕ
string_completion inside.Start = 34 ∷ 34 ∷ []
string_completion inside.Plain = 34 ∷ []
string_completion inside.Escape = 34 ∷ 34 ∷ []
string_completion inside.Hex4 = 48 ∷ 48 ∷ 48 ∷ 48 ∷ 34 ∷ []
string_completion inside.Hex3 = 48 ∷ 48 ∷ 48 ∷ 34 ∷ []
string_completion inside.Hex2 = 48 ∷ 48 ∷ 34 ∷ []
string_completion inside.Hex1 = 48 ∷ 34 ∷ []
string_completion inside.Tail1 = 128 ∷ 34 ∷ []
string_completion inside.Tail2 = 128 ∷ 128 ∷ 34 ∷ []
string_completion inside.Tail3 = 128 ∷ 128 ∷ 128 ∷ 34 ∷ []
string_completion inside.AfterE0 = 160 ∷ 128 ∷ 34 ∷ []
string_completion inside.AfterEd = 128 ∷ 128 ∷ 34 ∷ []
string_completion inside.AfterF0 = 144 ∷ 128 ∷ 128 ∷ 34 ∷ []
string_completion inside.AfterF4 = 128 ∷ 128 ∷ 128 ∷ 34 ∷ []
string_completion inside.Closed = []

pub string_completes : (s : Inside) → Takes s (string_completion s)
unfolding string_completion
string_completes inside.Start = refl
string_completes inside.Plain = refl
string_completes inside.Escape = refl
string_completes inside.Hex4 = refl
string_completes inside.Hex3 = refl
string_completes inside.Hex2 = refl
string_completes inside.Hex1 = refl
string_completes inside.Tail1 = refl
string_completes inside.Tail2 = refl
string_completes inside.Tail3 = refl
string_completes inside.AfterE0 = refl
string_completes inside.AfterEd = refl
string_completes inside.AfterF0 = refl
string_completes inside.AfterF4 = refl
string_completes inside.Closed = refl
