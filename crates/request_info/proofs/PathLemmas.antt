-- The parts of a path that is made of parts.
use Rattle.std.proofs.Common.{◌≡◌, ◌≢◌, ◌==◌, ℕ, Bool, true, false, cond, List, [], ◌∷◌, ◌++◌, length, refl, sym, ap, ◌∙◌, arith}
use Rattle.std.specs.List.{All, onto_first, slice_split}
use Rattle.std.proofs.lemmas.Bool.{cond-true, cond-false}
use Rattle.std.proofs.lemmas.Bool.Decides.{nat_tests}
use Rattle.std.proofs.lemmas.List.Elements.{All-head, All-tail}
use Rattle.request_info.specs.Parts.{from_first, in_front, to_last, parts_of, path_with, IsPart}

abbrev cut : List ℕ → List (List ℕ)
cut path = slice_split (λ b. b == 47) path

-- a part, and then a slash or the end
part_cut : (part rest : List ℕ) (cuts : List (List ℕ)) → All (λ b. b ≢ 47) part → cut rest ≡ [] ∷ cuts → cut (part ++ rest) ≡ part ∷ cuts
part_cut [] rest cuts h e = e
part_cut (b ∷ part) rest cuts h e =
    let other : (b == 47) ≡ false = isnt (b == 47) refl in
    cond-false _ _ _ other ∙ ap (onto_first b) (part_cut part rest cuts (All-tail (λ x. x ≢ 47) b part h) e)
  where
    isnt : (t : Bool) → (b == 47) ≡ t → (b == 47) ≡ false
    isnt false f = f
    isnt true f = absurd (All-head (λ x. x ≢ 47) b part h (grind (arith, nat_tests, f)))

parts_cut : (parts : List (List ℕ)) → All IsPart parts → cut (path_with parts) ≡ [] ∷ parts
parts_cut [] h = refl
parts_cut (part ∷ parts) h =
    let one = All-head IsPart part parts h in
    ap (λ cuts. [] ∷ cuts) (part_cut part (path_with parts) parts one.1 (parts_cut parts (All-tail IsPart part parts h)))

pub some_length : (s : List ℕ) → s ≢ [] → (length s == 0) ≡ false
some_length [] h = absurd (h refl)
some_length (b ∷ s) h = grind (arith, nat_tests)

all_last : (parts : List (List ℕ)) → All IsPart parts → to_last parts ≡ parts
unfolding to_last
all_last [] h = refl
all_last (part ∷ parts) h =
    ap (in_front part) (all_last parts (All-tail IsPart part parts h)) ∙ kept parts
  where
    kept : (more : List (List ℕ)) → in_front part more ≡ part ∷ more
    kept [] = cond-false _ _ _ (some_length part (All-head IsPart part parts h).0)
    kept (next ∷ more) = refl

all_first : (parts : List (List ℕ)) → All IsPart parts → from_first ([] ∷ parts) ≡ parts
unfolding from_first
all_first [] h = refl
all_first (part ∷ parts) h = cond-false _ _ _ (some_length part (All-head IsPart part parts h).0)

pub parts_are : (parts : List (List ℕ)) → All IsPart parts → parts_of (path_with parts) ≡ parts
unfolding parts_of
parts_are parts h =
    ap (λ cuts. to_last (from_first cuts)) (parts_cut parts h) ∙ ap to_last (all_first parts h) ∙ all_last parts h
