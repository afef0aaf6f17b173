-- Lines are told by whose they are and by the lines of each bay.
use Rattle.std.proofs.Common.{◌≡◌, ◌==◌, ℕ, Bool, true, false, cond, List, [], ◌∷◌, refl, ap, sym, ◌∙◌, arith}
use Rattle.std.proofs.lemmas.Bool.Decides.{nat_tests}
use Rattle.alike_exchanges.specs.Cuts.{bays_of}
use Rattle.front_base.specs.Line.{Line}
use Rattle.shared_queue.specs.Bays.{of_bay}

own_first : (x : Line) (xs : List Line) → of_bay x.bay (x ∷ xs) ≡ x ∷ of_bay x.bay xs
own_first x xs = grind (arith, nat_tests)

drop_first : (b : Bool) (x y : Line) (xs ys : List Line) → cond b (x ∷ xs) xs ≡ cond b (y ∷ ys) ys → xs ≡ ys
drop_first true x y xs ys e = cc
drop_first false x y xs ys e = e

-- the lines after the first
rest_of : (x y : Line) (xs ys : List Line) → x.bay ≡ y.bay → (bay : ℕ) → of_bay bay (x ∷ xs) ≡ of_bay bay (y ∷ ys) → of_bay bay xs ≡ of_bay bay ys
rest_of x y xs ys b bay e =
    drop_first (x.bay == bay) x y (of_bay bay xs) (of_bay bay ys)
    (e ∙ ap (λ n. cond (n == bay) (y ∷ of_bay bay ys) (of_bay bay ys)) (sym b))

first_of_part : (x y : Line) (xs ys : List Line) → x.bay ≡ y.bay → of_bay x.bay (x ∷ xs) ≡ of_bay x.bay (y ∷ ys) → x ≡ y
first_of_part x y xs ys b e =
    let own = own_first x xs in
    let other = ap (λ n. of_bay n (y ∷ ys)) b ∙ own_first y ys in
    cc

pub same_parts : (ls ks : List Line) → bays_of ls ≡ bays_of ks → ((bay : ℕ) → of_bay bay ls ≡ of_bay bay ks) → ls ≡ ks
same_parts [] [] b h = refl
same_parts [] (k ∷ ks) b h = absurd cc
same_parts (l ∷ ls) [] b h = absurd cc
same_parts (l ∷ ls) (k ∷ ks) b h =
    let first : l.bay ≡ k.bay = cc in
    let rest : bays_of ls ≡ bays_of ks = cc in
    let here : l ≡ k = first_of_part l k ls ks first (h l.bay) in
    let there : ls ≡ ks = same_parts ls ks rest (λ bay. rest_of l k ls ks first bay (h bay)) in
    cc
