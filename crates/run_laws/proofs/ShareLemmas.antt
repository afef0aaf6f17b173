-- Lines of many bays, counted bay by bay.
use Rattle.std.proofs.Common.{◌≡◌, ◌+◌, ◌<◌, ◌≤◌, ◌⊎◌, inl, inr, ℕ, zero, suc, Bool, true, false, cond, List, [], ◌∷◌, length, sum_by, slice_get, IfSome, refl, arith, ◌==◌}
use Rattle.std.proofs.lemmas.Bool.{cases_lt, eq-eqb}
use Rattle.std.proofs.lemmas.List.Sums.{sum_by-cons}
use Rattle.front_base.specs.Line.{Line}
use Rattle.shared_queue.specs.Bays.{of_bay}

-- ---- a number for each place of a list

module _ {X : Type 0} where
  abbrev pub total : (ℕ → ℕ) → List X → ℕ
  total f [] = 0
  total f (x ∷ xs) = f 0 + total (λ i. f (suc i)) xs

  total_few : (f g : ℕ → ℕ) (xs : List X) → ((i : ℕ) → f i ≤ g i) → total f xs ≤ total g xs
  total_few f g [] few = omega arith
  total_few f g (x ∷ xs) few = omega (arith, few 0, total_few (λ i. f (suc i)) (λ i. g (suc i)) xs (λ i. few (suc i)))

  -- one more at one place
  total_more : (f g : ℕ → ℕ) (xs : List X) (at : ℕ) → ((i : ℕ) → f i ≤ g i) → f at < g at → at < length xs → total f xs < total g xs
  total_more f g [] at few more in_it = absurd (omega (arith, in_it))
  total_more f g (x ∷ xs) zero few more in_it =
      omega (arith, more, total_few (λ i. f (suc i)) (λ i. g (suc i)) xs (λ i. few (suc i)))
  total_more f g (x ∷ xs) (suc at) few more in_it =
      omega (arith, few 0, total_more (λ i. f (suc i)) (λ i. g (suc i)) xs at (λ i. few (suc i)) more (omega (arith, in_it)))

  module _ (most : X → ℕ) where
    pub total_most : (f : ℕ → ℕ) (xs : List X) → ((i : ℕ) → IfSome (slice_get xs i) (λ x. f i ≤ most x)) → total f xs ≤ sum_by most xs
    total_most f [] each = omega arith
    total_most f (x ∷ xs) each = omega (arith, each 0, sum_by-cons most x xs, total_most (λ i. f (suc i)) xs (λ i. each (suc i)))

    -- where the sum has all, each has all of its own
    pub all_of_each : (f : ℕ → ℕ) (xs : List X) → ((i : ℕ) → IfSome (slice_get xs i) (λ x. f i ≤ most x)) → sum_by most xs ≤ total f xs
        → (i : ℕ) → IfSome (slice_get xs i) (λ x. f i ≡ most x)
    all_of_each f [] each all i = tt
    all_of_each f (x ∷ xs) each all zero =
        omega (arith, all, each 0, sum_by-cons most x xs, total_most (λ i. f (suc i)) xs (λ i. each (suc i)))
    all_of_each f (x ∷ xs) each all (suc i) =
        all_of_each (λ i. f (suc i)) xs (λ i. each (suc i))
        (omega (arith, all, each 0, sum_by-cons most x xs, total_most (λ i. f (suc i)) xs (λ i. each (suc i)))) i

-- ---- lines

one_more : (mine : Bool) (l : Line) (ls : List Line) → length ls ≤ length (cond mine (l ∷ ls) ls)
one_more true l ls = omega arith
one_more false l ls = omega arith

one_mine : (mine : Bool) (l : Line) (ls : List Line) → mine ≡ true → length ls < length (cond mine (l ∷ ls) ls)
one_mine true l ls e = omega arith
one_mine false l ls e = cc

no_line : (mine : Bool) (l : Line) (ls : List Line) → cond mine (l ∷ ls) ls ≡ [] → ls ≡ []
no_line true l ls e = absurd cc
no_line false l ls e = e

not_mine : (mine : Bool) (l : Line) (ls : List Line) → cond mine (l ∷ ls) ls ≡ [] → mine ≡ false
not_mine true l ls e = absurd cc
not_mine false l ls e = refl

-- a line of the first bays: every other bay has none
bay_below : {X : Type 0} (xs : List X) (l : Line) (ls : List Line) → ((bay : ℕ) → length xs ≤ bay → of_bay bay (l ∷ ls) ≡ [])
    → (l.bay < length xs) ⊎ (length xs ≤ l.bay) → l.bay < length xs
bay_below xs l ls none (inl below) = below
bay_below xs l ls none (inr above) =
    let no = not_mine (l.bay == l.bay) l (of_bay l.bay ls) (none l.bay above) in
    let yes = eq-eqb l.bay l.bay refl in
    absurd (cc)

-- where other bays have none, the lines are those of the bays together
pub shares : {X : Type 0} (xs : List X) (ls : List Line) → ((bay : ℕ) → length xs ≤ bay → of_bay bay ls ≡ [])
    → length ls ≤ total (λ bay. length (of_bay bay ls)) xs
shares xs [] none = omega arith
shares xs (l ∷ ls) none =
    let rest = shares xs ls (λ bay above. no_line (l.bay == bay) l (of_bay bay ls) (none bay above)) in
    let more = total_more (λ bay. length (of_bay bay ls)) (λ bay. length (of_bay bay (l ∷ ls))) xs l.bay
    (λ bay. one_more (l.bay == bay) l (of_bay bay ls)) (one_mine (l.bay == l.bay) l (of_bay l.bay ls) (eq-eqb l.bay l.bay refl))
    (bay_below xs l ls none (cases_lt l.bay (length xs))) in
    omega (arith, rest, more)
