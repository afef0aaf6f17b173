-- A clock in memory tells its moments while it can count them.
use Rattle.std.proofs.Common.{◌≡◌, ℕ, ◌+◌, ◌-◌, ◌^◌, ◌≤◌, min, Bool, true, false, nat_lt, if◌then◌else◌, List, [], ◌∷◌, ◌++◌, length, Some, None, arith, refl}
use Rattle.std.proofs.lemmas.Bool.Decides.{nat_tests}
use Rattle.std.proofs.lemmas.List.FromFn.{map-range_with_len_more, length-map-range_with_len}
use Rattle.front_ports.specs.Clocks.{LosesAtEnd, moment_at, first_moments, told_moments}
use Rattle.front_ports.specs.Told.{Grows}

grows_when : (a b : Bool) (xs ys : List ℕ) (m : ℕ) → (b ≡ true → (a ≡ true) × (ys ≡ xs ++ m ∷ [])) → Grows (if a then Some xs else None) (if b then Some ys else None) (m ∷ [])
grows_when true true xs ys m h = (h refl).1
grows_when true false xs ys m h = tt
grows_when false false xs ys m h = refl
grows_when false true xs ys m h = let e : false ≡ true = (h refl).0 in cc

loses_when : (a b : Bool) (xs ys : List ℕ) → (b ≡ false → 2 ^ 64 - 1 ≤ length xs + 1) → LosesAtEnd (if a then Some xs else None) (if b then Some ys else None)
loses_when true true xs ys h = tt
loses_when true false xs ys h = h refl
loses_when false b xs ys h = tt

-- one moment more
pub told_grow : (start step n more m : ℕ) → more ≡ min (n + 1) (2 ^ 64 - 1) → m ≡ moment_at start step n → Grows (told_moments start step n) (told_moments start step more) (m ∷ [])
told_grow start step n more m counted is =
    grows_when (nat_lt n (2 ^ 64 - 1)) (nat_lt more (2 ^ 64 - 1)) _ _ m (λ below. (
      grind (arith, nat_tests),
      let next : more ≡ n + 1 = grind (arith, nat_tests) in
          rw (next, is) (map-range_with_len_more (moment_at start step) 0 n n (omega arith)),
    ))

pub told_lose : (start step n more : ℕ) → more ≡ min (n + 1) (2 ^ 64 - 1) → LosesAtEnd (told_moments start step n) (told_moments start step more)
told_lose start step n more counted =
    loses_when (nat_lt n (2 ^ 64 - 1)) (nat_lt more (2 ^ 64 - 1)) _ _ (λ past.
    let size : length (first_moments start step n) ≡ n = length-map-range_with_len (moment_at start step) 0 n in
    rw size (grind (arith, nat_tests)))
