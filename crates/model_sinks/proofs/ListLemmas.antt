use Rattle.std.proofs.Common.{◌≡◌, ℕ, zero, suc, List, [], ◌∷◌, Some, refl, ap, sym}
use Rattle.std.specs.Prelude.{slice_get, slice_set}

-- what was read, written back, changes nothing
pub set_read : {A : Type 0} (xs : List A) (i : ℕ) (x : A) → slice_get xs i ≡ Some x → slice_set xs i x ≡ xs
set_read [] i x h = refl
set_read (y ∷ ys) zero x h = let e : y ≡ x = cc in ap (λ z. z ∷ ys) (sym e)
set_read (y ∷ ys) (suc i) x h = ap (λ zs. y ∷ zs) (set_read ys i x h)
