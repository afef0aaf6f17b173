-- Files by their names and their bytes.
use Rattle.std.proofs.Common.{◌≡◌, ℕ, List, [], ◌∷◌, ap, ◌∙◌}

pub file_is : (file : List ℕ × List ℕ) (name bytes : List ℕ) → (file.0 ≡ name) × (file.1 ≡ bytes) → file ≡ (name, bytes)
file_is file name bytes e = ap (λ x. (x, file.1)) e.0 ∙ ap (λ y. (name, y)) e.1

pub three : {A : Type 0} (a b c d e f : A) → a ≡ d → b ≡ e → c ≡ f → (a ∷ b ∷ c ∷ []) ≡ (d ∷ e ∷ f ∷ [])
three a b c d e f p q r = ap (λ x. x ∷ b ∷ c ∷ []) p ∙ (ap (λ x. d ∷ x ∷ c ∷ []) q ∙ ap (λ x. d ∷ e ∷ x ∷ []) r)
