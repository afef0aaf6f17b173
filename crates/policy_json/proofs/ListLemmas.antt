-- What is read of a list's items, one after another.
use Rattle.std.proofs.Common.{◌≡◌, ℕ, ◌+◌, ◌∷◌, [], ◌++◌, List, Result, Ok, Err, refl, ap, ◌∙◌, append_assoc}
use Rattle.serde_json.specs.Data.{Data, Items, item}
use Rattle.json_value.specs.Results.{◌>>=◌}
use Rattle.policy_json.specs.Reading.{each_from}
use Rattle.policy_json.specs.declared.fault.PolicyFault.{PolicyFault}

-- what is read of the others, behind what was read before
abbrev pub with_front : {A : Type 0} → List A → Result (List A) PolicyFault → Result (List A) PolicyFault
with_front front read = read >>= (λ xs. Ok (front ++ xs))

with_front-front : {A : Type 0} (a b : List A) (r : Result (List A) PolicyFault)
    → with_front (a ++ b) r ≡ with_front a (r >>= (λ xs. Ok (b ++ xs)))
with_front-front a b (Ok xs) = ap Ok (append_assoc a b xs)
with_front-front a b (Err e) = refl

-- one item more was read
pub each_more : {A : Type 0} (read : ℕ → Data → Result A PolicyFault) (done : List A) (place : ℕ) (d : Data) (ds : Items) (x : A)
    → read place d ≡ Ok x
    → with_front (done ++ x ∷ []) (each_from read (place + 1) ds) ≡ with_front done (each_from read place (item d ds))
each_more read done place d ds x e = with_front-front done (x ∷ []) (each_from read (place + 1) ds) ∙ rw e refl
