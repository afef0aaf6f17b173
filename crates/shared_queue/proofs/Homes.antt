-- A home says which queue it is.
use Rattle.std.proofs.Common.{◌≡◌, ℕ, List, [], ◌∷◌, ◌++◌, length, refl, arith}
use Rattle.atomic_table.specs.Seated.{TableId}
use Rattle.shared_queue.specs.Homes.{home_of}

-- two lists of one length, each with others after it
same_parts : (a b x y : List ℕ) → length a ≡ length b → a ++ x ≡ b ++ y → (a ≡ b) × (x ≡ y)
same_parts [] [] x y n e = (refl, e)
same_parts [] (v ∷ b) x y n e = absurd (omega arith)
same_parts (u ∷ a) [] x y n e = absurd (omega arith)
same_parts (u ∷ a) (v ∷ b) x y n e =
    let h : u ≡ v = cc in
    let t : (a ++ x) ≡ b ++ y = cc in
    let r = same_parts a b x y (omega arith) t in
    (λ i. h i ∷ r.0 i, r.1)

pub one_home : (t u : TableId) (c d : ℕ) (a b : List ℕ) → home_of t c a ≡ home_of u d b → (t ≡ u) × ((c ≡ d) × (a ≡ b))
one_home t u c d a b e =
    let e0 : t.words ≡ u.words = cc in
    let e1 : t.slots ≡ u.slots = cc in
    let e2 : t.views_name ≡ u.views_name = cc in
    let e3 : t.atom ≡ u.atom = cc in
    let e4 : t.block ≡ u.block = cc in
    let e5 : t.offset ≡ u.offset = cc in
    let e6 : c ≡ d = cc in
    let n : length a ≡ length b = cc in
    let rest : (a ++ t.slot_names) ≡ b ++ u.slot_names = cc in
    let r = same_parts a b t.slot_names u.slot_names n rest in
    (λ i. record { words = e0 i; slots = e1 i; views_name = e2 i; atom = e3 i; block = e4 i; offset = e5 i; slot_names = r.1 i }, (e6, r.0))
