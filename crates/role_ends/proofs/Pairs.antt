-- What holds at each place of a list that was lent as a slice.
use Rattle.std.proofs.Common.{◌≡◌, ◌<◌, ℕ, suc, List, [], ◌∷◌, ◌++◌, length, append-nil, get_or, take, drop, sym, ap, ◌∙◌, subst, arith}
use Rattle.std.proofs.Math.Seq.{drop-length, take-length}
use Rattle.role_threads.specs.Lists.{AllPairs}

pairs_of : {A : Type 0} (P : A → A → Type 0) (xs ys : List A) → length ys ≡ length xs
    → ((i : ℕ) (d : A) → i < length xs → P (get_or xs i d) (get_or ys i d)) → AllPairs P xs ys
pairs_of P [] [] e f = tt
pairs_of P [] (y ∷ ys) e f = absurd (omega arith)
pairs_of P (x ∷ xs) [] e f = absurd (omega arith)
pairs_of P (x ∷ xs) (y ∷ ys) e f =
    (f 0 x (omega arith), pairs_of P xs ys (omega arith) (λ i d lt. f (suc i) d (omega arith)))

written_back : {A : Type 0} (new items : List A) (n : ℕ) → length new ≡ length items → n ≡ length items
    → take n (new ++ drop (length new) items) ≡ new
written_back new items n same len =
    let e : drop (length new) items ≡ [] = ap (λ k. drop k items) same ∙ drop-length items in
    ap (λ l. take n (new ++ l)) e ∙ (ap (λ l. take n l) (append-nil new) ∙ (ap (λ k. take k new) (len ∙ sym same) ∙ take-length new))

pub pairs_back : {A : Type 0} (P : A → A → Type 0) (xs old new : List A) (n : ℕ) → old ≡ xs → length new ≡ length old → n ≡ length xs
    → ((i : ℕ) (d : A) → i < length old → P (get_or old i d) (get_or new i d))
    → AllPairs P xs (take n (new ++ drop (length new) xs))
pairs_back {A = A} P xs old new n e len count f =
    subst (λ (l : List A). AllPairs P xs l) (sym (written_back new xs n (len ∙ ap length e) count))
    (subst (λ (l : List A). AllPairs P l new) e (pairs_of P old new len f))
