-- Borrowed rows, and an edit of their list.
use Rattle.std.proofs.Common.{Bor, ◌≡◌, ℕ, zero, suc, List, [], ◌∷◌, map, refl, ap}
use Rattle.std.specs.List.{insert, remove}
use Rattle.apiservice_rows.specs.Row.{Row}

abbrev now : Bor Row → Row
now r = r.now

pub lent-insert : (rows : List (Bor Row)) (i : ℕ) (x : Bor Row)
    → map (λ r. r.now) (insert rows i x) ≡ insert (map (λ r. r.now) rows) i x.now
lent-insert rows zero x = refl
lent-insert [] (suc i) x = refl
lent-insert (r ∷ rows) (suc i) x = ap (λ l. r.now ∷ l) (lent-insert rows i x)

pub lent-remove : (rows : List (Bor Row)) (i : ℕ)
    → map (λ r. r.now) (remove rows i) ≡ remove (map (λ r. r.now) rows) i
lent-remove [] zero = refl
lent-remove [] (suc i) = refl
lent-remove (r ∷ rows) zero = refl
lent-remove (r ∷ rows) (suc i) = ap (λ l. r.now ∷ l) (lent-remove rows i)
