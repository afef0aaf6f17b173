-- Borrowed rows, as the rows that they are.
use Rattle.std.proofs.Common.{Bor, ◌≡◌, Bool, true, false, cond, List, [], ◌∷◌, map, filter, refl, ap}
use Rattle.apiservice_rows.specs.Row.{Row}

abbrev now : Bor Row → Row
now r = r.now

pub filter_lent : (p : Row → Bool) (rows : List (Bor Row))
    → map (λ r. r.now) (filter (λ r. p r.now) rows) ≡ filter p (map (λ r. r.now) rows)
filter_lent p [] = refl
filter_lent p (r ∷ rows) = either (p r.now) (filter_lent p rows)
  where
    either : (b : Bool) → map now (filter (λ r. p r.now) rows) ≡ filter p (map now rows)
        → map now (cond b (r ∷ filter (λ r. p r.now) rows) (filter (λ r. p r.now) rows))
        ≡ cond b (r.now ∷ filter p (map now rows)) (filter p (map now rows))
    either true rest = ap (λ l. r.now ∷ l) rest
    either false rest = rest
