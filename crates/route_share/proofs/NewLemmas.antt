-- New routes, one after another.
use Rattle.std.proofs.Common.{◌≡◌, ℕ, ◌+◌, List, [], ◌∷◌, ◌++◌, length, subst, arith}
use Rattle.apiservice_rows.specs.Row.{Row}
use Rattle.logbook.specs.Pages.{Book}
use Rattle.shared_routes.specs.Shared.{Shared, IsNew, AreNew}

-- those of the next bay join the others
pub new_push : (home : Book) (opening : List Row) (n : ℕ) (xs : List Shared) (x : Shared) → AreNew home opening n xs → IsNew home opening (n + length xs) x
    → AreNew home opening n (xs ++ x ∷ [])
new_push home opening n [] x all one = (subst (λ (k : ℕ). IsNew home opening k x) (omega arith) one, tt)
new_push home opening n (y ∷ ys) x all one =
    (all.0, new_push home opening (n + 1) ys x all.1 (subst (λ (k : ℕ). IsNew home opening k x) (omega arith) one))
