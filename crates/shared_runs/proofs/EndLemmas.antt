-- What bays made, one bay more at a time.
use Rattle.std.proofs.Common.{◌≡◌, ℕ, ◌+◌, List, [], ◌∷◌, ◌++◌, length, map, arith}
use Rattle.serve_roles.specs.declared.bay_end.BayEnd.{BayEnd}
use Rattle.shared_routes.specs.Makers.{AreNumbered, own_count}
use Rattle.shared_routes.specs.Shared.{Shared}
use Rattle.shared_runs.specs.Unnamed.{routes_of}

module _ {L K Y D : Type 0} where
  pub count_push : (xs : List (BayEnd Shared L K Y D)) (x : BayEnd Shared L K Y D)
      → own_count (map routes_of (xs ++ x ∷ [])) ≡ own_count (map routes_of xs) + length x.routes.places
  count_push [] x = omega arith
  count_push (y ∷ ys) x = omega (arith, count_push ys x)

  numbered_from : (n : ℕ) (xs : List (BayEnd Shared L K Y D)) (x : BayEnd Shared L K Y D) → AreNumbered n (map routes_of xs)
      → x.routes.bay ≡ n + length xs → AreNumbered n (map routes_of (xs ++ x ∷ []))
  numbered_from n [] x num is = (omega (arith, is), tt)
  numbered_from n (y ∷ ys) x num is = (num.0, numbered_from (n + 1) ys x num.1 (omega (arith, is)))

  -- the next number joins those before it
  pub numbered_push : (xs : List (BayEnd Shared L K Y D)) (x : BayEnd Shared L K Y D) (k : ℕ) → AreNumbered 0 (map routes_of xs)
      → k ≡ length xs → x.routes.bay ≡ k → AreNumbered 0 (map routes_of (xs ++ x ∷ []))
  numbered_push xs x k num len is = numbered_from 0 xs x num (omega (arith, len, is))
