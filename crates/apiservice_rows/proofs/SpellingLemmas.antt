-- A version has no dot.
use Rattle.std.proofs.Common.{◌≡◌, ℕ, ◌==◌, Bool, true, false, List, [], ◌∷◌, refl, arith}
use Rattle.std.specs.Prelude.{◌&&◌}
use Rattle.std.proofs.lemmas.Bool.Decides.{nat_tests}
use Rattle.apiservice_rows.specs.Object.{is_version_byte, are_version_bytes}
use Rattle.apiservice_rows.specs.Row.{has_dot}

both : (a b : Bool) → (a && b) ≡ true → (a ≡ true) × (b ≡ true)
both true b e = (refl, e)
both false b e = absurd (cc e)

no_dot_byte : (c : ℕ) → is_version_byte c ≡ true → (c == 46) ≡ false
no_dot_byte c e = grind (arith, nat_tests, e)

pub no_dots : (text : List ℕ) → are_version_bytes text ≡ true → has_dot text ≡ false
no_dots [] e = refl
no_dots (c ∷ rest) e =
    let h = both (is_version_byte c) (are_version_bytes rest) e in
    rw (no_dot_byte c h.0) (no_dots rest h.1)
