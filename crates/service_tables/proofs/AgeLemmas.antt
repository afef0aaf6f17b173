-- Numbers that aren't below zero.
use Rattle.std.proofs.Common.{◌≡◌, Some, None, refl, arith}
use Rattle.std.proofs.lemmas.Int.{ints}
use Rattle.std.specs.Prelude.{ℤ, pos, negsuc, unsigned_abs, ◌<ℤ◌, ◌≤ℤ◌}
use Rattle.service_tables.specs.Ages.{natural}

pub natural_below : (n : ℤ) → n <ℤ pos 0 → natural n ≡ None
natural_below (pos n) h = absurd (omega (arith, ints))
natural_below (negsuc n) h = refl

pub natural_from_zero : (n : ℤ) → pos 0 ≤ℤ n → natural n ≡ Some (unsigned_abs n)
natural_from_zero (pos n) h = refl
natural_from_zero (negsuc n) h = absurd (omega (arith, ints))
