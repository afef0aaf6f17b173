use Rattle.std.proofs.Common.{◌≡◌, ◌<◌, ◌/◌, pos, ℕ, ◌*◌, ◌^◌, ℤ, w64, to_z, arith, ap, ◌∙◌, lit<}
use Rattle.std.specs.Int.{int_div_euclid}
use Rattle.std.proofs.lemmas.Int.{ints, to_z_pos}
use Rattle.jiff.specs.Words.{civil_nanos, epoch_day}
use Rattle.jiff_core.proofs.DateTimeLemmas.{epoch_day-civil_nanos}
use Rattle.jiff_core.proofs.SignedLemmas.{int_div_euclid-parts}
use Rattle.front_base.proofs.moment.date_of.Goals as goal

div_days : (z : ℤ) (m : ℕ) → z ≡ pos (m * 1000) → int_div_euclid z (pos 86_400_000_000_000) ≡ pos (m / 86_400_000_000)
div_days z m e =
    let p = int_div_euclid-parts z 86_400_000_000_000 (lit< tt) in
    omega (arith, ints, p.0, p.1, e)

pub returns : goal.returns
returns c =
    let small : c.args.micros < 2 ^ 63 = omega arith in
    let z : to_z w64 c.args.micros ≡ pos c.args.micros = to_z_pos w64 c.args.micros small in
    let n : civil_nanos c.to_datetime.result ≡ pos (c.args.micros * 1000) = omega (arith, ints, c.to_datetime.ensures, c.in-Ok.ensures.value, z) in
    ap epoch_day c.date.ensures ∙ epoch_day-civil_nanos c.to_datetime.result ∙ div_days _ c.args.micros n
