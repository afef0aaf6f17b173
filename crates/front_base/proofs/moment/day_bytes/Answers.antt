use Rattle.std.proofs.Common.{◌≡◌, ◌/◌, ℕ, ◌∙◌, arith, w8, of_z, to_z}
use Rattle.std.specs.Prelude.{unsigned_abs}
use Rattle.std.proofs.lemmas.Int.{ints}
use Rattle.front_base.specs.Moment.{day_micros}
use Rattle.front_base.proofs.CivilLemmas.{date_text_is}
use Rattle.front_base.proofs.moment.day_bytes.Goals as goal

pub returns : goal.returns
returns c =
    let n : ℕ = c.args.micros / day_micros in
    let date = c.date_of-date.result in
    let month : unsigned_abs (to_z w8 (of_z w8 c.month-month.result)) ≡ date.month = omega (arith, ints, c.month-month.ensures) in
    let day : unsigned_abs (to_z w8 (of_z w8 c.day-day.result)) ≡ date.day = omega (arith, ints, c.day-day.ensures) in
    c.date_bytes.ensures ∙ date_text_is date c.year_of-year.result _ _ n c.year_of-year.ensures.since c.year_of-year.ensures.value month day c.date_of-date.ensures
