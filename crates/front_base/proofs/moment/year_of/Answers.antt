use Rattle.std.proofs.Common.{arith, pos, ◌<ℤ◌, ◌/◌}
use Rattle.std.proofs.lemmas.Int.{ints}
use Rattle.front_base.specs.Moment.{day_micros}
use Rattle.front_base.proofs.YearLemmas.{no_year_below}
use Rattle.front_base.proofs.moment.year_of.Goals as goal

pub unreachable-requires : goal.unreachable-requires
unreachable-requires c =
    let below : c.year-year.result <ℤ pos 1970 = grind (arith, ints) in
    let same = c.year-year.ensures in
    no_year_below c.args.date (c.args.micros / day_micros) c.requires (omega (arith, ints, below, same))
