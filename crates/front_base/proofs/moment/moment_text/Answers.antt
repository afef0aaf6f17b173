use Rattle.std.proofs.Common.{◌<◌, ◌^◌, arith, rules}
use Rattle.front_base.proofs.TextLemmas.{moment_utf8}
use Rattle.front_base.proofs.moment.moment_text.Goals as goal

pub unreachable-requires : goal.unreachable-requires
unreachable-requires c =
    let small : c.args.moment < 2 ^ 63 = omega (arith, c.micros-micros.ensures.bound, c.micros-micros.ensures.value) in
    search (rules, moment_utf8 c.args.moment small, c.from_utf8.ensures, c.in-Err.is, c.in_ok-text_of.ensures)
