use Rattle.log_lines.proofs.LineLemmas.{found_from, not_found}
use Rattle.log_lines.proofs.next.feed_from.Goals as goal

pub returns-in-Some : goal.returns-in-Some
returns-in-Some c =
    let found = c.in-Some.ensures in
    found_from c.args.held.now c.args.from c.in-Some.further c.requires found.0.high found.0.before found.1

pub returns-in-None : goal.returns-in-None
returns-in-None c = not_found c.args.held.now c.args.from c.requires c.in-None.ensures
