use Rattle.std.proofs.Common.{sym, ◌∙◌}
use Rattle.bay_logs.proofs.OwedLemmas.{lines_of_bays}
use Rattle.bay_logs.proofs.laws.woven_lines_conform.Goals as goal

pub returns : goal.returns
returns c = λ set boot keeps sink xs lines tokens noted woven.
    lines_of_bays (λ a b text p q. c.reads_back.ensures.one a b p.fits p.plain q.fits q.plain (p.spells ∙ sym q.spells))
    c.recorded_lines.ensures.conform c.recorded_lines.ensures.own set tokens boot keeps sink xs lines noted woven
