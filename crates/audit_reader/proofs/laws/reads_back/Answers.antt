use Rattle.std.proofs.Common.{ap, ◌∙◌}
use Rattle.event_text.specs.Line.{line_text}
use Rattle.audit_reader.specs.EventLine.{event_at}
use Rattle.audit_reader.proofs.RoundTripLemmas.{same_event}
use Rattle.audit_reader.proofs.laws.reads_back.Goals as goal

pub returns-clause-back : goal.returns-clause-back
returns-clause-back c = c.each_is_read.ensures

pub returns-clause-one : goal.returns-clause-one
returns-clause-one c = λ a b fa pa fb pb same.
    same_event (event_at (line_text a)) a b (c.each_is_read.ensures a fa pa) (ap event_at same ∙ c.each_is_read.ensures b fb pb)
