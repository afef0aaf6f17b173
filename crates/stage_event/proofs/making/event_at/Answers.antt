use Rattle.stage_event.proofs.ViewLemmas.{event_parts}
use Rattle.stage_event.proofs.making.event_at.Goals as goal

pub returns : goal.returns
returns c =
    let asked = c.in_ok-asked.ensures in
    let objects = c.in_ok-objects.ensures in
    event_parts c.args.stage c.args.level c.args.facts.now _ _ _ _ _ _ _ _ _ _ c.requires.level asked.0
    asked.1 asked.2 asked.3 asked.4 objects.0 c.code.ensures objects.1 objects.2 c.moment.ensures
