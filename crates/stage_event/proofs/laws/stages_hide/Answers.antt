use Rattle.stage_event.proofs.ViewLemmas.{event-received, event-begun, event-started}
use Rattle.stage_event.proofs.laws.stages_hide.Goals as goal

pub returns : goal.returns
returns c = record { received = event-received; begun = event-begun; started = event-started }
