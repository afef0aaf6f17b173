use Rattle.alike_requests.proofs.SeenLemmas.{door_noted, door_notes}
use Rattle.alike_requests.proofs.laws.a_door_notes_its_requests.Goals as goal

pub returns-clause-noted : goal.returns-clause-noted
returns-clause-noted g c = door_notes

pub returns-clause-each : goal.returns-clause-each
returns-clause-each g c = door_noted
