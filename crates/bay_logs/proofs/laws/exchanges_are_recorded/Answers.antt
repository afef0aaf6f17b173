use Rattle.bay_logs.proofs.NotedLemmas.{door_noted}
use Rattle.bay_logs.proofs.laws.exchanges_are_recorded.Goals as goal

pub returns : goal.returns
returns g c = λ tells set m n all ran. door_noted tells set m all n ran
