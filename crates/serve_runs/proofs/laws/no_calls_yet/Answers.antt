use Rattle.serve_runs.proofs.CallLemmas.{PartLaws, no_calls}
use Rattle.serve_runs.proofs.laws.no_calls_yet.Goals as goal

pub returns : goal.returns
returns c set options a =
    let says = c.calls_in_part.ensures in
    let law : PartLaws = record { none = says.none; whole = says.whole; less = says.less; more = says.more } in
    no_calls law set options a
