use Rattle.std.proofs.Common.{◌≡◌, None, Some, rules}
use Rattle.probe_rounds.proofs.TurnLemmas.{turn_breaks, turn_goes, turn_stays}
use Rattle.service_endpoints.specs.Find.{endpoint_of}
use Rattle.probe_rounds.proofs.turn.turn.Goals as goal

pub returns-in-None-clause-ok : goal.returns-in-None-clause-ok
returns-in-None-clause-ok g c =
    let none : c.args.row.now.service ≡ None = search rules in
    turn_stays c.args.plan.now c.args.round.now c.args.at c.args.row.now _ none

pub returns-in-Ok-clause-ok : goal.returns-in-Ok-clause-ok
returns-in-Ok-clause-ok g c =
    let is : c.args.row.now.service ≡ Some c.in-Some.service = search rules in
    let there : c.of-address.result ≡ endpoint_of c.args.plan.now.endpoints (Some c.in-Some.service) = search rules in
    turn_goes c.args.plan.now c.args.round.now c.args.at c.args.row.now c.in-Some.service c.of-address.result _ _ is there c.in-Ok.ensures.ok

pub returns-in-Err-clause-err : goal.returns-in-Err-clause-err
returns-in-Err-clause-err g c =
    let is : c.args.row.now.service ≡ Some c.in-Some.service = search rules in
    let there : c.of-address.result ≡ endpoint_of c.args.plan.now.endpoints (Some c.in-Some.service) = search rules in
    turn_breaks c.args.plan.now c.args.round.now c.args.at c.args.row.now c.in-Some.service c.of-address.result _ c.in-Err.stop _ _ is there
    c.in-Err.ensures.err
