use Rattle.std.proofs.lemmas.Result.{IfOk-weaker}
use Rattle.front_plants.specs.MemoryPlant.{plant_tells}
use Rattle.rehearse_setting.proofs.Sent.{is_due}
use Rattle.rehearse_setting.proofs.ports.rehearsal_plant.Goals as goal

pub returns-clause-sent : goal.returns-clause-sent
returns-clause-sent g c =
    IfOk-weaker _ _ _
    (λ plant due. is_due c.args.plan.start c.args.plan.count c.args.plan.bays c.in_ok-doors.field-0.items (plant_tells plant).due
    c.in_ok-doors.ensures.count c.in_ok-doors.ensures.sent due)
    c.new-3.ensures.due
