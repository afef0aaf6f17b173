use Rattle.std.proofs.Common.{◌≡◌, ◌<◌, ◌≤◌, ◌∙◌, None, ap, arith, length, sym}
use Rattle.front_plants.proofs.UnusedLemmas.{door_in-gone, door_in-other, door_in-past, door_in-slot}
use Rattle.front_plants.specs.MemoryPlant.{slot_door}
use Rattle.front_plants.proofs.unused.UnusedDoors.take.Goals as goal

pub returns-in-Some-clause-others : goal.returns-in-Some-clause-others
returns-in-Some-clause-others c = λ other apart. door_in-other c.args.self.now.doors.items c.args.bay other _ apart

pub returns-in-None-clause-door : goal.returns-in-None-clause-door
returns-in-None-clause-door c =
    let empty : c.index_mut.result.now ≡ None = sym c.take.ensures.value ∙ c.in-None.is in
    let within : c.args.bay < length c.args.self.now.doors.items = omega arith in
    sym (ap slot_door empty)
    ∙ sym (door_in-slot c.args.self.now.doors.items c.args.bay c.index_mut.result.now within c.index_mut.ensures.value)

pub returns-else-at-len-clause-door : goal.returns-else-at-len-clause-door
returns-else-at-len-clause-door c =
    let past : length c.args.self.now.doors.items ≤ c.args.bay = omega arith in
    sym (door_in-past c.args.self.now.doors.items c.args.bay past)

pub returns-in-Some-clause-gone : goal.returns-in-Some-clause-gone
returns-in-Some-clause-gone c = rw c.take.ensures.after (door_in-gone c.args.self.now.doors.items c.args.bay)

pub returns-in-None-clause-gone : goal.returns-in-None-clause-gone
returns-in-None-clause-gone c = rw c.take.ensures.after (door_in-gone c.args.self.now.doors.items c.args.bay)

pub returns-else-at-len-clause-gone : goal.returns-else-at-len-clause-gone
returns-else-at-len-clause-gone c =
    let past : length c.args.self.now.doors.items ≤ c.args.bay = omega arith in
    door_in-past c.args.self.now.doors.items c.args.bay past
