use Rattle.std.proofs.Common.{◌≡◌, ◌++◌, map, Some}
use Rattle.front_plants.specs.MemoryPlant.{slot_door}
use Rattle.front_plants.proofs.unused.UnusedDoors.new.Given as goal

-- those that were taken can be handed out, in order
abbrev pub invariant-loop-door : goal.invariant-loop-door
invariant-loop-door l = record {
  taken : map slot_door l.unused.items ≡ map Some l.yielded;
  whole : l.fn.doors.items ≡ l.yielded ++ l.door-iterator.rest.items;
}
