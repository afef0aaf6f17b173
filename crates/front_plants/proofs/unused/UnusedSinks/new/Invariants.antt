use Rattle.std.proofs.Common.{◌≡◌, ◌++◌}
use Rattle.front_plants.specs.MemoryPlant.{sinks_of}
use Rattle.front_plants.proofs.unused.UnusedSinks.new.Given as goal

-- those that were taken can be handed out, in order
abbrev pub invariant-loop-sink : goal.invariant-loop-sink
invariant-loop-sink l = record {
  taken : sinks_of l.unused.items ≡ l.yielded;
  whole : l.fn.sinks.items ≡ l.yielded ++ l.sink-iterator.rest.items;
}
