use Rattle.std.proofs.Common.{◌≡◌, ◌++◌}
use Rattle.front_plants.specs.MemoryPlant.{dials_of}
use Rattle.front_plants.proofs.unused.UnusedDials.new.Given as goal

-- those that were taken can be handed out, in order
abbrev pub invariant-loop-dial : goal.invariant-loop-dial
invariant-loop-dial l = record {
  taken : dials_of l.unused.items ≡ l.yielded;
  whole : l.fn.dials.items ≡ l.yielded ++ l.dial-iterator.rest.items;
}
