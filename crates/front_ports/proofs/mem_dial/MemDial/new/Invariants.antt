use Rattle.std.proofs.Common.{◌≡◌, ◌++◌, length, deque_len}
use Rattle.front_ports.specs.MemoryDial.{ready_links}
use Rattle.front_ports.proofs.mem_dial.MemDial.new.Given as goal

-- those that were taken are ready, in order
abbrev pub invariant-loop-link : goal.invariant-loop-link
invariant-loop-link l = record {
  taken : ready_links l.ready.items ≡ l.yielded;
  count : deque_len l.ready ≡ length l.yielded;
  whole : l.fn.links.items ≡ l.yielded ++ l.link-iterator.rest.items;
}
