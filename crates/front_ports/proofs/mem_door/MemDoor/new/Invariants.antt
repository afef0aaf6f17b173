use Rattle.std.proofs.Common.{◌≡◌, ◌++◌, length, deque_len}
use Rattle.front_ports.specs.MemoryDoor.{expected_conns}
use Rattle.front_ports.proofs.mem_door.MemDoor.new.Given as goal

-- those that were taken are expected, in order
abbrev pub invariant-loop-conn : goal.invariant-loop-conn
invariant-loop-conn l = record {
  taken : expected_conns l.expected.items ≡ l.yielded;
  count : deque_len l.expected ≡ length l.yielded;
  whole : l.fn.conns.items ≡ l.yielded ++ l.conn-iterator.rest.items;
}
