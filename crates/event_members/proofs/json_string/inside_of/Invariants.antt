use Rattle.std.proofs.Common.{◌≡◌, ◌-◌, length}
use Rattle.event_members.specs.TextMembers.{up_to, piece_at}
use Rattle.event_members.proofs.LoopLemmas.{with_front}
use Rattle.event_members.proofs.json_string.inside_of.Given as goal

abbrev pub invariant-loop : goal.invariant-loop
invariant-loop l = with_front l.text.items (up_to 34 piece_at (length l.bytes - l.counter) l.rest) ≡ up_to 34 piece_at (length l.bytes) l.bytes
