use Rattle.std.proofs.Common.{◌≡◌, ◌-◌, length}
use Rattle.event_members.specs.TextMembers.{up_to, item_at}
use Rattle.event_members.proofs.LoopLemmas.{with_front}
use Rattle.event_members.proofs.text_members.items_of.Given as goal

abbrev pub invariant-loop : goal.invariant-loop
invariant-loop l = with_front l.texts.items (up_to 93 item_at (length l.bytes - l.counter) l.rest) ≡ up_to 93 item_at (length l.bytes) l.bytes
