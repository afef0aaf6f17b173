use Rattle.std.proofs.Common.{◌≡◌, ◌≤◌, ◌+◌, ◌-◌, false, [], length, take}
use Rattle.std.specs.Prelude.{IsTrue}
use Rattle.body_frames.specs.Machine.{run, emitted, is_sound, most_left, is_framing}
use Rattle.body_frames.proofs.place.pass_framing.Given as goal

abbrev pub invariant-loop-at : goal.invariant-loop-at
invariant-loop-at l = record {
  within : l.at ≤ length l.piece;
  moved : l.place ≡ run l.fn.place (take l.at l.piece);
  nothing : emitted l.fn.place (take l.at l.piece) ≡ [];
  sound : IsTrue (is_sound l.place);
  falls : most_left l.place + l.at ≤ most_left l.fn.place;
  held : is_framing l.fn.place ≡ false → l.at ≡ 0;
}

abbrev pub decreases-loop-at : goal.decreases-loop-at
decreases-loop-at l = length l.piece - l.at
