-- What a decoder took and gave.
use Rattle.std.specs.Prelude.{◌≡◌, ℕ, ◌≤◌, ◌-◌, List, ◌++◌, length, take, drop, Some}
use Rattle.body_frames.specs.declared.frame.BodyFault.{BodyFault}
use Rattle.body_frames.specs.declared.frame.Frame.{Frame}
use Rattle.body_frames.specs.declared.place.Place.{Place}
use Rattle.body_frames.specs.Machine.{start, run, emitted}
use Rattle.body_frames.specs.Progress.{fault_of}

-- a decoder of that frame and limit took the text, in whatever pieces, and gave these bytes of the body
pub record Decoded (frame : Frame) (limit : ℕ) (text body : List ℕ) (decoder : Place) : Type 0 where
  pub at : decoder ≡ run (start frame limit) text
  pub gave : body ≡ emitted (start frame limit) text

-- the bytes of the piece that a feed took, and the body's among them, whatever was fed before
pub record Feeds (old new : Place) (piece : List ℕ) (taken from to : ℕ) : Type 0 where
  pub within : taken ≤ length piece
  pub range : from ≤ to
  pub end : to ≤ taken
  pub moved : (frame : Frame) (limit : ℕ) (text body : List ℕ) → Decoded frame limit text body old
      → Decoded frame limit (text ++ take taken piece) (body ++ take (to - from) (drop from piece)) new

-- the fault came within the piece, and no byte of the body before it
pub record Refuses (old new : Place) (piece : List ℕ) (fault : BodyFault) : Type 0 where
  pub taken : ℕ
  pub within : taken ≤ length piece
  pub moved : (frame : Frame) (limit : ℕ) (text body : List ℕ) → Decoded frame limit text body old
      → Decoded frame limit (text ++ take taken piece) body new
  pub broken : fault_of new ≡ Some fault
