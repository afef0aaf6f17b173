-- How far the bytes of a body were handed on.
use Rattle.std.specs.Prelude.{◌≡◌, ℕ, ◌<◌, ◌⊎◌, Bool, true, List, [], ◌++◌, length, take, Option, Some}
use Rattle.std.specs.Io.KnownBytes.{Appends, Consumes, IsAtEnd, Keeps}
use Rattle.body_frames.specs.Body.{IsBody, IsPart, IsRefused, ends_itself}
use Rattle.body_frames.specs.Chunks.{IsPiece}
use Rattle.body_frames.specs.Decoded.{Decoded}
use Rattle.body_frames.specs.Progress.{ends_here, fault_of, is_done, is_open}
use Rattle.body_frames.specs.declared.frame.BodyFault.{BodyFault}
use Rattle.body_frames.specs.declared.frame.BodyFault.TheVariants.{BadChunk, TooLarge}
use Rattle.body_frames.specs.declared.frame.Frame.{Frame}
use Rattle.body_frames.specs.declared.place.Place.{Place}
use Rattle.wire_intake.specs.Seen.{Seen}
use Rattle.stream_relay.specs.Stream.{piece_text, last_of}
use Rattle.stream_relay.specs.Relay.{Output, Wrote}
use Rattle.stream_relay.specs.declared.hand.HandStop.{HandStop}
use Rattle.stream_relay.specs.declared.hand.HandStop.TheVariants as hand_stop
use Rattle.stream_relay.specs.declared.hand.ReadStop.{ReadStop}
use Rattle.stream_relay.specs.declared.hand.ReadStop.TheVariants as read_stop
use Rattle.stream_relay.specs.declared.hand.WriteStop.{WriteStop}
use Rattle.stream_relay.specs.declared.hand.WriteStop.TheVariants as write_stop
use Rattle.stream_relay.specs.declared.stream.Relayed.{Relayed}
use Rattle.stream_relay.specs.declared.stream.Relayed.TheVariants as relayed

-- a decoder took the text and gave these bytes of the body, whatever it took before
pub record Moves (old new : Place) (text gave : List ℕ) : Type 0 where
  pub each : (frame : Frame) (limit : ℕ) (before body : List ℕ) → Decoded frame limit before body old
      → Decoded frame limit (before ++ text) (body ++ gave) new

-- the text was decoded, and all of the body in it was written
pub record HandsOn (chunked : Bool) (old new : Place) (text : List ℕ) (out0 out : Output) : Type 0 where
  pub gave : List ℕ
  pub moves : Moves old new text gave
  pub wrote : Wrote chunked out0 out gave []

-- the body broke within the bytes, and all of it before was written
pub record Breaks (chunked : Bool) (old : Place) (bytes : List ℕ) (out0 out : Output) (fault : BodyFault) : Type 0 where
  pub text : List ℕ
  pub after : List ℕ
  pub new : Place
  pub split : bytes ≡ text ++ after
  pub hands : HandsOn chunked old new text out0 out
  pub broken : fault_of new ≡ Some fault

-- a piece was not written whole, or not kept
pub record CutPiece (chunked : Bool) (out0 out : Output) (piece : List ℕ) : Type 0 where
  pub is_piece : IsPiece piece
  pub count : ℕ
  pub wrote : Wrote chunked out0 out [] (take count (piece_text chunked piece))

-- the text in the bytes was decoded, and all of the body in it was written but its last piece
pub record Cuts (chunked : Bool) (old : Place) (bytes : List ℕ) (out0 out : Output) : Type 0 where
  pub text : List ℕ
  pub after : List ℕ
  pub new : Place
  pub split : bytes ≡ text ++ after
  pub gave : List ℕ
  pub piece : List ℕ
  pub moves : Moves old new text (gave ++ piece)
  pub is_piece : IsPiece piece
  pub count : ℕ
  pub wrote : Wrote chunked out0 out gave (take count (piece_text chunked piece))

-- why a piece was not written and kept
abbrev pub Why : Type 0 → WriteStop → Type 0
Why rose write_stop.WriteFault = rose
Why rose write_stop.NoMemory = Unit {0}

-- why no more of the bytes was handed on
abbrev pub NotHanded : Bool → Place → List ℕ → Output → Output → Type 0 → HandStop → Type 0
NotHanded chunked old bytes out0 out rose (hand_stop.Body fault) = Breaks chunked old bytes out0 out fault
NotHanded chunked old bytes out0 out rose (hand_stop.Write stop) = Cuts chunked old bytes out0 out × Why rose stop

-- bytes were read, and the body in them was handed on
pub record ReadsOn (chunked : Bool) (old new : Place) (left0 left : Option (List ℕ)) (out0 out : Output) : Type 0 where
  pub piece : List ℕ
  pub count : ℕ
  pub consumed : Consumes left0 left piece
  pub hands : HandsOn chunked old new (take count piece) out0 out
  pub used : (count ≡ length piece) ⊎ (is_done new ≡ true)

-- nothing was decoded or written
pub record Untouched (old new : Place) (out0 out : Output) : Type 0 where
  pub place : new ≡ old
  pub output : out ≡ out0

-- why nothing more was read and handed on
abbrev pub NotRead : Bool → Place → Place → Option (List ℕ) → Option (List ℕ) → Output → Output → Type 0 → Type 0 → ReadStop → Type 0
NotRead chunked old new left0 left out0 out link_rose conn_rose read_stop.AtEnd =
    Untouched old new out0 out × Consumes left0 left [] × IsAtEnd left
NotRead chunked old new left0 left out0 out link_rose conn_rose read_stop.ReadFault =
    Untouched old new out0 out × Keeps left0 left × link_rose
NotRead chunked old new left0 left out0 out link_rose conn_rose (read_stop.Hand stop) =
    (piece : List ℕ) × Consumes left0 left piece × NotHanded chunked old piece out0 out conn_rose stop

-- what a stop makes of a relay
abbrev pub StopsAs : HandStop → Relayed → Type 0
StopsAs (hand_stop.Body TooLarge) end = end ≡ relayed.StreamSpent
StopsAs (hand_stop.Body (BadChunk at)) end = end ≡ relayed.BackendCut
StopsAs (hand_stop.Write write_stop.WriteFault) end = end ≡ relayed.WriteFault
StopsAs (hand_stop.Write write_stop.NoMemory) end = ⊥

-- what ends a whole body was written, or a part of it
abbrev pub Finishes : Bool → Option (List ℕ) → Option (List ℕ) → Type 0 → Relayed → Type 0
Finishes chunked written0 written rose relayed.Done = Appends written0 written (last_of chunked)
Finishes chunked written0 written rose relayed.WriteFault =
    (count : ℕ) × (count < length (last_of chunked)) × Appends written0 written (take count (last_of chunked)) × rose
Finishes chunked written0 written rose _ = ⊥

-- what came was decoded up to some bytes, and the body before them was written
pub record SoFar (frame : Frame) (limit : ℕ) (chunked : Bool) (rest : List ℕ) (left0 left : Option (List ℕ)) (ahead : List ℕ)
    (decoder : Place) (out0 out : Output) : Type 0 where
  pub seen : List ℕ
  pub taken : Seen left0 left rest seen
  pub text : List ℕ
  pub split : seen ≡ text ++ ahead
  pub body : List ℕ
  pub decoded : Decoded frame limit text body decoder
  pub wrote : Wrote chunked out0 out body []

-- all that came was decoded, but for what came after a whole body
pub record Going (frame : Frame) (limit : ℕ) (chunked : Bool) (rest : List ℕ) (left0 left : Option (List ℕ)) (decoder : Place)
    (out0 out : Output) : Type 0 where
  pub after : List ℕ
  pub so_far : SoFar frame limit chunked rest left0 left after decoder out0 out
  pub used : (after ≡ []) ⊎ (is_done decoder ≡ true)

-- what decoders say of bodies (the laws of body_frames)
pub record BodyLaws : Type 0 where
  pub done : (f : Frame) (limit : ℕ) (text body : List ℕ) (p : Place) → Decoded f limit text body p → is_done p ≡ true
      → IsBody f limit text body × (ends_itself f ≡ true)
  pub ends : (f : Frame) (limit : ℕ) (text body : List ℕ) (p : Place) → Decoded f limit text body p → ends_here p ≡ true
      → IsBody f limit text body
  pub itself : (f : Frame) (limit : ℕ) (text body gave : List ℕ) (p : Place) → IsBody f limit text body → ends_itself f ≡ true
      → Decoded f limit text gave p → is_done p ≡ true
  pub whole : (f : Frame) (limit : ℕ) (text body gave : List ℕ) (p : Place) → IsBody f limit text body
      → Decoded f limit text gave p → (ends_here p ≡ true) × (gave ≡ body)
  pub awaits : (f : Frame) (limit : ℕ) (text body : List ℕ) (p : Place) → Decoded f limit text body p → is_open p ≡ true
      → IsPart f limit text
  pub only : (f : Frame) (limit : ℕ) (text body : List ℕ) (p : Place) (fault : BodyFault) → Decoded f limit text body p
      → fault_of p ≡ Some fault → IsRefused f limit text fault
  pub stays : (f : Frame) (limit : ℕ) (bytes more : List ℕ) (fault : BodyFault) → IsRefused f limit bytes fault
      → IsRefused f limit (bytes ++ more) fault
