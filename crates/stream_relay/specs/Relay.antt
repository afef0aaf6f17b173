-- What a relay writes and keeps, and why it ends.
use Rattle.std.specs.Prelude.{◌≡◌, ℕ, ◌<◌, ◌⊎◌, Bool, List, [], ◌++◌, length, take, Option, All}
use Rattle.std.specs.Io.KnownBytes.{Appends}
use Rattle.body_frames.specs.Chunks.{IsPiece}
use Rattle.body_frames.specs.declared.frame.Frame.{Frame}
use Rattle.forward_link.specs.Reading.{rest_of}
use Rattle.wire_intake.specs.Seen.{Seen}
use Rattle.stream_relay.specs.Keep.{KeepsMore}
use Rattle.stream_relay.specs.Stream.{Says, body_in, piece_text, pieces_text, joined, last_of, ending}
use Rattle.stream_relay.specs.declared.keep.Keep.{Keep}
use Rattle.stream_relay.specs.declared.stream.Relayed.{Relayed}
use Rattle.stream_relay.specs.declared.stream.Relayed.TheVariants.{Done, BackendCut, StreamSpent, WriteFault}

-- where a relay's bytes go: what was written to the client, where that is told, and what is kept
pub record Output : Type 0 where
  pub written : Option (List ℕ)
  pub keep : Keep

-- all of this body was written, in pieces that are not empty, and was kept. Then this text was written
pub record Wrote (chunked : Bool) (old new : Output) (body text : List ℕ) : Type 0 where
  pub pieces : List (List ℕ)
  pub each : All IsPiece pieces
  pub body_is : body ≡ joined pieces
  pub written : Appends old.written new.written (pieces_text chunked pieces ++ text)
  pub kept : KeepsMore old.keep new.keep body

-- all bytes say that the body ends so, and all of it was written
pub record Ended (frame : Frame) (chunked : Bool) (rest : List ℕ) (left0 left : Option (List ℕ)) (old new : Output) (end : Relayed)
    : Type 0 where
  pub seen : List ℕ
  pub taken : Seen left0 left rest seen
  pub says : Says frame (seen ++ rest_of left) end
  pub wrote : Wrote chunked old new (body_in frame (seen ++ rest_of left)) (ending chunked end)

-- a read failed, and all of the body that had come was written
pub record Lost (frame : Frame) (chunked : Bool) (rest : List ℕ) (left0 left : Option (List ℕ)) (old new : Output) : Type 0 where
  pub seen : List ℕ
  pub taken : Seen left0 left rest seen
  pub wrote : Wrote chunked old new (body_in frame seen) []

-- a front of the next piece
pub record OfPiece (chunked : Bool) (more text : List ℕ) : Type 0 where
  pub piece : List ℕ
  pub after : List ℕ
  pub count : ℕ
  pub split : more ≡ piece ++ after
  pub is_piece : IsPiece piece
  pub text_is : text ≡ take count (piece_text chunked piece)

-- no more of the body is to come, and this is a front of what ends it
pub record OfEnd (frame : Frame) (chunked : Bool) (input more text : List ℕ) : Type 0 where
  pub none : more ≡ []
  pub says : Says frame input Done
  pub count : ℕ
  pub short : count < length (last_of chunked)
  pub text_is : text ≡ take count (last_of chunked)

-- after pieces that were written whole, nothing was written but a front of what comes next
pub record Stopped (frame : Frame) (chunked : Bool) (rest : List ℕ) (left0 left : Option (List ℕ)) (old new : Output) : Type 0 where
  pub seen : List ℕ
  pub taken : Seen left0 left rest seen
  pub done : List ℕ
  pub more : List ℕ
  pub split : body_in frame (seen ++ rest_of left) ≡ done ++ more
  pub text : List ℕ
  pub front : (text ≡ []) ⊎ (OfPiece chunked more text ⊎ OfEnd frame chunked (seen ++ rest_of left) more text)
  pub wrote : Wrote chunked old new done text

-- what a relay leaves, by its answer. `rest` came with the head, and the link had `left0` to give and has `left`
abbrev pub Relays : Frame → Bool → List ℕ → Option (List ℕ) → Option (List ℕ) → Output → Output → Type 0 → Type 0 → Relayed → Type 0
Relays frame chunked rest left0 left old new link_rose conn_rose Done = Ended frame chunked rest left0 left old new Done
Relays frame chunked rest left0 left old new link_rose conn_rose StreamSpent =
    Ended frame chunked rest left0 left old new StreamSpent
Relays frame chunked rest left0 left old new link_rose conn_rose BackendCut =
    Ended frame chunked rest left0 left old new BackendCut ⊎ (Lost frame chunked rest left0 left old new × link_rose)
Relays frame chunked rest left0 left old new link_rose conn_rose WriteFault =
    Stopped frame chunked rest left0 left old new × conn_rose
