-- What the bytes of a body say that is handed on as it comes, and what a client gets of it (RFC 9112, sections 6.3, 7.1
-- and 8).
use Rattle.std.specs.Prelude.{◌≡◌, ℕ, not, Bool, true, false, if◌then◌else◌, List, []}
use Rattle.std.specs.List.{flat_map}
use Rattle.body_frames.specs.Body.{First, whole, refused, part, StandsFirst, ends_itself}
use Rattle.body_frames.specs.Chunks.{chunk_text, last_text}
use Rattle.body_frames.specs.Machine.{start, emitted}
use Rattle.body_frames.specs.declared.frame.BodyFault.TheVariants.{BadChunk, TooLarge}
use Rattle.body_frames.specs.declared.frame.Frame.{Frame}
use Rattle.body_frames.specs.declared.frame.Frame.TheVariants.{Chunked, Close}
use Rattle.stream_relay.specs.declared.stream.Relayed.{Relayed}
use Rattle.stream_relay.specs.declared.stream.Relayed.TheVariants.{Done, BackendCut, StreamSpent}
use Rattle.stream_relay.specs.declared.stream.TheConstants.{MOST_STREAMED_BYTES}

-- ---- what the bytes say

-- the body's bytes among these, until it ends, breaks or exceeds its limit
abbrev pub body_in : Frame → List ℕ → List ℕ
body_in frame input = emitted (start frame MOST_STREAMED_BYTES) input

-- how a body ends, by what stands first in all its bytes: one that is not whole where they end is cut, unless it ends
-- with them
abbrev pub end_of : Frame → First → Relayed
end_of frame (whole body after) = Done
end_of frame (refused TooLarge) = StreamSpent
end_of frame (refused (BadChunk at)) = BackendCut
end_of frame part = if ends_itself frame then BackendCut else Done

-- all bytes of a body say that it ends so
pub record Says (frame : Frame) (input : List ℕ) (end : Relayed) : Type 0 where
  pub first : First
  pub stands : StandsFirst frame MOST_STREAMED_BYTES input first
  pub end_is : end ≡ end_of frame first

-- ---- what a client gets

-- a client of version 1.1 gets chunks, where the length of the body isn't said in its head
abbrev pub gets_chunks : Frame → Bool → Bool
gets_chunks Chunked old_client = not old_client
gets_chunks Close old_client = not old_client
gets_chunks _ old_client = false

-- a piece of the body as it is written: one chunk, or the bare bytes
abbrev pub piece_text : Bool → List ℕ → List ℕ
piece_text true piece = chunk_text piece
piece_text false piece = piece

abbrev pub pieces_text : Bool → List (List ℕ) → List ℕ
pieces_text chunked pieces = flat_map (piece_text chunked) pieces

-- pieces one after another
abbrev pub joined : List (List ℕ) → List ℕ
joined pieces = flat_map (λ piece. piece) pieces

-- what is written after the last piece of a whole body
abbrev pub last_of : Bool → List ℕ
last_of true = last_text
last_of false = []

-- what is written after the last piece, by how the body ended: nothing where it isn't whole
abbrev pub ending : Bool → Relayed → List ℕ
ending chunked Done = last_of chunked
ending chunked _ = []
