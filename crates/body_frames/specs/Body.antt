-- What a body in its frame is (RFC 9112, sections 6 and 7.1), when it is too large, where it breaks, and when there is
-- more to come.
use Rattle.std.specs.Prelude.{◌≡◌, ℕ, ◌+◌, ◌<◌, ◌≤◌, Bool, true, false, List, [], ◌++◌, length}
use Rattle.std.specs.List.{flat_map}
use Rattle.body_frames.specs.Chunks.{Chunk, Line, print_chunk, print_line, AreChunks, IsLine, IsChunked, Begins, BreaksAt}
use Rattle.body_frames.specs.declared.frame.BodyFault.{BodyFault}
use Rattle.body_frames.specs.declared.frame.BodyFault.TheVariants.{BadChunk, TooLarge}
use Rattle.body_frames.specs.declared.frame.Frame.{Frame}
use Rattle.body_frames.specs.declared.frame.Frame.TheVariants.{NoBody, Length, Chunked, Close}

-- all of the text is a body in that frame, and this is the body. One that ends with its input is all of the input
abbrev pub IsBody : Frame → ℕ → List ℕ → List ℕ → Type 0
IsBody NoBody limit text body = (text ≡ []) × (body ≡ [])
IsBody (Length n) limit text body = (body ≡ text) × (length text ≡ n) × (n ≤ limit)
IsBody Chunked limit text body = IsChunked text body × (length body ≤ limit)
IsBody Close limit text body = (body ≡ text) × (length text ≤ limit)

-- what chunks carry
abbrev pub chunk_bytes : List Chunk → List ℕ
chunk_bytes chunks = flat_map (λ c. c.bytes) chunks

-- chunks stand first, whose bytes are within the limit, and then a size line, to its end, that exceeds it
pub record IsOver (limit : ℕ) (text : List ℕ) : Type 0 where
  pub chunks : List Chunk
  pub line : Line
  pub size : ℕ
  pub rest : List ℕ
  pub each : AreChunks chunks
  pub line_is : IsLine line size
  pub text_is : text ≡ flat_map print_chunk chunks ++ (print_line line ++ rest)
  pub fits : length (chunk_bytes chunks) ≤ limit
  pub over : limit < length (chunk_bytes chunks) + size

-- the text tells that its body has more bytes than the limit: a length by itself, chunks at a size line
abbrev pub IsTooLarge : Frame → ℕ → List ℕ → Type 0
IsTooLarge NoBody limit text = ⊥
IsTooLarge (Length n) limit text = limit < n
IsTooLarge Chunked limit text = IsOver limit text
IsTooLarge Close limit text = limit < length text

-- the text breaks at a byte, so many bytes from its begin, before it is too large: only chunks do
abbrev pub Breaks : Frame → ℕ → List ℕ → ℕ → Type 0
Breaks NoBody limit text at = ⊥
Breaks (Length n) limit text at = ⊥
Breaks Chunked limit text at = BreaksAt text at × ¬ (IsOver limit text)
Breaks Close limit text at = ⊥

-- the body that begins the text is refused, for that
abbrev pub IsRefused : Frame → ℕ → List ℕ → BodyFault → Type 0
IsRefused frame limit text TooLarge = IsTooLarge frame limit text
IsRefused frame limit text (BadChunk at) = Breaks frame limit text at

-- the text begins a body, and more of it is to come. Of a body that ends with its input there may always be more
abbrev pub IsPart : Frame → ℕ → List ℕ → Type 0
IsPart NoBody limit text = ⊥
IsPart (Length n) limit text = (length text < n) × (n ≤ limit)
IsPart Chunked limit text = Begins text × ¬ (IsOver limit text)
IsPart Close limit text = length text ≤ limit

-- a body in that frame ends by itself, and not with its input
abbrev pub ends_itself : Frame → Bool
ends_itself Close = false
ends_itself _ = true

-- a whole body stands first, and this stands after it
pub record StartsWithBody (frame : Frame) (limit : ℕ) (bytes body after : List ℕ) : Type 0 where
  pub text : List ℕ
  pub itself : ends_itself frame ≡ true
  pub split : bytes ≡ text ++ after
  pub is : IsBody frame limit text body

-- what stands first in bytes: a whole body, one that is refused, or a part of one
pub data First : Type 0 where
  whole : (body after : List ℕ) → First
  refused : (fault : BodyFault) → First
  part : First

abbrev pub StandsFirst : Frame → ℕ → List ℕ → First → Type 0
StandsFirst frame limit bytes (whole body after) = StartsWithBody frame limit bytes body after
StandsFirst frame limit bytes (refused fault) = IsRefused frame limit bytes fault
StandsFirst frame limit bytes part = IsPart frame limit bytes
