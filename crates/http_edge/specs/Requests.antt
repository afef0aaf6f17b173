-- The requests of an input (RFC 9112, sections 2 to 7 and 9.6): heads and bodies after one another, and why they end.
use Rattle.std.specs.Prelude.{◌≡◌, ℕ, ◌⊎◌, ◌==◌, ◌||◌, Bool, true, false, List, [], ◌∷◌, take, drop, Option, Some, None}
use Rattle.std.specs.List.{list_all}
use Rattle.http_head.specs.Answer.{AwaitsBlock, IsBlock, IsTooLarge}
use Rattle.http_head.specs.Request.{IsHeadOf, IsNoRequest}
use Rattle.http_head.specs.Framing.{framing}
use Rattle.http_head.specs.Connection.{asks_to_close}
use Rattle.http_head.specs.declared.body.Framing.{Framing}
use Rattle.http_head.specs.declared.body.Framing.TheVariants as framing_case
use Rattle.http_head.specs.declared.request.Head.{Head}
use Rattle.body_frames.specs.declared.frame.BodyFault.{BodyFault}
use Rattle.body_frames.specs.declared.frame.BodyFault.TheVariants.{BadChunk, TooLarge}
use Rattle.body_frames.specs.declared.frame.Frame.{Frame}
use Rattle.body_frames.specs.declared.frame.Frame.TheVariants.{NoBody, Length, Chunked}
use Rattle.body_frames.specs.Body as body
use Rattle.body_frames.specs.Body.{StartsWithBody, IsPart}
use Rattle.http_edge.specs.declared.TheConstants.{MOST_BODY_BYTES}
use Rattle.http_edge.specs.declared.request.Request.{Request}
use Rattle.http_edge.specs.declared.request.End.{End}
use Rattle.http_edge.specs.declared.request.End.TheVariants.{Ended, Asked, BadHead, HeadTooLarge, BadFraming}
use Rattle.http_edge.specs.declared.request.End.TheVariants.{BodyTooLarge, CutShort}

-- the frame of a body, or none where it can't be said
abbrev pub frame_by : Framing → Option Frame
frame_by framing_case.NoBody = Some NoBody
frame_by (framing_case.Length size) = Some (Length size)
frame_by framing_case.Chunked = Some Chunked
frame_by framing_case.Bad = None

abbrev pub frame_of : Head → Option Frame
frame_of head = frame_by (framing head.headers head.minor)

-- the request is the last of its connection: it is of version 1.0, or asks to close
abbrev pub asks : Request → Bool
asks r = r.head.minor == 0 || asks_to_close r.head.headers

-- ---- what stands first

-- a head stands first, and this stands after it
pub record StartsWithHead (bytes : List ℕ) (head : Head) (after : List ℕ) : Type 0 where
  pub len : ℕ
  pub block : IsBlock bytes len
  pub is : IsHeadOf (take len bytes) head
  pub rest : after ≡ drop len bytes

-- a request stands first, and this stands after it
pub record StartsWith (bytes : List ℕ) (request : Request) (after : List ℕ) : Type 0 where
  pub middle : List ℕ
  pub frame : Frame
  pub head_is : StartsWithHead bytes request.head middle
  pub frame_is : frame_of request.head ≡ Some frame
  pub body_is : StartsWithBody frame MOST_BODY_BYTES middle request.body after

-- the block that stands first is no head
pub record StartsWithNoHead (bytes : List ℕ) : Type 0 where
  pub len : ℕ
  pub block : IsBlock bytes len
  pub none : IsNoRequest (take len bytes)

-- a head that can't be framed stands first
pub record StartsUnframed (bytes : List ℕ) : Type 0 where
  pub head : Head
  pub middle : List ℕ
  pub head_is : StartsWithHead bytes head middle
  pub frame_is : frame_of head ≡ None

-- the end that a fault of a body is
abbrev pub end_of : BodyFault → End
end_of (BadChunk at) = BadFraming
end_of TooLarge = BodyTooLarge

-- a head stands first, and after it a body that is refused for what that end is
pub record StartsBroken (bytes : List ℕ) (end : End) : Type 0 where
  pub head : Head
  pub middle : List ℕ
  pub frame : Frame
  pub fault : BodyFault
  pub head_is : StartsWithHead bytes head middle
  pub frame_is : frame_of head ≡ Some frame
  pub body_is : body.IsRefused frame MOST_BODY_BYTES middle fault
  pub end_is : end ≡ end_of fault

-- a head stands first, and after it a part of its body
pub record StartsUnfinished (bytes : List ℕ) : Type 0 where
  pub head : Head
  pub middle : List ℕ
  pub frame : Frame
  pub head_is : StartsWithHead bytes head middle
  pub frame_is : frame_of head ≡ Some frame
  pub part : IsPart frame MOST_BODY_BYTES middle

-- no request is whole, and none is refused
abbrev pub IsUnfinished : List ℕ → Type 0
IsUnfinished bytes = AwaitsBlock bytes ⊎ StartsUnfinished bytes

-- what stands first is refused, for that
abbrev pub IsRefused : List ℕ → End → Type 0
IsRefused bytes BadHead = StartsWithNoHead bytes
IsRefused bytes HeadTooLarge = IsTooLarge bytes
IsRefused bytes BadFraming = StartsUnframed bytes ⊎ StartsBroken bytes BadFraming
IsRefused bytes BodyTooLarge = StartsBroken bytes BodyTooLarge
IsRefused bytes _ = ⊥

-- only CR and LF
abbrev pub is_blank : List ℕ → Bool
is_blank bytes = list_all (λ b. b == 13 || b == 10) bytes

abbrev pub IsBlank : List ℕ → Type 0
IsBlank bytes = is_blank bytes ≡ true

-- these are the last bytes, no request stands first in them, and that is why
abbrev pub IsStop : List ℕ → End → Type 0
IsStop bytes Ended = IsUnfinished bytes × IsBlank bytes
IsStop bytes CutShort = IsUnfinished bytes × ¬ (IsBlank bytes)
IsStop bytes end = IsRefused bytes end

abbrev pub on_asks : Bool → Type 0 → Type 0 → Type 0
on_asks true P Q = P
on_asks false P Q = Q

-- ---- the list

-- the requests of an input, and why they end
abbrev pub IsRequests : List ℕ → List Request → End → Type 0
IsRequests bytes [] end = IsStop bytes end
IsRequests bytes (r ∷ rs) end =
    (after : List ℕ) × StartsWith bytes r after
    × on_asks (asks r) ((rs ≡ []) × (end ≡ Asked)) (IsRequests after rs end)

-- these requests are read from the bytes, none of which asks to close, and this stands after them
abbrev pub ReadsTo : List ℕ → List Request → List ℕ → Type 0
ReadsTo bytes [] after = bytes ≡ after
ReadsTo bytes (r ∷ rs) after =
    (middle : List ℕ) × StartsWith bytes r middle × (asks r ≡ false) × ReadsTo middle rs after

-- the end is one that only the end of the input shows
abbrev pub needs_end : End → Type 0 → Type 0
needs_end Ended P = P
needs_end CutShort P = P
needs_end _ P = Unit {0}
