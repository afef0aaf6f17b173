-- What all bytes that a link holds say (RFC 9110, section 15.2; RFC 9112, sections 4, 6.3 and 8).
use Rattle.std.specs.Prelude.{◌≡◌, ℕ, zero, suc, nat_le, Bool, if◌then◌else◌, List, length, take, drop, Option, None, Some}
use Rattle.body_frames.specs.declared.frame.Frame.{Frame}
use Rattle.http_head.specs.Reply.{IsReplyAnswer}
use Rattle.http_head.specs.declared.answer.HeadAnswer.{HeadAnswer}
use Rattle.http_head.specs.declared.answer.HeadAnswer.TheVariants as head_case
use Rattle.http_head.specs.declared.reply.ReplyHead.{ReplyHead}
use Rattle.forward_link.specs.Kinds.{kind_of, whole_size}
use Rattle.forward_link.specs.declared.kind.TheConstants.{MOST_INTERIM}
use Rattle.forward_link.specs.declared.kind.HeadKind.{HeadKind}
use Rattle.forward_link.specs.declared.kind.HeadKind.TheVariants.{Interim, Refused, Final}

-- a whole reply; the head of one that is streamed, with all bytes that came after it; no reply that is taken; or an end
-- before the head or within a body that is read whole
pub data Said : Type 0 where
  whole : (head : ReplyHead) (body : List ℕ) → Said
  stream : (head : ReplyHead) (frame : Frame) (after : List ℕ) → Said
  bad : Said
  cut : Said

-- what a final head and the bytes after it say, by the size of a body that is read whole
abbrev pub said_of : Option ℕ → Frame → ReplyHead → List ℕ → Said
said_of None frame head after = stream head frame after
said_of (Some size) frame head after = if nat_le size (length after) then whole head (take size after) else cut

-- what a head of that kind and the bytes after it say, where `others` is what those say by themselves
abbrev pub KindSays : Bool → HeadKind → ReplyHead → List ℕ → (Said → Type 0) → Said → Type 0
KindSays streamed Interim head after others said = others said
KindSays streamed Refused head after others said = said ≡ bad
KindSays streamed (Final frame) head after others said = said ≡ said_of (whole_size streamed frame) frame head after

-- what bytes say that begin so
abbrev pub AnswerSays : Bool → Bool → HeadAnswer ReplyHead → List ℕ → (List ℕ → Said → Type 0) → Said → Type 0
AnswerSays is_head streamed (head_case.Whole head len) bytes others said =
    KindSays streamed (kind_of is_head head) head (drop len bytes) (others (drop len bytes)) said
AnswerSays is_head streamed head_case.More bytes others said = said ≡ cut
AnswerSays is_head streamed head_case.BadHead bytes others said = said ≡ bad
AnswerSays is_head streamed head_case.TooLarge bytes others said = said ≡ bad

-- the first head is read, and says this or leaves it to the bytes after it
pub record FirstSays (is_head streamed : Bool) (others : List ℕ → Said → Type 0) (bytes : List ℕ) (said : Said) : Type 0 where
  pub answer : HeadAnswer ReplyHead
  pub is : IsReplyAnswer bytes answer
  pub says : AnswerSays is_head streamed answer bytes others said

-- the bytes say this, where so many interim heads may stand first; one more is bad
unfoldable pub Says : Bool → Bool → ℕ → List ℕ → Said → Type 0
Says is_head streamed zero bytes said = FirstSays is_head streamed (λ rest s. s ≡ bad) bytes said
Says is_head streamed (suc n) bytes said = FirstSays is_head streamed (Says is_head streamed n) bytes said

-- all bytes of a link say this. `is_head` says that the request's method was HEAD, and `streamed` that it is long-running
abbrev pub Got : Bool → Bool → List ℕ → Said → Type 0
Got is_head streamed held said = Says is_head streamed MOST_INTERIM held said
