-- What a call sees of a link's input.
use Rattle.std.specs.Prelude.{◌≡◌, ℕ, ◌<◌, Bool, true, false, List, [], ◌++◌, length, drop, Option, None, Some}
use Rattle.std.specs.Io.KnownBytes.{Consumes, IsAtEnd}
use Rattle.body_frames.specs.declared.frame.Frame.{Frame}
use Rattle.http_head.specs.Reply.{IsReplyAnswer}
use Rattle.http_head.specs.declared.answer.HeadAnswer.{HeadAnswer}
use Rattle.http_head.specs.declared.answer.HeadAnswer.TheVariants as head_case
use Rattle.http_head.specs.declared.reply.ReplyHead.{ReplyHead}
use Rattle.wire_intake.specs.Seen.{Seen}
use Rattle.wire_intake.specs.declared.block.BlockStop.{BlockStop}
use Rattle.wire_intake.specs.declared.block.BlockStop.TheVariants as block_stop
use Rattle.wire_intake.specs.declared.intake.ReadStop.{ReadStop}
use Rattle.wire_intake.specs.declared.intake.ReadStop.TheVariants as read_stop
use Rattle.forward_link.specs.Kinds.{kind_of, whole_size}
use Rattle.forward_link.specs.declared.kind.HeadKind.TheVariants.{Final}
use Rattle.forward_link.specs.Says.{Said, bad, cut, said_of, Says, Got}
use Rattle.forward_link.specs.declared.reply.FinalHead.{FinalHead}
use Rattle.forward_link.specs.declared.reply.ReplyStop.{ReplyStop}
use Rattle.forward_link.specs.declared.reply.ReplyStop.TheVariants as reply_stop
use Rattle.forward_link.specs.declared.kind.TheConstants.{MOST_INTERIM}

-- what is left to give, or nothing where it isn't told
abbrev pub rest_of : Option (List ℕ) → List ℕ
rest_of None = []
rest_of (Some bytes) = bytes

-- why no head came, by why no block did
abbrev pub stop_of : BlockStop → ReplyStop
stop_of block_stop.TooLarge = reply_stop.BadReply
stop_of (block_stop.Input stop) = reply_stop.Input stop

-- a block that is no head of a reply, or is too large
abbrev pub is_bad : HeadAnswer ReplyHead → Bool
is_bad head_case.BadHead = true
is_bad head_case.TooLarge = true
is_bad _ = false

-- a head stood first in what was seen
pub record GotHead (left0 left : Option (List ℕ)) (held0 held : List ℕ) (head : ReplyHead) : Type 0 where
  pub bytes : List ℕ
  pub len : ℕ
  pub seen : Seen left0 left held0 bytes
  pub is : IsReplyAnswer bytes (head_case.Whole head len)
  pub rest : held ≡ drop len bytes

-- what is held is no head that is taken
pub record NoneTaken (left0 left : Option (List ℕ)) (held0 held : List ℕ) : Type 0 where
  pub answer : HeadAnswer ReplyHead
  pub seen : Seen left0 left held0 held
  pub is : IsReplyAnswer held answer
  pub bad : is_bad answer ≡ true

-- why no head came
abbrev pub NoHead : Option (List ℕ) → Option (List ℕ) → List ℕ → List ℕ → Type 0 → ReplyStop → Type 0
NoHead left0 left held0 held rose reply_stop.BadReply = NoneTaken left0 left held0 held
NoHead left0 left held0 held rose (reply_stop.Input read_stop.AtEnd) =
    Seen left0 left held0 held × IsReplyAnswer held head_case.More × IsAtEnd left
NoHead left0 left held0 held rose (reply_stop.Input read_stop.ReadFault) = rose
NoHead left0 left held0 held rose (reply_stop.Input read_stop.NoMemory) = Unit {0}

-- interim heads stood first in what was taken, and so many more may come
pub record Passed (is_head : Bool) (left0 left : Option (List ℕ)) (held : List ℕ) (more : ℕ) : Type 0 where
  pub taken : List ℕ
  pub consumed : Consumes left0 left taken
  pub says : (streamed : Bool) (rest : List ℕ) (said : Said) → Says is_head streamed more (held ++ rest) said
      → Got is_head streamed (taken ++ rest) said

-- a final head stood in what was taken, and what all bytes say is what it and the bytes after it say
pub record GotFinal (is_head : Bool) (left0 left : Option (List ℕ)) (held : List ℕ) (final : FinalHead) : Type 0 where
  pub taken : List ℕ
  pub consumed : Consumes left0 left taken
  pub kind : kind_of is_head final.head ≡ Final final.frame
  pub says : (streamed : Bool) (rest : List ℕ) → Got is_head streamed (taken ++ rest)
      (said_of (whole_size streamed final.frame) final.frame final.head (held ++ rest))

-- all bytes of the link, those that are left too, say this
pub record Came (is_head streamed : Bool) (left0 left : Option (List ℕ)) (said : Said) : Type 0 where
  pub taken : List ℕ
  pub consumed : Consumes left0 left taken
  pub got : Got is_head streamed (taken ++ rest_of left) said

-- why no final head came
abbrev pub NoFinal : Bool → Option (List ℕ) → Option (List ℕ) → Type 0 → ReplyStop → Type 0
NoFinal is_head left0 left rose reply_stop.BadReply = (streamed : Bool) → Came is_head streamed left0 left bad
NoFinal is_head left0 left rose (reply_stop.Input read_stop.AtEnd) = (streamed : Bool) → Came is_head streamed left0 left cut
NoFinal is_head left0 left rose (reply_stop.Input read_stop.ReadFault) = rose
NoFinal is_head left0 left rose (reply_stop.Input read_stop.NoMemory) = Unit {0}

-- ---- a body that is read whole

-- the body stood first in what was held and taken
pub record GotBytes (left0 left : Option (List ℕ)) (held : List ℕ) (size : ℕ) (body : List ℕ) : Type 0 where
  pub taken : List ℕ
  pub consumed : Consumes left0 left taken
  pub extra : List ℕ
  pub size_is : length body ≡ size
  pub split : held ++ taken ≡ body ++ extra

-- why so many bytes didn't come
abbrev pub NoBytes : Option (List ℕ) → Option (List ℕ) → List ℕ → ℕ → Type 0 → ReadStop → Type 0
NoBytes left0 left held size rose read_stop.AtEnd =
    (taken : List ℕ) × Consumes left0 left taken × (length (held ++ taken) < size) × IsAtEnd left
NoBytes left0 left held size rose read_stop.ReadFault = rose
NoBytes left0 left held size rose read_stop.NoMemory = Unit {0}
