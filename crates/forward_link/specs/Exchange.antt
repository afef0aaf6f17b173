-- One exchange over a link: what the dial notes of it, and what is answered.
use Rattle.std.specs.Prelude.{◌≡◌, ℕ, ◌≤◌, ◌<◌, Bool, true, false, List, [], ◌∷◌, ◌++◌, length, take, Option, None, Some}
use Rattle.std.specs.Io.KnownBytes.{Appends}
use Rattle.body_frames.specs.declared.frame.Frame.{Frame}
use Rattle.front_base.specs.declared.address.Address.{Address}
use Rattle.front_ports.specs.Dials.{failed_call}
use Rattle.front_ports.specs.Told.{Adds, Grows}
use Rattle.front_ports.specs.Written.{AppendsFront}
use Rattle.front_ports.specs.declared.dial.Call.{Call}
use Rattle.http_head.specs.declared.reply.ReplyHead.{ReplyHead}
use Rattle.wire_intake.specs.declared.intake.ReadStop.{ReadStop}
use Rattle.wire_intake.specs.declared.intake.ReadStop.TheVariants as read_stop
use Rattle.forward_link.specs.Says.{Said, whole, stream, bad, cut, Got}
use Rattle.forward_link.specs.Reading.{rest_of, Came}
use Rattle.forward_link.specs.declared.reply.ReplyStop.{ReplyStop}
use Rattle.forward_link.specs.declared.reply.ReplyStop.TheVariants as reply_stop
use Rattle.forward_link.specs.declared.talk.Talk.{Talk}
use Rattle.forward_link.specs.declared.talk.Talk.TheVariants as talk
use Rattle.forward_link.specs.declared.link_exchange.LinkAnswer.{LinkAnswer}
use Rattle.forward_link.specs.declared.link_exchange.LinkAnswer.TheVariants as answer

-- ---- what the dial notes

-- one more call is noted, where calls are told
abbrev pub NotesOne : Option (List Call) → Option (List Call) → Address → List ℕ → List ℕ → Type 0
NotesOne calls0 calls to sent held = Adds calls0 calls (record { to = to; sent = sent; held = held } ∷ [])

-- the whole text was sent, the link was handed back, and this is what all of its bytes say
pub record Answered (is_head streamed : Bool) (calls0 calls : Option (List Call)) (to : Address) (text : List ℕ) (said : Said)
    : Type 0 where
  pub held : List ℕ
  pub noted : NotesOne calls0 calls to text held
  pub got : Got is_head streamed held said

-- a link was dialed and handed back, after some front of the text was sent
pub record HandedBack (calls0 calls : Option (List Call)) (to : Address) (text : List ℕ) : Type 0 where
  pub count : ℕ
  pub held : List ℕ
  pub noted : NotesOne calls0 calls to (take count text) held

-- what a link tells: the bytes that it will still give, those that were written, the number of its call, and how many of its
-- calls failed
pub record LinkState : Type 0 where
  pub left : Option (List ℕ)
  pub written : Option (List ℕ)
  pub number : ℕ
  pub faults : ℕ

-- the call of a link that is still open is noted last, with all bytes that the link holds, and the text was written. What
-- was sent is noted once the link is handed back
abbrev pub NotesOpen : Option (List Call) → Option (List Call) → Address → List ℕ → List ℕ → LinkState → Type 0
NotesOpen None calls to text held link = calls ≡ None
NotesOpen (Some before) calls to text held link =
    (calls ≡ Some (before ++ record { to = to; sent = []; held = held } ∷ [])) × (link.number ≡ length before)
    × (link.written ≡ Some text) × (link.left ≡ Some (rest_of link.left))

-- the whole text was sent over a link that is open, and all of its bytes say that a reply streams of which `rest` came so far
pub record Opened (is_head streamed : Bool) (calls0 calls : Option (List Call)) (to : Address) (text : List ℕ) (head : ReplyHead)
    (frame : Frame) (rest : List ℕ) (link : LinkState) : Type 0 where
  pub held : List ℕ
  pub noted : NotesOpen calls0 calls to text held link
  pub got : Got is_head streamed held (stream head frame (rest ++ rest_of link.left))
  pub calm : link.faults ≡ 0

-- what an exchange leaves: by the dial's calls before and after, whom it dialed, what it had to send, whether a dial failed
-- and whether a link did, and its answer
abbrev pub Exchanged : {K : Type 0} → (K → LinkState) → Bool → Bool → Option (List Call) → Option (List Call) → Address → List ℕ
    → Type 0 → Type 0 → LinkAnswer K → Type 0
Exchanged state is_head streamed calls0 calls to text dial_rose link_rose (answer.Whole head body) =
    Answered is_head streamed calls0 calls to text (whole head body)
Exchanged state is_head streamed calls0 calls to text dial_rose link_rose (answer.Streamed head frame rest link) =
    Opened is_head streamed calls0 calls to text head frame rest (state link)
Exchanged state is_head streamed calls0 calls to text dial_rose link_rose answer.BadReply =
    Answered is_head streamed calls0 calls to text bad
Exchanged state is_head streamed calls0 calls to text dial_rose link_rose answer.Cut =
    Answered is_head streamed calls0 calls to text cut
Exchanged state is_head streamed calls0 calls to text dial_rose link_rose answer.DialFailed =
    Grows calls0 calls (failed_call to ∷ []) × dial_rose
Exchanged state is_head streamed calls0 calls to text dial_rose link_rose answer.LinkFault =
    HandedBack calls0 calls to text × link_rose

-- a final status
abbrev pub IsFinal : ReplyHead → Type 0
IsFinal head = (200 ≤ head.status) × (head.status < 1000)

-- the head of a reply has a final status
abbrev pub HasFinal : {K : Type 0} → LinkAnswer K → Type 0
HasFinal (answer.Whole head body) = IsFinal head
HasFinal (answer.Streamed head frame rest link) = IsFinal head
HasFinal _ = Unit {0}

-- ---- over the link itself

-- what all bytes of the link say, where this came of it and these bytes are left
abbrev pub said_by : Option (List ℕ) → Talk → Option Said
said_by left (talk.Whole head body) = Some (whole head body)
said_by left (talk.Streamed head frame rest) = Some (stream head frame (rest ++ rest_of left))
said_by left talk.BadReply = Some bad
said_by left talk.Cut = Some cut
said_by left talk.LinkFault = None

-- the bytes of the link say so, or a read failed
abbrev pub ReadsBy : Bool → Bool → Option (List ℕ) → Option (List ℕ) → Type 0 → Option Said → Type 0
ReadsBy is_head streamed left0 left rose (Some said) = Came is_head streamed left0 left said
ReadsBy is_head streamed left0 left rose None = rose

-- the whole text was written and the bytes of the link say so, or a front of the text was written and a call failed
abbrev pub TalksBy : Bool → Bool → Option (List ℕ) → Option (List ℕ) → Option (List ℕ) → Option (List ℕ) → List ℕ → Type 0
    → Option Said → Type 0
TalksBy is_head streamed left0 left written0 written text faulty (Some said) =
    Appends written0 written text × Came is_head streamed left0 left said
TalksBy is_head streamed left0 left written0 written text faulty None = AppendsFront written0 written text × faulty

-- a reply came
abbrev pub is_reply : Talk → Bool
is_reply (talk.Whole head body) = true
is_reply (talk.Streamed head frame rest) = true
is_reply _ = false

abbrev pub TalksFinal : Talk → Type 0
TalksFinal (talk.Whole head body) = IsFinal head
TalksFinal (talk.Streamed head frame rest) = IsFinal head
TalksFinal _ = Unit {0}

-- what comes of a link where no reply came
abbrev pub StopsAs : ReplyStop → Talk → Type 0
StopsAs reply_stop.BadReply t = t ≡ talk.BadReply
StopsAs (reply_stop.Input read_stop.AtEnd) t = t ≡ talk.Cut
StopsAs (reply_stop.Input read_stop.ReadFault) t = t ≡ talk.LinkFault
StopsAs (reply_stop.Input read_stop.NoMemory) t = ⊥
