-- A reply that is handed on as it comes (RFC 9112, sections 6.3, 7.1 and 8).
use Rattle.std.specs.Prelude.{◌≡◌, ℕ, ◌⊎◌, ◌==◌, ⊤, Bool, List, ◌++◌, Option, Some, None, All}
use Rattle.std.specs.Io.KnownBytes.{Appends}
use Rattle.audit_core.specs.Answer as answer
use Rattle.audit_core.specs.Exchange.{sent_body}
use Rattle.audit_core.specs.declared.link_note.LinkNote.{LinkNote}
use Rattle.audit_core.specs.declared.link_note.LinkNote.TheVariants as note
use Rattle.audit_core.specs.declared.routed.Handling.{Handling}
use Rattle.body_frames.specs.Chunks.{IsPiece}
use Rattle.body_frames.specs.declared.frame.Frame.{Frame}
use Rattle.exchange_replies.specs.Client.{client_text}
use Rattle.exchange_replies.specs.Sent.{is_head, Sent, DialState, Reaches, note_of, body_of}
use Rattle.exchange_replies.specs.Statuses.{IsFinalReached, IsStatus}
use Rattle.exchange_replies.specs.declared.reached.Reached.{Reached}
use Rattle.exchange_replies.specs.declared.reply_tag.ReplyTag.{ReplyTag}
use Rattle.exchange_replies.specs.declared.sent_on.SentOn.{SentOn}
use Rattle.exchange_replies.specs.declared.sent_on.SentOn.TheVariants.{Once, Open}
use Rattle.exchange_replies.specs.declared.streaming.ReplyEnd.{ReplyEnd}
use Rattle.forward_link.specs.Client.{client_head}
use Rattle.forward_link.specs.Exchange.{Answered, LinkState, Opened}
use Rattle.forward_link.specs.Reading.{rest_of}
use Rattle.forward_link.specs.Says.{stream}
use Rattle.front_base.specs.declared.address.Address.{Address}
use Rattle.front_ports.specs.Cause.{Rose}
use Rattle.front_ports.specs.Written.{AppendsFront}
use Rattle.front_ports.specs.declared.dial.Call.{Call}
use Rattle.http_edge.specs.declared.request.Request.{Request}
use Rattle.http_head.specs.Written.{reply_text}
use Rattle.http_head.specs.declared.reply.ReplyHead.{ReplyHead}
use Rattle.stage_event.specs.Kept.{IsKeptAs}
use Rattle.stage_event.specs.declared.facts.Kept.{Kept}
use Rattle.stage_event.specs.declared.facts.Kept.TheVariants.{NotAsked, CutOff}
use Rattle.stage_event.specs.declared.show.Show.{Show}
use Rattle.stage_event.specs.declared.show.Show.TheVariants.{Nothing, Whole, Pruned}
use Rattle.stream_relay.specs.Keep.{KeepsMore}
use Rattle.stream_relay.specs.Relay.{Output}
use Rattle.stream_relay.specs.Stream.{Says, body_in, gets_chunks, pieces_text, joined, ending}
use Rattle.stream_relay.specs.declared.keep.Keep.{Keep}
use Rattle.stream_relay.specs.declared.stream.Relayed.{Relayed}
use Rattle.stream_relay.specs.declared.stream.Relayed.TheVariants as relayed
use Rattle.wire_intake.specs.Seen.{Seen}

-- ---- what came of sending a request on

-- a reply streams over an open link, or this came of it and no link is open
abbrev pub ForwardsBy : {K : Type 0} → (K → LinkState) → Bool → Bool → Sent → DialState → DialState → SentOn K → Type 0
ForwardsBy state is_head long own m n (Once reached) = Reaches is_head long (Some own) m n reached
ForwardsBy state is_head long own m n (Open head frame rest link) =
    Opened is_head long m.calls n.calls own.to own.text head frame rest (state link)

abbrev pub Forwards : {K : Type 0} → (K → LinkState) → Bool → Bool → Option Sent → DialState → DialState → SentOn K → Type 0
Forwards state is_head long None m n (Once reached) = Reaches is_head long None m n reached
Forwards state is_head long None m n (Open head frame rest link) = ⊥
Forwards state is_head long (Some own) m n sent = ForwardsBy state is_head long own m n sent

abbrev pub note_of_sent : {K : Type 0} → SentOn K → LinkNote
note_of_sent (Once reached) = note_of reached
note_of_sent (Open head frame rest link) = note.Streamed head.status

abbrev pub IsFinalSent : {K : Type 0} → SentOn K → Type 0
IsFinalSent (Once reached) = IsFinalReached reached
IsFinalSent (Open head frame rest link) = IsStatus head.status

-- ---- what came of it in all

-- what came of a link at once; or the head of a reply that streamed, its frame, and all bytes after the head
pub data Came : Type 0 where
  once : (reached : Reached) → Came
  streamed : (head : ReplyHead) (frame : Frame) (after : List ℕ) → Came

abbrev pub link_of : Came → LinkNote
link_of (once reached) = note_of reached
link_of (streamed head frame after) = note.Streamed head.status

-- the body of the reply, if one came: of one that streamed the decoded body, as far as its bytes go
abbrev pub reply_body : Came → List ℕ
reply_body (once reached) = body_of reached
reply_body (streamed head frame after) = body_in frame after

-- one call was made, its link was handed back, and this is what all of its bytes say, unless a count of faults rose
abbrev pub Comes : Bool → Bool → Option Sent → DialState → DialState → Came → Type 0
Comes is_head long own m n (once reached) = Reaches is_head long own m n reached
Comes is_head long None m n (streamed head frame after) = ⊥
Comes is_head long (Some own) m n (streamed head frame after) =
    Answered is_head long m.calls n.calls own.to own.text (stream head frame after)

-- where it was sent on from any state of the dial, this came of it in all
abbrev pub ComesTo : {K : Type 0} → (K → LinkState) → Bool → SentOn K → DialState → DialState → Came → Type 0
ComesTo state is_head sent k n came =
    (long : Bool) (own : Option Sent) (m : DialState) → Forwards state is_head long own m k sent → Comes is_head long own m n came

-- ---- the client's bytes

-- the head that the client gets of a reply that streams
unfoldable pub stream_head : Request → ReplyTag → ReplyHead → Frame → List ℕ
stream_head r tag head frame = reply_text (client_head head tag.id frame (r.head.minor == 0) tag.closing)

abbrev pub in_chunks : Request → Frame → Bool
in_chunks r frame = gets_chunks frame (r.head.minor == 0)

-- the head, the decoded body of these bytes in pieces that are not empty, and what follows by how it ends
pub record IsStreamText (r : Request) (tag : ReplyTag) (head : ReplyHead) (frame : Frame) (input : List ℕ) (end : Relayed)
    (text : List ℕ) : Type 0 where
  pub pieces : List (List ℕ)
  pub each : All IsPiece pieces
  pub body_is : body_in frame input ≡ joined pieces
  pub text_is : text ≡ stream_head r tag head frame ++ (pieces_text (in_chunks r frame) pieces ++ ending (in_chunks r frame) end)

-- all bytes after the head say that the body ends so, and this is the text of it
pub record IsTold (r : Request) (tag : ReplyTag) (head : ReplyHead) (frame : Frame) (after : List ℕ) (end : Relayed) (text : List ℕ)
    : Type 0 where
  pub says : Says frame after end
  pub text_is : IsStreamText r tag head frame after end text

-- the link failed, and this is the text of the bytes that had come
pub record IsLost (r : Request) (tag : ReplyTag) (head : ReplyHead) (frame : Frame) (after text : List ℕ) (rose : Type 0) : Type 0 where
  pub seen : List ℕ
  pub more : List ℕ
  pub split : after ≡ seen ++ more
  pub text_is : IsStreamText r tag head frame seen relayed.BackendCut text
  pub failed : rose

-- the text of all bytes after the head, however they end
abbrev pub IsAnyText : Request → ReplyTag → ReplyHead → Frame → List ℕ → List ℕ → Type 0
IsAnyText r tag head frame after text = (end : Relayed) × IsTold r tag head frame after end text

-- what is written of a reply that streams and ends so, where the client takes it
abbrev pub Streams : Request → ReplyTag → ReplyHead → Frame → List ℕ → Type 0 → Relayed → List ℕ → Type 0
Streams r tag head frame after rose relayed.Done text = IsTold r tag head frame after relayed.Done text
Streams r tag head frame after rose relayed.StreamSpent text = IsTold r tag head frame after relayed.StreamSpent text
Streams r tag head frame after rose relayed.BackendCut text =
    IsTold r tag head frame after relayed.BackendCut text ⊎ IsLost r tag head frame after text rose
Streams r tag head frame after rose relayed.WriteFault text = IsAnyText r tag head frame after text

-- a reply that came at once is cut only by a write that fails
abbrev pub EndsAtOnce : Relayed → Type 0
EndsAtOnce relayed.Done = ⊤
EndsAtOnce relayed.WriteFault = ⊤
EndsAtOnce relayed.BackendCut = ⊥
EndsAtOnce relayed.StreamSpent = ⊥

-- what is written of any reply that ends so; `rose` says that a link failed
abbrev pub Replies : Request → ReplyTag → Handling → Type 0 → Came → Relayed → List ℕ → Type 0
Replies r tag handling rose (once reached) end text = EndsAtOnce end × (text ≡ client_text r tag handling reached)
Replies r tag handling rose (streamed head frame after) end text = Streams r tag head frame after rose end text

-- all of a text was written, or a prefix of it where a write failed
abbrev pub WritesTo : Option (List ℕ) → Option (List ℕ) → List ℕ → Type 0 → Relayed → Type 0
WritesTo old new text rose relayed.Done = Appends old new text
WritesTo old new text rose relayed.BackendCut = Appends old new text
WritesTo old new text rose relayed.StreamSpent = Appends old new text
WritesTo old new text rose relayed.WriteFault = AppendsFront old new text × rose

-- nothing was written, or some prefix of a reply, whatever its end would have been
abbrev pub WritesPart : Request → ReplyTag → Handling → Type 0 → Came → Option (List ℕ) → Option (List ℕ) → Type 0
WritesPart r tag handling rose came old new =
    (new ≡ old)
    ⊎ ((text : List ℕ) × (end : Relayed) × Replies r tag handling rose came end text × AppendsFront old new text)

-- ---- what is kept of its body

-- of a body that was cut nothing is kept
abbrev pub IsCutOff : Show → Kept → Type 0
IsCutOff Nothing kept = kept ≡ NotAsked
IsCutOff Whole kept = kept ≡ CutOff
IsCutOff Pruned kept = kept ≡ CutOff

abbrev pub IsKeptOf : Request → Show → Relayed → List ℕ → Kept → Type 0
IsKeptOf r show relayed.Done body kept = IsKeptAs show (sent_body r.head.method body) kept
IsKeptOf r show relayed.BackendCut body kept = IsCutOff show kept
IsKeptOf r show relayed.StreamSpent body kept = IsCutOff show kept
IsKeptOf r show relayed.WriteFault body kept = IsCutOff show kept

-- a reply that came at once is kept as it came, also where it could not be written
abbrev pub IsKeptBy : Request → Handling → Show → Came → Relayed → Kept → Type 0
IsKeptBy r handling show (once reached) end kept =
    IsKeptAs show (sent_body r.head.method (answer.body_of handling (note_of reached) (body_of reached))) kept
IsKeptBy r handling show (streamed head frame after) end kept = IsKeptOf r show end (body_in frame after) kept

-- ---- what the calls do

-- the whole reply, or a part of it, was written by its end, and this was kept
pub record RepliedTo {K : Type 0} (state : K → LinkState) (r : Request) (tag : ReplyTag) (handling : Handling) (show : Show)
    (sent : SentOn K) (k n : DialState) (w0 w1 : Option (List ℕ)) (rose : Type 0) (own : ReplyEnd) : Type 0 where
  pub came : Came
  pub comes : ComesTo state (is_head r) sent k n came
  pub link_is : link_of came ≡ note_of_sent sent
  pub text : List ℕ
  pub replies : Replies r tag handling (Rose k.link_faults n.link_faults) came own.end text
  pub writes : WritesTo w0 w1 text rose own.end
  pub kept : IsKeptBy r handling show came own.end own.kept

-- memory ran out: the link was handed back, and some prefix of the reply was written
pub record RepliedPart {K : Type 0} (state : K → LinkState) (r : Request) (tag : ReplyTag) (handling : Handling)
    (sent : SentOn K) (k n : DialState) (w0 w1 : Option (List ℕ)) : Type 0 where
  pub came : Came
  pub comes : ComesTo state (is_head r) sent k n came
  pub link_is : link_of came ≡ note_of_sent sent
  pub written : WritesPart r tag handling (Rose k.link_faults n.link_faults) came w0 w1

-- where the link was open, all of its bytes say what comes once it is handed back
abbrev pub Closes : Bool → ReplyHead → Frame → List ℕ → LinkState → DialState → DialState → List ℕ → Type 0
Closes is_head head frame rest link k n after =
    (long : Bool) (calls : Option (List Call)) (to : Address) (text : List ℕ)
    → Opened is_head long calls k.calls to text head frame rest link
    → Answered is_head long calls n.calls to text (stream head frame after)

-- what a reply that streams is kept as
abbrev pub KeepsTo : Keep → Keep → List ℕ → Relayed → Type 0
KeepsTo old new body relayed.Done = KeepsMore old new body
KeepsTo old new body _ = ⊤

-- the head and the body were handed on; `rest` came with the head, and the link had `left0` to give and has `left`
pub record HandedOn (r : Request) (tag : ReplyTag) (head : ReplyHead) (frame : Frame) (rest : List ℕ) (left0 left : Option (List ℕ))
    (old new : Output) (link_rose rose : Type 0) (end : Relayed) : Type 0 where
  pub seen : List ℕ
  pub taken : Seen left0 left rest seen
  pub text : List ℕ
  pub streams : Streams r tag head frame (seen ++ rest_of left) link_rose end text
  pub writes : WritesTo old.written new.written text rose end
  pub kept : KeepsTo old.keep new.keep (body_in frame (seen ++ rest_of left)) end

-- memory ran out on the way
pub record HandedPart (r : Request) (tag : ReplyTag) (head : ReplyHead) (frame : Frame) (rest : List ℕ) (left0 left : Option (List ℕ))
    (w0 w1 : Option (List ℕ)) : Type 0 where
  pub seen : List ℕ
  pub taken : Seen left0 left rest seen
  pub text : List ℕ
  pub text_is : IsAnyText r tag head frame (seen ++ rest_of left) text
  pub written : AppendsFront w0 w1 text

-- the same, once the link was handed back
pub record Streamed (r : Request) (tag : ReplyTag) (head : ReplyHead) (frame : Frame) (rest : List ℕ) (show : Show) (link : LinkState)
    (k n : DialState) (w0 w1 : Option (List ℕ)) (rose : Type 0) (own : ReplyEnd) : Type 0 where
  pub after : List ℕ
  pub closes : Closes (is_head r) head frame rest link k n after
  pub text : List ℕ
  pub streams : Streams r tag head frame after (Rose k.link_faults n.link_faults) own.end text
  pub writes : WritesTo w0 w1 text rose own.end
  pub kept : IsKeptOf r show own.end (body_in frame after) own.kept

pub record StreamedPart (r : Request) (tag : ReplyTag) (head : ReplyHead) (frame : Frame) (rest : List ℕ) (link : LinkState)
    (k n : DialState) (w0 w1 : Option (List ℕ)) : Type 0 where
  pub after : List ℕ
  pub closes : Closes (is_head r) head frame rest link k n after
  pub text : List ℕ
  pub end : Relayed
  pub streams : Streams r tag head frame after (Rose k.link_faults n.link_faults) end text
  pub written : AppendsFront w0 w1 text

-- a reply that came at once was written by its end, and this was kept
pub record RepliedOnce (r : Request) (tag : ReplyTag) (handling : Handling) (show : Show) (reached : Reached)
    (w0 w1 : Option (List ℕ)) (rose : Type 0) (own : ReplyEnd) : Type 0 where
  pub ends : EndsAtOnce own.end
  pub writes : WritesTo w0 w1 (client_text r tag handling reached) rose own.end
  pub kept : IsKeptBy r handling show (once reached) own.end own.kept

-- nothing was written, and the link was handed back
pub record GivenBack {K : Type 0} (state : K → LinkState) (is_head : Bool) (sent : SentOn K) (k n : DialState) : Type 0 where
  pub came : Came
  pub comes : ComesTo state is_head sent k n came
  pub link_is : link_of came ≡ note_of_sent sent
