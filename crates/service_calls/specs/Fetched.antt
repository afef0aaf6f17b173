-- What comes of asking for a whole reply.
use Rattle.std.specs.Prelude.{◌≡◌, ℕ, ◌<◌, ◌⊎◌, false, List, [], ◌∷◌, length, Option}
use Rattle.body_frames.specs.declared.frame.Frame.{Frame}
use Rattle.forward_link.specs.Exchange.{Answered, HandedBack, LinkState, Opened}
use Rattle.forward_link.specs.Says.{Said, whole, stream, bad, cut}
use Rattle.forward_link.specs.declared.link_exchange.LinkAnswer.{LinkAnswer}
use Rattle.forward_link.specs.declared.link_exchange.LinkAnswer.TheVariants as answer
use Rattle.front_base.specs.declared.address.Address.{Address}
use Rattle.front_ports.specs.Cause.{Rose}
use Rattle.front_ports.specs.Dials.{failed_call}
use Rattle.front_ports.specs.Told.{Grows}
use Rattle.front_ports.specs.declared.dial.Call.{Call}
use Rattle.http_head.specs.declared.reply.ReplyHead.{ReplyHead}
use Rattle.service_calls.specs.Calls.{DialState, Due}
use Rattle.service_calls.specs.declared.reply.Fetched.{Fetched}
use Rattle.service_calls.specs.declared.reply.Fetched.TheVariants as fetched
use Rattle.stream_relay.specs.Stream.{Says, body_in}
use Rattle.stream_relay.specs.declared.keep.TheConstants.{MOST_KEPT_BYTES}
use Rattle.stream_relay.specs.declared.stream.Relayed.TheVariants.{Done}

-- ---- what a link says

-- a reply with this status and this body came to its frame's end
abbrev pub HasReply : Said → ℕ → List ℕ → Type 0
HasReply (whole head body) status own = (status ≡ head.status) × (own ≡ body)
HasReply (stream head frame after) status own = Says frame after Done × (status ≡ head.status) × (own ≡ body_in frame after)
HasReply bad status own = ⊥
HasReply cut status own = ⊥

-- such a reply is answered whole, or by its status where its body is too long
abbrev pub IsWhole : ℕ → List ℕ → Fetched → Type 0
IsWhole status body (fetched.Reply s b) = (s ≡ status) × (b ≡ body)
IsWhole status body (fetched.TooLong s) = (s ≡ status) × (MOST_KEPT_BYTES < length body)
IsWhole status body _ = ⊥

-- what all bytes of a link say is answered so: by the reply that came to its end, if there is one
abbrev pub IsSaid : Said → Fetched → Type 0
IsSaid said fetched.NoReply = (status : ℕ) (body : List ℕ) → HasReply said status body → ⊥
IsSaid said got = (status : ℕ) × (body : List ℕ) × HasReply said status body × IsWhole status body got

-- ---- what a call does

-- all bytes were sent by one call, and this is said by all bytes of its link
pub record Told (due : Due) (m n : DialState) (got : Fetched) : Type 0 where
  pub said : Said
  pub answered : Answered false false m.calls n.calls due.to due.text said
  pub is : IsSaid said got

-- one call was made, and no link was opened
abbrev pub NotOpened : Due → DialState → DialState → Type 0
NotOpened due m n = Grows m.calls n.calls (failed_call due.to ∷ []) × Rose m.faults n.faults

-- one call was made, and the link failed after some front of the bytes was sent
abbrev pub Broke : Due → DialState → DialState → Type 0
Broke due m n = HandedBack m.calls n.calls due.to due.text × Rose m.link_faults n.link_faults

-- one call was made, and this was fetched
abbrev pub Fetches : Due → DialState → DialState → Fetched → Type 0
Fetches due m n fetched.NotDialed = NotOpened due m n
Fetches due m n fetched.LinkFault = Broke due m n
Fetches due m n fetched.NoReply = Told due m n fetched.NoReply ⊎ Broke due m n
Fetches due m n got = Told due m n got

-- memory ran out before the call, or after some front of the bytes was sent
abbrev pub StopsFetching : Due → DialState → DialState → Type 0
StopsFetching due m n = (n ≡ m) ⊎ HandedBack m.calls n.calls due.to due.text

-- ---- for private clauses

-- what was answered, over a dial that told this before
abbrev pub AnswersBy : {K : Type 0} → (K → LinkState) → Due → DialState → DialState → LinkAnswer K → Type 0
AnswersBy state due m k (answer.Whole head body) = Answered false false m.calls k.calls due.to due.text (whole head body)
AnswersBy state due m k (answer.Streamed head frame rest link) = Opened false false m.calls k.calls due.to due.text head frame rest (state link)
AnswersBy state due m k answer.BadReply = Answered false false m.calls k.calls due.to due.text bad
AnswersBy state due m k answer.Cut = Answered false false m.calls k.calls due.to due.text cut
AnswersBy state due m k answer.DialFailed = NotOpened due m k
AnswersBy state due m k answer.LinkFault = Broke due m k

-- of a link that was open, all bytes say what comes once it is handed back
abbrev pub Closes : ReplyHead → Frame → List ℕ → LinkState → DialState → DialState → List ℕ → Type 0
Closes head frame rest link k n after =
    (calls : Option (List Call)) (to : Address) (text : List ℕ)
    → Opened false false calls k.calls to text head frame rest link
    → Answered false false calls n.calls to text (stream head frame after)

-- a reply that streams was read to its end and its link was handed back: this is said by it, or the link failed
pub record Streams (head : ReplyHead) (frame : Frame) (rest : List ℕ) (link : LinkState) (k n : DialState) (got : Fetched) : Type 0 where
  pub after : List ℕ
  pub closes : Closes head frame rest link k n after
  pub is : IsSaid (stream head frame after) got ⊎ (Rose k.link_faults n.link_faults × (got ≡ fetched.NoReply))

-- memory ran out, and its link was handed back
pub record StreamsPart (head : ReplyHead) (frame : Frame) (rest : List ℕ) (link : LinkState) (k n : DialState) : Type 0 where
  pub after : List ℕ
  pub closes : Closes head frame rest link k n after
