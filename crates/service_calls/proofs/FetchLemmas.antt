-- What a reply says, once its link was handed back.
use Rattle.std.proofs.Common.{◌≡◌, ℕ, ◌≤◌, ◌⊎◌, Bool, true, false, List, [], ◌++◌, length, Option, Some, None, refl, sym, subst, arith, inl, inr}
use Rattle.std.specs.Prelude.{Result, Ok, Err, IfOk, OnErr}
use Rattle.std.proofs.lemmas.Result.{IfOk-weaker}
use Rattle.body_frames.specs.declared.frame.Frame.{Frame}
use Rattle.std.proofs.Math.Seq.{take-length}
use Rattle.forward_link.specs.Exchange.{Answered, Exchanged, HandedBack, LinkState, NotesOne, Opened}
use Rattle.forward_link.specs.Reading.{rest_of}
use Rattle.forward_link.specs.Says.{Said, whole, stream, bad, cut}
use Rattle.forward_link.specs.declared.link_exchange.LinkAnswer.{LinkAnswer}
use Rattle.forward_link.specs.declared.link_exchange.LinkAnswer.TheVariants as answer
use Rattle.front_ports.specs.Cause.{Rose}
use Rattle.front_ports.specs.Dials.{NotesSent}
use Rattle.http_head.specs.declared.reply.ReplyHead.{ReplyHead}
use Rattle.service_calls.specs.Calls.{DialState, Due}
use Rattle.service_calls.specs.Fetched.{AnswersBy, Closes, Fetches, HasReply, IsSaid, IsWhole, StopsFetching, Streams, StreamsPart}
use Rattle.service_calls.specs.declared.reply.Fetched.{Fetched}
use Rattle.service_calls.specs.declared.reply.Fetched.TheVariants as fetched
use Rattle.service_calls.proofs.LinkLemmas.{closes}
use Rattle.service_calls.proofs.SaysLemmas.{BlocksStay, BlocksEnd}
use Rattle.stream_relay.specs.Keep.{Keeps}
use Rattle.stream_relay.specs.Relay.{Ended, Output, Relays, Stopped}
use Rattle.stream_relay.specs.Stream.{Says, body_in}
use Rattle.stream_relay.specs.declared.keep.Keep.{Keep}
use Rattle.stream_relay.specs.declared.stream.Relayed.{Relayed}
use Rattle.stream_relay.specs.declared.stream.Relayed.TheVariants as relayed
use Rattle.wire_intake.specs.Seen.{Seen}

-- the law of bodies
abbrev pub OneEnd : Type 0
OneEnd = (frame : Frame) (input : List ℕ) (a b : Relayed) → Says frame input a → Says frame input b → a ≡ b

-- ---- replies

-- the reply that came to its end is answered so
pub said_whole : (said : Said) (status : ℕ) (body : List ℕ) (got : Fetched) → HasReply said status body → IsWhole status body got → IsSaid said got
said_whole said status body (fetched.Reply s b) reply h = (status, body, reply, h)
said_whole said status body (fetched.TooLong s) reply h = (status, body, reply, h)
said_whole said status body fetched.NoReply reply h = absurd h
said_whole said status body fetched.NotDialed reply h = absurd h
said_whole said status body fetched.LinkFault reply h = absurd h

said_cut : OneEnd → (head : ReplyHead) (frame : Frame) (after : List ℕ) (end : Relayed) → Says frame after end
    → (relayed.Done ≡ end → ⊥) → IsSaid (stream head frame after) fetched.NoReply
said_cut one head frame after end says not = λ status body r. not (one frame after relayed.Done end r.0 says)

-- ---- a reply that streams

module _ (stay : BlocksStay) (ends : BlocksEnd) (one : OneEnd) (head : ReplyHead) (frame : Frame) (chunked : Bool) (rest : List ℕ)
    (link : LinkState) (left : Option (List ℕ)) (k n : DialState) (w0 w1 : Option (List ℕ)) (keep0 keep : Keep) (link_rose rose : Type 0)
    (go : link_rose → Rose k.link_faults n.link_faults) (sent : NotesSent k.calls n.calls link.number link.written) where
  abbrev out0 : Output
  out0 = record { written = w0; keep = keep0 }

  abbrev out1 : Output
  out1 = record { written = w1; keep = keep }

  closed : (seen : List ℕ) → Seen link.left left rest seen → Closes head frame rest link k n (seen ++ rest_of left)
  closed seen t = closes stay ends head frame rest seen link left k n t sent

  -- the bytes that were kept are those of the body
  pub kept_all : Keeps true [] keep0 → (e : Ended frame chunked rest link.left left out0 out1 relayed.Done) → Keeps true (body_in frame (e.seen ++ rest_of left)) keep
  kept_all none e = e.wrote.kept.each true [] none

  pub streams_done : (e : Ended frame chunked rest link.left left out0 out1 relayed.Done) (got : Fetched)
      → IsWhole head.status (body_in frame (e.seen ++ rest_of left)) got → Streams head frame rest link k n got
  streams_done e got h = record {
    after = e.seen ++ rest_of left;
    closes = closed e.seen e.taken;
    is = inl (said_whole (stream head frame (e.seen ++ rest_of left)) head.status (body_in frame (e.seen ++ rest_of left)) got (e.says, refl, refl) h);
  }

  ended_cut : (end : Relayed) → (relayed.Done ≡ end → ⊥) → Ended frame chunked rest link.left left out0 out1 end → Streams head frame rest link k n fetched.NoReply
  ended_cut end not e = record {
    after = e.seen ++ rest_of left;
    closes = closed e.seen e.taken;
    is = inl (said_cut one head frame (e.seen ++ rest_of left) end e.says not);
  }

  -- what isn't done is no reply, or the link failed
  pub streams_cut : (rose → ⊥) → (end : Relayed) → (relayed.Done ≡ end → ⊥) → Relays frame chunked rest link.left left out0 out1 link_rose rose end
      → Streams head frame rest link k n fetched.NoReply
  streams_cut calm relayed.Done not e = absurd (not refl)
  streams_cut calm relayed.StreamSpent not e = ended_cut relayed.StreamSpent not e
  streams_cut calm relayed.BackendCut not (inl e) = ended_cut relayed.BackendCut not e
  streams_cut calm relayed.BackendCut not (inr e) = record {
    after = e.0.seen ++ rest_of left;
    closes = closed e.0.seen e.0.taken;
    is = inr (go e.1, refl);
  }
  streams_cut calm relayed.WriteFault not e = absurd (calm e.1)

  nothing : {E : Type 0} → (rose → ⊥) → (end : Relayed) → (relayed.Done ≡ end → ⊥) → (r : Result Fetched E) → IfOk r (λ got. got ≡ fetched.NoReply)
      → Relays frame chunked rest link.left left out0 out1 link_rose rose end → IfOk r (Streams head frame rest link k n)
  nothing calm end not r is e =
      IfOk-weaker r (λ got. got ≡ fetched.NoReply) (Streams head frame rest link k n)
      (λ got h. subst (Streams head frame rest link k n) (sym h) (streams_cut calm end not e)) is

  -- by what a body gives that ended so
  pub streams_ends : {E : Type 0} → (rose → ⊥) → Keeps true [] keep0 → (end : Relayed) (r : Result Fetched E)
      → (end ≡ relayed.Done → (body : List ℕ) → Keeps true body keep → IfOk r (IsWhole head.status body))
      → ((end ≡ relayed.Done → ⊥) → IfOk r (λ got. got ≡ fetched.NoReply))
      → Relays frame chunked rest link.left left out0 out1 link_rose rose end → IfOk r (Streams head frame rest link k n)
  streams_ends calm none relayed.Done r done short e =
      IfOk-weaker r (IsWhole head.status (body_in frame (e.seen ++ rest_of left))) (Streams head frame rest link k n)
      (λ got h. streams_done e got h) (done refl (body_in frame (e.seen ++ rest_of left)) (kept_all none e))
  streams_ends calm none relayed.StreamSpent r done short e = nothing calm relayed.StreamSpent (λ d. absurd (cc d)) r (short (λ d. absurd (cc d))) e
  streams_ends calm none relayed.BackendCut r done short e = nothing calm relayed.BackendCut (λ d. absurd (cc d)) r (short (λ d. absurd (cc d))) e
  streams_ends calm none relayed.WriteFault r done short e = nothing calm relayed.WriteFault (λ d. absurd (cc d)) r (short (λ d. absurd (cc d))) e

  pub streams_stopped : Stopped frame chunked rest link.left left out0 out1 → StreamsPart head frame rest link k n
  streams_stopped s = record { after = s.seen ++ rest_of left; closes = closed s.seen s.taken }

  pub streams_then : (end : Relayed) → (rose → ⊥) → Relays frame chunked rest link.left left out0 out1 link_rose rose end → StreamsPart head frame rest link k n
  streams_then relayed.Done calm e = record { after = e.seen ++ rest_of left; closes = closed e.seen e.taken }
  streams_then relayed.StreamSpent calm e = record { after = e.seen ++ rest_of left; closes = closed e.seen e.taken }
  streams_then relayed.BackendCut calm (inl e) = record { after = e.seen ++ rest_of left; closes = closed e.seen e.taken }
  streams_then relayed.BackendCut calm (inr e) = record { after = e.0.seen ++ rest_of left; closes = closed e.0.seen e.0.taken }
  streams_then relayed.WriteFault calm e = absurd (calm e.1)

-- ---- a whole exchange

-- a link that was handed back
pub handed : (due : Due) (m n : DialState) (said : Said) → Answered false false m.calls n.calls due.to due.text said → HandedBack m.calls n.calls due.to due.text
handed due m n said a = record {
  count = length due.text;
  held = a.held;
  noted = subst (λ (t : List ℕ). NotesOne m.calls n.calls due.to t a.held) (sym (take-length due.text)) a.noted;
}

-- what was answered is what an exchange leaves
pub answers_by : {K : Type 0} (state : K → LinkState) (due : Due) (m k : DialState) (text : List ℕ) (a : LinkAnswer K) → text ≡ due.text
    → Exchanged state false false m.calls k.calls due.to text (Rose m.faults k.faults) (Rose m.link_faults k.link_faults) a → AnswersBy state due m k a
answers_by state due m k text (answer.Whole head body) e x = subst (λ (t : List ℕ). Answered false false m.calls k.calls due.to t (whole head body)) e x
answers_by state due m k text (answer.Streamed head frame rest link) e x =
    subst (λ (t : List ℕ). Opened false false m.calls k.calls due.to t head frame rest (state link)) e x
answers_by state due m k text answer.BadReply e x = subst (λ (t : List ℕ). Answered false false m.calls k.calls due.to t bad) e x
answers_by state due m k text answer.Cut e x = subst (λ (t : List ℕ). Answered false false m.calls k.calls due.to t cut) e x
answers_by state due m k text answer.DialFailed e x = x
answers_by state due m k text answer.LinkFault e x = (subst (λ (t : List ℕ). HandedBack m.calls k.calls due.to t) e x.0, x.1)

-- by what was answered, where its link isn't opened
fetches_said : (due : Due) (m n : DialState) (said : Said) (got : Fetched) → Answered false false m.calls n.calls due.to due.text said
    → IsSaid said got → Fetches due m n got
fetches_said due m n said (fetched.Reply s b) a h = record { said = said; answered = a; is = h }
fetches_said due m n said (fetched.TooLong s) a h = record { said = said; answered = a; is = h }
fetches_said due m n said fetched.NoReply a h = inl (record { said = said; answered = a; is = h })
fetches_said due m n said fetched.NotDialed a h = absurd h.3
fetches_said due m n said fetched.LinkFault a h = absurd h.3

pub fetches_whole : (due : Due) (m n : DialState) (head : ReplyHead) (body : List ℕ)
    → Answered false false m.calls n.calls due.to due.text (whole head body) → Fetches due m n (fetched.Reply head.status body)
fetches_whole due m n head body a = record { said = whole head body; answered = a; is = (head.status, body, (refl, refl), (refl, refl)) }

pub fetches_bad : (due : Due) (m n : DialState) → Answered false false m.calls n.calls due.to due.text bad → Fetches due m n fetched.NoReply
fetches_bad due m n a = inl (record { said = bad; answered = a; is = λ status body r. r })

pub fetches_cut : (due : Due) (m n : DialState) → Answered false false m.calls n.calls due.to due.text cut → Fetches due m n fetched.NoReply
fetches_cut due m n a = inl (record { said = cut; answered = a; is = λ status body r. r })

-- by a reply that streamed
pub fetches_streamed : (due : Due) (m k n : DialState) (head : ReplyHead) (frame : Frame) (rest : List ℕ) (link : LinkState) (got : Fetched)
    → m.link_faults ≤ k.link_faults → Opened false false m.calls k.calls due.to due.text head frame rest link
    → Streams head frame rest link k n got → Fetches due m n got
fetches_streamed due m k n head frame rest link got later opened s = by_is s.is
  where
    answered : Answered false false m.calls n.calls due.to due.text (stream head frame s.after)
    answered = s.closes m.calls due.to due.text opened

    broke : Rose k.link_faults n.link_faults → Fetches due m n fetched.NoReply
    broke f = inr (handed due m n (stream head frame s.after) answered, omega (arith, f, later))

    by_is : IsSaid (stream head frame s.after) got ⊎ (Rose k.link_faults n.link_faults × (got ≡ fetched.NoReply)) → Fetches due m n got
    by_is (inl h) = fetches_said due m n (stream head frame s.after) got answered h
    by_is (inr f) = subst (Fetches due m n) (sym f.1) (broke f.0)

pub stops_streamed : (due : Due) (m k n : DialState) (head : ReplyHead) (frame : Frame) (rest : List ℕ) (link : LinkState)
    → Opened false false m.calls k.calls due.to due.text head frame rest link → StreamsPart head frame rest link k n → StopsFetching due m n
stops_streamed due m k n head frame rest link opened s =
    inr (handed due m n (stream head frame s.after) (s.closes m.calls due.to due.text opened))

-- ---- by a result

pub on_err : {T E : Type 0} (r : Result T E) (P : Type 0) → P → OnErr r P
on_err (Ok x) P p = tt
on_err (Err x) P p = p
