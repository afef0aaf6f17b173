-- What was sent on, once its reply was written or given up.
use Rattle.std.proofs.Common.{◌≡◌, ℕ, Bool, List, [], ◌++◌, Option, None, Some, refl, sym, subst, append-nil, inl, inr}
use Rattle.std.proofs.KnownBytes.{Consumes-nil}
use Rattle.audit_core.specs.declared.routed.Handling.{Handling}
use Rattle.body_frames.specs.declared.frame.Frame.{Frame}
use Rattle.exchange_replies.specs.Client.{client_text}
use Rattle.exchange_replies.specs.Sent.{DialState, is_head}
use Rattle.exchange_replies.specs.Streams.{once, streamed, ComesTo, Closes, RepliedOnce, RepliedTo, RepliedPart, Streamed, StreamedPart, GivenBack}
use Rattle.exchange_replies.specs.declared.reached.Reached.{Reached}
use Rattle.exchange_replies.specs.declared.reply_tag.ReplyTag.{ReplyTag}
use Rattle.exchange_replies.specs.declared.sent_on.SentOn.{SentOn}
use Rattle.exchange_replies.specs.declared.sent_on.SentOn.TheVariants.{Once, Open}
use Rattle.exchange_replies.specs.declared.streaming.ReplyEnd.{ReplyEnd}
use Rattle.exchange_replies.proofs.LinkLemmas.{closes}
use Rattle.exchange_replies.proofs.SaysLemmas.{BlocksStay, BlocksEnd}
use Rattle.forward_link.specs.Exchange.{LinkState}
use Rattle.forward_link.specs.Reading.{rest_of}
use Rattle.front_ports.specs.Dials.{NotesSent}
use Rattle.http_edge.specs.declared.request.Request.{Request}
use Rattle.http_head.specs.declared.reply.ReplyHead.{ReplyHead}
use Rattle.stage_event.specs.declared.show.Show.{Show}

module _ {K : Type 0} (state : K → LinkState) where
  comes_once : (is_head : Bool) (k : DialState) (reached : Reached) → ComesTo state is_head (Once reached) k k (once reached)
  comes_once is_head k reached long None m h = h
  comes_once is_head k reached long (Some own) m h = h

  comes_open : (is_head : Bool) (head : ReplyHead) (frame : Frame) (rest : List ℕ) (link : K) (k n : DialState) (after : List ℕ)
      → Closes is_head head frame rest (state link) k n after
      → ComesTo state is_head (Open head frame rest link) k n (streamed head frame after)
  comes_open is_head head frame rest link k n after c long None m h = absurd h
  comes_open is_head head frame rest link k n after c long (Some own) m h = c long m.calls own.to own.text h

  pub once_to : (r : Request) (tag : ReplyTag) (handling : Handling) (show : Show) (reached : Reached) (sent : SentOn K) (k : DialState)
      (w0 w1 : Option (List ℕ)) (rose : Type 0) (own : ReplyEnd) → sent ≡ Once reached → RepliedOnce r tag handling show reached w0 w1 rose own
      → RepliedTo state r tag handling show sent k k w0 w1 rose own
  once_to r tag handling show reached sent k w0 w1 rose own e h =
      subst (λ (s : SentOn K). RepliedTo state r tag handling show s k k w0 w1 rose own) (sym e) (record {
        came = once reached;
        comes = comes_once (is_head r) k reached;
        link_is = refl;
        text = client_text r tag handling reached;
        replies = (h.ends, refl);
        writes = h.writes;
        kept = h.kept;
      })

  pub once_part : (r : Request) (tag : ReplyTag) (handling : Handling) (reached : Reached) (sent : SentOn K) (k : DialState)
      (w0 w1 : Option (List ℕ)) → sent ≡ Once reached → w1 ≡ w0 → RepliedPart state r tag handling sent k k w0 w1
  once_part r tag handling reached sent k w0 w1 e q =
      subst (λ (s : SentOn K). RepliedPart state r tag handling s k k w0 w1) (sym e) (record {
        came = once reached;
        comes = comes_once (is_head r) k reached;
        link_is = refl;
        written = inl q;
      })

  pub open_to : (r : Request) (tag : ReplyTag) (handling : Handling) (show : Show) (head : ReplyHead) (frame : Frame) (rest bytes : List ℕ) (link : K)
      (sent : SentOn K) (k n : DialState) (w0 w1 : Option (List ℕ)) (rose : Type 0) (own : ReplyEnd) → sent ≡ Open head frame rest link
      → bytes ≡ rest → Streamed r tag head frame bytes show (state link) k n w0 w1 rose own
      → RepliedTo state r tag handling show sent k n w0 w1 rose own
  open_to r tag handling show head frame rest bytes link sent k n w0 w1 rose own e b s =
      let h = subst (λ (l : List ℕ). Streamed r tag head frame l show (state link) k n w0 w1 rose own) b s in
      subst (λ (s : SentOn K). RepliedTo state r tag handling show s k n w0 w1 rose own) (sym e) (record {
        came = streamed head frame h.after;
        comes = comes_open (is_head r) head frame rest link k n h.after h.closes;
        link_is = refl;
        text = h.text;
        replies = h.streams;
        writes = h.writes;
        kept = h.kept;
      })

  pub open_part : (r : Request) (tag : ReplyTag) (handling : Handling) (head : ReplyHead) (frame : Frame) (rest bytes : List ℕ) (link : K)
      (sent : SentOn K) (k n : DialState) (w0 w1 : Option (List ℕ)) → sent ≡ Open head frame rest link → bytes ≡ rest
      → StreamedPart r tag head frame bytes (state link) k n w0 w1 → RepliedPart state r tag handling sent k n w0 w1
  open_part r tag handling head frame rest bytes link sent k n w0 w1 e b s =
      let h = subst (λ (l : List ℕ). StreamedPart r tag head frame l (state link) k n w0 w1) b s in
      subst (λ (s : SentOn K). RepliedPart state r tag handling s k n w0 w1) (sym e) (record {
        came = streamed head frame h.after;
        comes = comes_open (is_head r) head frame rest link k n h.after h.closes;
        link_is = refl;
        written = inr (h.text, h.end, h.streams, h.written);
      })

  pub back_once : (is_head : Bool) (reached : Reached) (sent : SentOn K) (k : DialState) → sent ≡ Once reached
      → GivenBack state is_head sent k k
  back_once is_head reached sent k e =
      subst (λ (s : SentOn K). GivenBack state is_head s k k) (sym e)
      (record { came = once reached; comes = comes_once is_head k reached; link_is = refl })

  pub back_open : BlocksStay → BlocksEnd → (is_head : Bool) (head : ReplyHead) (frame : Frame) (rest : List ℕ) (link : K) (sent : SentOn K)
      (k n : DialState) → sent ≡ Open head frame rest link → NotesSent k.calls n.calls (state link).number (state link).written
      → GivenBack state is_head sent k n
  back_open stay ends is_head head frame rest link sent k n e s =
      subst (λ (own : SentOn K). GivenBack state is_head own k n) (sym e) (record {
        came = streamed head frame (rest ++ rest_of (state link).left);
        comes = comes_open is_head head frame rest link k n (rest ++ rest_of (state link).left)
            (closes stay ends is_head head frame rest rest (state link) (state link).left k n
            (record { taken = []; consumed = Consumes-nil (state link).left; all = sym (append-nil rest) }) s);
        link_is = refl;
      })
