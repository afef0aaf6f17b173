-- The text of a reply that streams, and what is written of it.
use Rattle.std.proofs.Common.{◌≡◌, ℕ, ◌+◌, ◌≤◌, ◌⊎◌, min, Bool, List, [], ◌∷◌, ◌++◌, length, take, Option, refl, sym, ap, subst, ◌∙◌, arith, append_assoc, append-nil, length-append, inl, inr}
use Rattle.std.specs.Prelude.{All, Result, Ok, Err, OnErr}
use Rattle.std.proofs.KnownBytes.{Appends-trans, Consumes-nil}
use Rattle.std.proofs.Math.Seq.{take-append-le, take-append-add, take-length}
use Rattle.std.proofs.lemmas.Grind.{flat_map-append}
use Rattle.std.proofs.lemmas.List.{take_min}
use Rattle.std.proofs.lemmas.List.Elements.{All-append, All-nil, All-push}
use Rattle.std.specs.Io.KnownBytes.{Appends}
use Rattle.body_frames.specs.Chunks.{IsPiece}
use Rattle.body_frames.specs.declared.frame.Frame.{Frame}
use Rattle.exchange_replies.specs.Sent.{DialState, is_head}
use Rattle.exchange_replies.specs.Streams.{IsTold, IsAnyText, Streams, WritesTo, HandedOn, HandedPart, Closes, Streamed, StreamedPart, KeepsTo, IsKeptOf, stream_head, in_chunks}
use Rattle.exchange_replies.specs.declared.reply_tag.ReplyTag.{ReplyTag}
use Rattle.exchange_replies.proofs.LinkLemmas.{closes}
use Rattle.exchange_replies.proofs.SaysLemmas.{BlocksStay, BlocksEnd}
use Rattle.exchange_replies.proofs.WritingLemmas.{front_of_first}
use Rattle.forward_link.specs.Exchange.{LinkState}
use Rattle.forward_link.specs.Reading.{rest_of}
use Rattle.front_ports.specs.Cause.{Rose}
use Rattle.front_ports.specs.Dials.{NotesSent}
use Rattle.front_ports.specs.Written.{AppendsFront}
use Rattle.http_edge.specs.declared.request.Request.{Request}
use Rattle.http_head.specs.declared.reply.ReplyHead.{ReplyHead}
use Rattle.stage_event.specs.Due.{is_due}
use Rattle.stage_event.specs.declared.facts.Kept.{Kept}
use Rattle.stage_event.specs.declared.show.Show.{Show}
use Rattle.stream_relay.specs.Keep.{Keeps}
use Rattle.stream_relay.specs.Relay.{Output, Ended, Stopped, OfPiece, OfEnd, Relays}
use Rattle.stream_relay.specs.Stream.{Says, body_in, piece_text, pieces_text, joined, last_of, ending}
use Rattle.stream_relay.specs.declared.keep.Keep.{Keep}
use Rattle.stream_relay.specs.declared.stream.Relayed.{Relayed}
use Rattle.stream_relay.specs.declared.stream.Relayed.TheVariants as relayed
use Rattle.stream_relay.specs.declared.stream.TheConstants.{MOST_STREAMED_BYTES}
use Rattle.wire_intake.specs.Seen.{Seen}

-- ---- laws of relays

abbrev pub OneEnd : Type 0
OneEnd = (frame : Frame) (input : List ℕ) → (end : Relayed) × Says frame input end

abbrev pub Fits : Type 0
Fits = (frame : Frame) (input : List ℕ) → length (body_in frame input) ≤ MOST_STREAMED_BYTES

pub on_err : {T E : Type 0} (r : Result T E) (P : Type 0) → P → OnErr r P
on_err (Ok x) P p = tt
on_err (Err x) P p = p

-- ---- pieces

-- what is left, as one piece
pieces_of : List ℕ → List (List ℕ)
pieces_of [] = []
pieces_of (b ∷ bytes) = (b ∷ bytes) ∷ []

each_of : (bytes : List ℕ) → length bytes ≤ MOST_STREAMED_BYTES → All IsPiece (pieces_of bytes)
unfolding pieces_of
each_of [] h = All-nil IsPiece
each_of (b ∷ bytes) h = All-push IsPiece [] (b ∷ bytes) (All-nil IsPiece) (omega arith, omega (arith, h))

joined_of : (bytes : List ℕ) → joined (pieces_of bytes) ≡ bytes
unfolding pieces_of
joined_of [] = refl
joined_of (b ∷ bytes) = append-nil (b ∷ bytes)

joined_append : (p q : List (List ℕ)) → joined (p ++ q) ≡ joined p ++ joined q
joined_append p q = flat_map-append (λ (piece : List ℕ). piece) p q

-- ---- prefixes

-- what was written stands first in a text
built : (h p t y z text : List ℕ) (count : ℕ) → t ≡ take count y → text ≡ (h ++ p) ++ (y ++ z)
    → (n : ℕ) × (take n text ≡ h ++ (p ++ t))
built h p t y z text count is e =
    let k = min count (length y) in (
      length (h ++ p) + k,
      ap (take (length (h ++ p) + k)) e
          ∙ take-append-add (h ++ p) (y ++ z) k
          ∙ ap (λ l. (h ++ p) ++ l) (take-append-le k y z (omega arith) ∙ take_min count y ∙ sym is)
          ∙ append_assoc h p t,
    )

text_split : (c : Bool) (h : List ℕ) (pieces more : List (List ℕ)) (y z e : List ℕ) → pieces_text c more ++ e ≡ y ++ z
    → h ++ (pieces_text c (pieces ++ more) ++ e) ≡ (h ++ pieces_text c pieces) ++ (y ++ z)
text_split c h pieces more y z e is =
    ap (λ l. h ++ (l ++ e)) (flat_map-append (piece_text c) pieces more)
    ∙ ap (λ l. h ++ l) (append_assoc (pieces_text c pieces) (pieces_text c more) e)
    ∙ ap (λ l. h ++ (pieces_text c pieces ++ l)) is
    ∙ sym (append_assoc h (pieces_text c pieces) (y ++ z))

module _ (r : Request) (tag : ReplyTag) (head : ReplyHead) (frame : Frame) where
  abbrev c : Bool
  c = in_chunks r frame

  abbrev h : List ℕ
  h = stream_head r tag head frame

  abbrev text_of : List (List ℕ) → Relayed → List ℕ
  text_of pieces end = h ++ (pieces_text c pieces ++ ending c end)

  told : (after : List ℕ) (end : Relayed) (pieces : List (List ℕ)) → Says frame after end → All IsPiece pieces → body_in frame after ≡ joined pieces
      → IsTold r tag head frame after end (text_of pieces end)
  told after end pieces says each is = record { says = says; text_is = record { pieces = pieces; each = each; body_is = is; text_is = refl } }

  -- what was written of a reply that stopped stands first in a text of all of its bytes
  pub record Front (after : List ℕ) (w0 w1 : Option (List ℕ)) : Type 0 where
    pub text : List ℕ
    pub text_is : IsAnyText r tag head frame after text
    pub written : AppendsFront w0 w1 text

  short_rest : Fits → (after done more : List ℕ) → body_in frame after ≡ done ++ more → length more ≤ MOST_STREAMED_BYTES
  short_rest fits after done more e =
      omega (arith, fits frame after, ap length e, length-append done more)

  front_by : (after : List ℕ) (end : Relayed) (pieces more : List (List ℕ)) (t y z : List ℕ) (count : ℕ) (w0 w1 : Option (List ℕ))
      → Says frame after end → All IsPiece (pieces ++ more) → body_in frame after ≡ joined (pieces ++ more) → t ≡ take count y
      → pieces_text c more ++ ending c end ≡ y ++ z → Appends w0 w1 (h ++ (pieces_text c pieces ++ t)) → Front after w0 w1
  front_by after end pieces more t y z count w0 w1 says each is t_is split w =
      let b = built h (pieces_text c pieces) t y z (text_of (pieces ++ more) end) count t_is
      (text_split c h pieces more y z (ending c end) split) in
      record {
        text = text_of (pieces ++ more) end;
        text_is = (end, told after end (pieces ++ more) says each is);
        written = (b.0, subst (λ l. Appends w0 w1 l) (sym b.1) w);
      }

  module _ (one : OneEnd) (fits : Fits) (after : List ℕ) (w0 w1 : Option (List ℕ)) (pieces : List (List ℕ)) (each : All IsPiece pieces)
      (done more : List ℕ) (split : body_in frame after ≡ done ++ more) (done_is : done ≡ joined pieces) where
    -- nothing but whole pieces
    front_none : (t : List ℕ) → t ≡ [] → Appends w0 w1 (h ++ (pieces_text c pieces ++ t)) → Front after w0 w1
    front_none t e w =
        let end = one frame after in
        let qs = pieces_of more in
        front_by after end.0 pieces qs t [] (pieces_text c qs ++ ending c end.0) 0 w0 w1 end.1
        (All-append IsPiece pieces qs each (each_of more (short_rest fits after done more split)))
        (split ∙ ap (λ l. l ++ more) done_is ∙ ap (λ l. joined pieces ++ l) (sym (joined_of more)) ∙ sym (joined_append pieces qs))
        e refl w

    -- a front of the next piece
    front_piece : (t : List ℕ) → OfPiece c more t → Appends w0 w1 (h ++ (pieces_text c pieces ++ t)) → Front after w0 w1
    front_piece t p w =
        let end = one frame after in
        let qs = pieces_of p.after in
        let short : length p.after ≤ MOST_STREAMED_BYTES =
        omega (arith, short_rest fits after done more split, ap length p.split, length-append p.piece p.after) in
        front_by after end.0 pieces (p.piece ∷ qs) t (piece_text c p.piece) (pieces_text c qs ++ ending c end.0) p.count w0 w1 end.1
        (All-append IsPiece pieces (p.piece ∷ qs) each
        (All-append IsPiece (p.piece ∷ []) qs (All-push IsPiece [] p.piece (All-nil IsPiece) p.is_piece) (each_of p.after short)))
        (split ∙ ap (λ l. l ++ more) done_is
        ∙ ap (λ l. joined pieces ++ l) (p.split ∙ ap (λ l. p.piece ++ l) (sym (joined_of p.after)))
        ∙ sym (joined_append pieces (p.piece ∷ qs)))
        p.text_is (append_assoc (piece_text c p.piece) (pieces_text c qs) (ending c end.0)) w

    -- a front of what ends it
    front_end : (t : List ℕ) → OfEnd frame c after more t → Appends w0 w1 (h ++ (pieces_text c pieces ++ t)) → Front after w0 w1
    front_end t p w =
        front_by after relayed.Done pieces [] t (last_of c) [] p.count w0 w1 p.says
        (All-append IsPiece pieces [] each (All-nil IsPiece))
        (split ∙ ap (λ l. done ++ l) p.none ∙ append-nil done ∙ done_is ∙ ap joined (sym (append-nil pieces)))
        p.text_is (sym (append-nil (last_of c))) w

    front : (t : List ℕ) → (t ≡ []) ⊎ (OfPiece c more t ⊎ OfEnd frame c after more t)
        → Appends w0 w1 (h ++ (pieces_text c pieces ++ t)) → Front after w0 w1
    front t (inl e) w = front_none t e w
    front t (inr (inl p)) w = front_piece t p w
    front t (inr (inr p)) w = front_end t p w

  -- ---- after the head was written

  module _ (one : OneEnd) (fits : Fits) (rest : List ℕ) (left0 left : Option (List ℕ)) (w0 w w1 : Option (List ℕ)) (keep0 keep : Keep)
      (wrote_head : Appends w0 w h) where
    abbrev from : Output
    from = record { written = w; keep = keep0 }

    abbrev begun : Output
    begun = record { written = w0; keep = keep0 }

    abbrev to : Output
    to = record { written = w1; keep = keep }

    both : (t : List ℕ) → Appends w w1 t → Appends w0 w1 (h ++ t)
    both t p = Appends-trans w0 w w1 h t wrote_head p

    stopped : (s : Stopped frame c rest left0 left from to) → Front (s.seen ++ rest_of left) w0 w1
    stopped s =
        front one fits (s.seen ++ rest_of left) w0 w1 s.wrote.pieces s.wrote.each s.done s.more s.split s.wrote.body_is s.text s.front
        (both (pieces_text c s.wrote.pieces ++ s.text) s.wrote.written)

    pub part : Stopped frame c rest left0 left from to → HandedPart r tag head frame rest left0 left w0 w1
    part s = let f = stopped s in record { seen = s.seen; taken = s.taken; text = f.text; text_is = f.text_is; written = f.written }

    ended_told : (end : Relayed) (e : Ended frame c rest left0 left from to end)
        → IsTold r tag head frame (e.seen ++ rest_of left) end (text_of e.wrote.pieces end)
    ended_told end e = told (e.seen ++ rest_of left) end e.wrote.pieces e.says e.wrote.each e.wrote.body_is

    pub handed : (link_rose rose later : Type 0) (end : Relayed) → (rose → later) → Relays frame c rest left0 left from to link_rose rose end
        → HandedOn r tag head frame rest left0 left begun to link_rose later end
    handed link_rose rose later relayed.Done go e = record {
      seen = e.seen;
      taken = e.taken;
      text = text_of e.wrote.pieces relayed.Done;
      streams = ended_told relayed.Done e;
      writes = both _ e.wrote.written;
      kept = e.wrote.kept;
    }
    handed link_rose rose later relayed.StreamSpent go e = record {
      seen = e.seen;
      taken = e.taken;
      text = text_of e.wrote.pieces relayed.StreamSpent;
      streams = ended_told relayed.StreamSpent e;
      writes = both _ e.wrote.written;
      kept = tt;
    }
    handed link_rose rose later relayed.BackendCut go (inl e) = record {
      seen = e.seen;
      taken = e.taken;
      text = text_of e.wrote.pieces relayed.BackendCut;
      streams = inl (ended_told relayed.BackendCut e);
      writes = both _ e.wrote.written;
      kept = tt;
    }
    handed link_rose rose later relayed.BackendCut go (inr e) = record {
      seen = e.0.seen;
      taken = e.0.taken;
      text = text_of e.0.wrote.pieces relayed.BackendCut;
      streams = inr (record {
        seen = e.0.seen;
        more = rest_of left;
        split = refl;
        text_is = record { pieces = e.0.wrote.pieces; each = e.0.wrote.each; body_is = e.0.wrote.body_is; text_is = refl };
        failed = e.1;
      });
      writes = both _ e.0.wrote.written;
      kept = tt;
    }
    handed link_rose rose later relayed.WriteFault go e =
        let f = stopped e.0 in
        record { seen = e.0.seen; taken = e.0.taken; text = f.text; streams = f.text_is; writes = (f.written, go e.1); kept = tt }

  -- ---- the head was not written whole

  unwritten : OneEnd → Fits → (after : List ℕ) (w0 w1 : Option (List ℕ)) → AppendsFront w0 w1 h → Front after w0 w1
  unwritten one fits after w0 w1 w =
      let end = one frame after in
      let body = body_in frame after in
      record {
        text = text_of (pieces_of body) end.0;
        text_is = (end.0, told after end.0 (pieces_of body) end.1 (each_of body (fits frame after)) (sym (joined_of body)));
        written = front_of_first w0 w1 h (pieces_text c (pieces_of body) ++ ending c end.0) w;
      }

  none_taken : (left : Option (List ℕ)) (rest : List ℕ) → Seen left left rest rest
  none_taken left rest = record { taken = []; consumed = Consumes-nil left; all = sym (append-nil rest) }

  pub head_cut : OneEnd → Fits → (rest : List ℕ) (left w0 w1 : Option (List ℕ)) (keep : Keep) (link_rose rose : Type 0) → AppendsFront w0 w1 h → rose
      → HandedOn r tag head frame rest left left (record { written = w0; keep = keep }) (record { written = w1; keep = keep }) link_rose rose relayed.WriteFault
  head_cut one fits rest left w0 w1 keep link_rose rose w p =
      let f = unwritten one fits (rest ++ rest_of left) w0 w1 w in
      record { seen = rest; taken = none_taken left rest; text = f.text; streams = f.text_is; writes = (f.written, p); kept = tt }

  pub no_head : OneEnd → Fits → (rest : List ℕ) (left w0 w1 : Option (List ℕ)) → AppendsFront w0 w1 h → HandedPart r tag head frame rest left left w0 w1
  no_head one fits rest left w0 w1 w =
      let f = unwritten one fits (rest ++ rest_of left) w0 w1 w in
      record { seen = rest; taken = none_taken left rest; text = f.text; text_is = f.text_is; written = f.written }

-- ---- once the link was handed back

pub front_of : (w0 w1 : Option (List ℕ)) (text : List ℕ) (rose : Type 0) (end : Relayed) → WritesTo w0 w1 text rose end → AppendsFront w0 w1 text
front_of w0 w1 text rose relayed.Done h = (length text, subst (Appends w0 w1) (sym (take-length text)) h)
front_of w0 w1 text rose relayed.BackendCut h = (length text, subst (Appends w0 w1) (sym (take-length text)) h)
front_of w0 w1 text rose relayed.StreamSpent h = (length text, subst (Appends w0 w1) (sym (take-length text)) h)
front_of w0 w1 text rose relayed.WriteFault h = h.0

streams_later : (r : Request) (tag : ReplyTag) (head : ReplyHead) (frame : Frame) (after : List ℕ) (rose later : Type 0) (end : Relayed) (text : List ℕ)
    → (rose → later) → Streams r tag head frame after rose end text → Streams r tag head frame after later end text
streams_later r tag head frame after rose later relayed.Done text go h = h
streams_later r tag head frame after rose later relayed.StreamSpent text go h = h
streams_later r tag head frame after rose later relayed.WriteFault text go h = h
streams_later r tag head frame after rose later relayed.BackendCut text go (inl h) = inl h
streams_later r tag head frame after rose later relayed.BackendCut text go (inr h) =
    inr (record { seen = h.seen; more = h.more; split = h.split; text_is = h.text_is; failed = go h.failed })

keeps_done : (due : Bool) (old new : Keep) (body : List ℕ) (end : Relayed) → Keeps due [] old → KeepsTo old new body end → end ≡ relayed.Done
    → Keeps due body new
keeps_done due old new body relayed.Done k h e = h.each due [] k
keeps_done due old new body relayed.StreamSpent k h e = absurd (cc e)
keeps_done due old new body relayed.WriteFault k h e = absurd (cc e)
keeps_done due old new body relayed.BackendCut k h e = absurd (cc e)

module _ (stay : BlocksStay) (ends : BlocksEnd) (r : Request) (tag : ReplyTag) (head : ReplyHead) (frame : Frame) (rest : List ℕ) (show : Show)
    (link : LinkState) (left : Option (List ℕ)) (k n : DialState) (w0 w1 : Option (List ℕ)) (keep0 keep : Keep) (link_rose rose : Type 0)
    (go : link_rose → Rose k.link_faults n.link_faults) (sent : NotesSent k.calls n.calls link.number link.written) where
  abbrev was : Output
  was = record { written = w0; keep = keep0 }

  abbrev is : Output
  is = record { written = w1; keep = keep }

  closed : (seen : List ℕ) → Seen link.left left rest seen → Closes (is_head r) head frame rest link k n (seen ++ rest_of left)
  closed seen t = closes stay ends (is_head r) head frame rest seen link left k n t sent

  pub streamed_whole : (end : Relayed) (kept : Kept) → Keeps (is_due show) [] keep0
      → ((body : List ℕ) → (end ≡ relayed.Done → Keeps (is_due show) body keep) → IsKeptOf r show end body kept)
      → HandedOn r tag head frame rest link.left left was is link_rose rose end
      → Streamed r tag head frame rest show link k n w0 w1 rose (record { end = end; kept = kept })
  streamed_whole end kept none keeps h = record {
    after = h.seen ++ rest_of left;
    closes = closed h.seen h.taken;
    text = h.text;
    streams = streams_later r tag head frame (h.seen ++ rest_of left) link_rose _ end h.text go h.streams;
    writes = h.writes;
    kept = keeps (body_in frame (h.seen ++ rest_of left)) (λ e. keeps_done (is_due show) keep0 keep _ end none h.kept e);
  }

  pub streamed_then : (end : Relayed) → HandedOn r tag head frame rest link.left left was is link_rose rose end
      → StreamedPart r tag head frame rest link k n w0 w1
  streamed_then end h = record {
    after = h.seen ++ rest_of left;
    closes = closed h.seen h.taken;
    text = h.text;
    end = end;
    streams = streams_later r tag head frame (h.seen ++ rest_of left) link_rose _ end h.text go h.streams;
    written = front_of w0 w1 h.text rose end h.writes;
  }

  pub streamed_part : HandedPart r tag head frame rest link.left left w0 w1 → StreamedPart r tag head frame rest link k n w0 w1
  streamed_part h = record {
    after = h.seen ++ rest_of left;
    closes = closed h.seen h.taken;
    text = h.text;
    end = relayed.WriteFault;
    streams = h.text_is;
    written = h.written;
  }
