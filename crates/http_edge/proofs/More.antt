-- What stands first in an input stands there as more bytes come.
use Rattle.std.proofs.Common.{suc, ◌&&◌, ◌||◌, ◌≡◌, ℕ, ◌<◌, ◌≤◌, ◌++◌, ◌==◌, List, [], ◌∷◌, length, take, drop}
use Rattle.std.proofs.Common.{Option, Some, None, Bool, true, false, cond, refl, sym, ap, ◌∙◌, subst, arith}
use Rattle.std.proofs.Common.{append_assoc, inl, inr}
use Rattle.std.proofs.lemmas.List.{take-append-le, length-append}
use Rattle.std.proofs.Math.Seq.{drop-append-le}
use Rattle.std.proofs.lemmas.Bool.Decides.{nat_tests}
use Rattle.std.proofs.KnownBytes.{Consumes-trans}
use Rattle.front_ports.specs.Cause.{Rose}
use Rattle.http_head.specs.Answer.{IsBlock, IsTooLarge}
use Rattle.http_head.specs.Block.{block_in, run_len, line_count, is_text}
use Rattle.http_head.specs.declared.block.TheConstants.{MOST_HEAD_BYTES, MOST_LINES}
use Rattle.http_head.specs.declared.request.Head.{Head}
use Rattle.http_head.specs.Request.{IsHeadOf, IsNoRequest}
use Rattle.body_frames.specs.declared.frame.BodyFault.{BodyFault}
use Rattle.body_frames.specs.declared.frame.BodyFault.TheVariants.{BadChunk, TooLarge}
use Rattle.body_frames.specs.declared.frame.Frame.{Frame}
use Rattle.body_frames.specs.declared.frame.Frame.TheVariants.{NoBody, Length, Chunked}
use Rattle.body_frames.specs.Body as body_spec
use Rattle.body_frames.specs.Body.{IsBody, IsPart, StartsWithBody, ends_itself}
use Rattle.wire_intake.specs.Seen.{Seen}
use Rattle.wire_intake.specs.Blocks.{HoldsBlock, NoBlock}
use Rattle.wire_intake.specs.Bodies.{GotBody, NoBodyCame, PartOfBody, RefusedBody, KeepsCountOfBody}
use Rattle.wire_intake.specs.declared.intake.ReadStop.TheVariants as read_stop
use Rattle.wire_intake.specs.declared.block.BlockStop.{BlockStop}
use Rattle.wire_intake.specs.declared.block.BlockStop.TheVariants as block_stop
use Rattle.wire_intake.specs.declared.body.BodyStop.{BodyStop}
use Rattle.wire_intake.specs.declared.body.BodyStop.TheVariants as body_stop
use Rattle.http_edge.specs.declared.TheConstants.{MOST_BODY_BYTES}
use Rattle.http_edge.specs.declared.request.Request.{Request}
use Rattle.http_edge.specs.declared.request.End.{End}
use Rattle.http_edge.specs.declared.request.End.TheVariants as end
use Rattle.http_edge.specs.declared.request.Stop.{Stop}
use Rattle.http_edge.specs.declared.request.Stop.TheVariants as stop_case
use Rattle.http_edge.specs.Requests.{frame_of, frame_by, StartsWithHead, StartsWith, StartsBroken, StartsUnframed}
use Rattle.http_edge.specs.Requests.{StartsWithNoHead, is_blank, IsBlank, IsRefused, end_of}
use Rattle.http_edge.specs.Calls.{GotHead, GotRequest, NoRequest, Awaits, KeepsCount, stop_of_block, stop_of_body}
use Rattle.http_head.specs.declared.body.Framing.{Framing}
use Rattle.http_head.specs.declared.body.Framing.TheVariants as framing_case
use Rattle.http_head.specs.Framing.{framing}

pub rose_earlier : (a b c : ℕ) → a ≤ b → Rose b c → Rose a c
rose_earlier a b c h r = omega arith

pub seen_join : (a b c : Option (List ℕ)) (x y z : List ℕ) → Seen a b x y → Seen b c y z → Seen a c x z
seen_join a b c x y z p q = record {
  taken = p.taken ++ q.taken;
  consumed = Consumes-trans a b c p.taken q.taken p.consumed q.consumed;
  all = q.all ∙ ap (λ l. l ++ q.taken) p.all ∙ append_assoc x p.taken q.taken;
}

-- what is known of the blocks of heads
pub record HeadLaws : Type 0 where
  pub bounded : (bytes : List ℕ) (len : ℕ) → block_in bytes ≡ Some len
      → (len ≤ length bytes) × (len ≤ MOST_HEAD_BYTES)
  pub found : (bytes more : List ℕ) (len : ℕ) → block_in bytes ≡ Some len → block_in (bytes ++ more) ≡ Some len
  pub none : (bytes more : List ℕ) → MOST_HEAD_BYTES ≤ length bytes → block_in bytes ≡ None
      → block_in (bytes ++ more) ≡ None
  pub blank : (bytes : List ℕ) → run_len bytes ≡ length bytes → block_in bytes ≡ None

-- what is known of bodies
pub record BodyLaws : Type 0 where
  pub whole : (f : Frame) (limit : ℕ) (bytes more body after : List ℕ) → StartsWithBody f limit bytes body after
      → StartsWithBody f limit (bytes ++ more) body (after ++ more)
  pub refused : (f : Frame) (limit : ℕ) (bytes more : List ℕ) (fault : BodyFault)
      → body_spec.IsRefused f limit bytes fault → body_spec.IsRefused f limit (bytes ++ more) fault

take_same : (bytes more : List ℕ) (len : ℕ) → len ≤ length bytes → take len (bytes ++ more) ≡ take len bytes
take_same bytes more len e = take-append-le len bytes more e

block-more : HeadLaws → (bytes more : List ℕ) (len : ℕ) → IsBlock bytes len → IsBlock (bytes ++ more) len
block-more laws bytes more len h = record {
  found = laws.found bytes more len h.found;
  few = subst (λ l. line_count l ≤ MOST_LINES) (sym (take_same bytes more len h.within)) h.few;
  within = omega (arith, h.within, length-append bytes more);
}

pub head-more : HeadLaws → (bytes more after : List ℕ) (head : Head) → StartsWithHead bytes head after
    → StartsWithHead (bytes ++ more) head (after ++ more)
head-more laws bytes more after head h = record {
  len = h.len;
  block = block-more laws bytes more h.len h.block;
  is = subst (λ l. IsHeadOf l head) (sym (take_same bytes more h.len h.block.within)) h.is;
  rest = ap (λ l. l ++ more) h.rest ∙ sym (drop-append-le h.len bytes more h.block.within);
}

no_head-more : HeadLaws → (bytes more : List ℕ) → StartsWithNoHead bytes → StartsWithNoHead (bytes ++ more)
no_head-more laws bytes more h = record {
  len = h.len;
  block = block-more laws bytes more h.len h.block;
  none = subst IsNoRequest (sym (take_same bytes more h.len h.block.within)) h.none;
}

too_large-more : HeadLaws → (bytes more : List ℕ) → IsTooLarge bytes → IsTooLarge (bytes ++ more)
too_large-more laws bytes more (inl h) = inl (laws.none bytes more h.1 h.0, longer MOST_HEAD_BYTES h.1)
  where
    longer : (k : ℕ) → k ≤ length bytes → k ≤ length (bytes ++ more)
    longer k e = omega (arith, length-append bytes more)
too_large-more laws bytes more (inr h) =
    inr (
      h.0,
      laws.found bytes more h.0 h.1,
      subst (λ l. MOST_LINES < line_count l)
          (sym (take_same bytes more h.0 (laws.bounded bytes h.0 h.1).0)) h.2,
    )

pub starts-more : HeadLaws → BodyLaws → (bytes more after : List ℕ) (request : Request)
    → StartsWith bytes request after → StartsWith (bytes ++ more) request (after ++ more)
starts-more laws bodies bytes more after request h = record {
  middle = h.middle ++ more;
  frame = h.frame;
  head_is = head-more laws bytes more h.middle request.head h.head_is;
  frame_is = h.frame_is;
  body_is = bodies.whole h.frame MOST_BODY_BYTES h.middle more request.body after h.body_is;
}

broken-more : HeadLaws → BodyLaws → (bytes more : List ℕ) (e : End) → StartsBroken bytes e
    → StartsBroken (bytes ++ more) e
broken-more laws bodies bytes more e h = record {
  head = h.head;
  middle = h.middle ++ more;
  frame = h.frame;
  fault = h.fault;
  head_is = head-more laws bytes more h.middle h.head h.head_is;
  frame_is = h.frame_is;
  body_is = bodies.refused h.frame MOST_BODY_BYTES h.middle more h.fault h.body_is;
  end_is = h.end_is;
}

unframed-more : HeadLaws → (bytes more : List ℕ) → StartsUnframed bytes → StartsUnframed (bytes ++ more)
unframed-more laws bytes more h = record {
  head = h.head;
  middle = h.middle ++ more;
  head_is = head-more laws bytes more h.middle h.head h.head_is;
  frame_is = h.frame_is;
}

-- a refusal stands as more bytes come
pub refused-more : HeadLaws → BodyLaws → (bytes more : List ℕ) (e : End) → IsRefused bytes e
    → IsRefused (bytes ++ more) e
refused-more laws bodies bytes more end.BadHead h = no_head-more laws bytes more h
refused-more laws bodies bytes more end.HeadTooLarge h = too_large-more laws bytes more h
refused-more laws bodies bytes more end.BadFraming (inl h) = inl (unframed-more laws bytes more h)
refused-more laws bodies bytes more end.BadFraming (inr h) = inr (broken-more laws bodies bytes more end.BadFraming h)
refused-more laws bodies bytes more end.BodyTooLarge h = broken-more laws bodies bytes more end.BodyTooLarge h
refused-more laws bodies bytes more end.Ended h = absurd h
refused-more laws bodies bytes more end.Asked h = absurd h
refused-more laws bodies bytes more end.CutShort h = absurd h

-- ---- one request, in two parts

blank_run : (bytes : List ℕ) → is_blank bytes ≡ true → run_len bytes ≡ length bytes
blank_run [] e = refl
blank_run (b ∷ bytes) e = by_byte (b == 13 || b == 10) refl e (λ d. blank_run bytes d)
  where
    by_byte : (t : Bool) → (b == 13 || b == 10) ≡ t → t && is_blank bytes ≡ true
        → (is_blank bytes ≡ true → run_len bytes ≡ length bytes) → run_len (b ∷ bytes) ≡ suc (length bytes)
    by_byte false f e next = absurd (cc e)
    by_byte true f e next =
        let text : is_text b ≡ false = grind (arith, nat_tests, f) in
        let rest = next e in
        rw text (omega (arith, rest))

not_blank : HeadLaws → (bytes after : List ℕ) (head : Head) → StartsWithHead bytes head after → IsBlank bytes → ⊥
not_blank laws bytes after head h blank =
    clash (block_in bytes) h.block.found (laws.blank bytes (blank_run bytes blank))
  where
    clash : (o : Option ℕ) {n : ℕ} → o ≡ Some n → o ≡ None → ⊥
    clash o e f = absurd (cc (e, f))

-- a head's frame ends by itself
pub framed_itself : (head : Head) (f : Frame) → frame_of head ≡ Some f → ends_itself f ≡ true
framed_itself head f e = by_framing (framing head.headers head.minor) e
  where
    one : (a b : Frame) → Some a ≡ Some b → a ≡ b
    one a b k = cc k

    by_framing : (g : Framing) → frame_by g ≡ Some f → ends_itself f ≡ true
    by_framing framing_case.NoBody k = ap ends_itself (sym (one NoBody f k))
    by_framing (framing_case.Length size) k = ap ends_itself (sym (one (Length size) f k))
    by_framing framing_case.Chunked k = ap ends_itself (sym (one Chunked f k))
    by_framing framing_case.Bad k = absurd (cc k)

-- a head that was read, from the block that was held
pub got_head : (a b : Option (List ℕ)) (x y z slice : List ℕ) (len : ℕ) (head : Head) → HoldsBlock a b x y len
    → slice ≡ take len y → IsHeadOf slice head → z ≡ drop len y → GotHead a b x z head
got_head a b x y z slice len head h e is rest = record {
  bytes = y;
  seen = h.seen;
  starts = record { len = len; block = h.block; is = subst (λ l. IsHeadOf l head) e is; rest = rest };
}

pub no_head : (a b : Option (List ℕ)) (x y slice : List ℕ) (len : ℕ) (rose : Type 0) → HoldsBlock a b x y len
    → slice ≡ take len y → IsNoRequest slice → NoRequest a b x rose (stop_case.Refused end.BadHead)
no_head a b x y slice len rose h e none = record {
  bytes = y;
  seen = h.seen;
  stop = record { len = len; block = h.block; none = subst IsNoRequest e none };
  at_end = tt;
}

block_stops : (a c : Option (List ℕ)) (x z : List ℕ) (rose : Type 0) (stop : BlockStop) → NoBlock a c x z rose stop
    → NoRequest a c x rose (stop_of_block z stop)
block_stops a c x z rose block_stop.TooLarge h = record { bytes = z; seen = h.0; stop = h.1; at_end = tt }
block_stops a c x z rose (block_stop.Input read_stop.AtEnd) h = by_blank (is_blank z) refl
  where
    by_blank : (t : Bool) → is_blank z ≡ t
        → NoRequest a c x rose (cond t (stop_case.Refused end.Ended) (stop_case.Refused end.CutShort))
    by_blank true e = record { bytes = z; seen = h.0; stop = (inl h.1, e); at_end = h.2 }
    by_blank false e = record { bytes = z; seen = h.0; stop = (inl h.1, λ k. absurd (cc (e, k))); at_end = h.2 }
block_stops a c x z rose (block_stop.Input read_stop.ReadFault) h =
    (record { bytes = z; seen = h.0; awaits = inl h.1 }, h.2)
block_stops a c x z rose (block_stop.Input read_stop.NoMemory) h = tt

pub block_stops_as : (a c : Option (List ℕ)) (x z l : List ℕ) (rose : Type 0) (stop : BlockStop) (t : Stop)
    → t ≡ stop_of_block l stop → l ≡ z → NoBlock a c x z rose stop → NoRequest a c x rose t
block_stops_as a c x z l rose stop t e f h =
    subst (λ u. NoRequest a c x rose u) (sym (e ∙ ap (λ k. stop_of_block k stop) f)) (block_stops a c x z rose stop h)

-- the count of faults in both calls
pub keeps_both : (before middle after : ℕ) (k : BodyStop) (t : Stop) → t ≡ stop_of_body k → middle ≡ before
    → KeepsCountOfBody middle after k → KeepsCount before after t
keeps_both before middle after k t e f h = subst (λ u. KeepsCount before after u) (sym e) (by_stop k (λ g. g ∙ f) h)
  where
    by_stop : (k : BodyStop) → (after ≡ middle → after ≡ before) → KeepsCountOfBody middle after k
        → KeepsCount before after (stop_of_body k)
    by_stop (body_stop.Fault fault) g h = g h
    by_stop (body_stop.Input read_stop.AtEnd) g h = g h
    by_stop (body_stop.Input read_stop.ReadFault) g h = tt
    by_stop (body_stop.Input read_stop.NoMemory) g h = g h

pub got_request : HeadLaws → (a b c : Option (List ℕ)) (x y z : List ℕ) (request : Request) (frame : Frame)
    → GotHead a b x y request.head → frame_of request.head ≡ Some frame → (body : List ℕ) → request.body ≡ body
    → GotBody b c y z frame MOST_BODY_BYTES body → GotRequest a c x z request
got_request laws a b c x y z request frame h f body e g =
    let bytes = h.bytes ++ g.seen.taken in
    let whole : StartsWithBody frame MOST_BODY_BYTES g.bytes body z =
    record { text = g.text; itself = framed_itself request.head frame f; split = g.split; is = g.is } in
    record {
      bytes = bytes;
      seen =
          seen_join a b c x h.bytes bytes h.seen
          (record { taken = g.seen.taken; consumed = g.seen.consumed; all = refl });
      starts = record {
        middle = y ++ g.seen.taken;
        frame = frame;
        head_is = head-more laws h.bytes g.seen.taken y request.head h.starts;
        frame_is = f;
        body_is =
            subst (λ k. StartsWithBody frame MOST_BODY_BYTES (y ++ g.seen.taken) k z) (sym e)
            (subst (λ l. StartsWithBody frame MOST_BODY_BYTES l body z) g.seen.all whole);
      };
    }

module _ (laws : HeadLaws) (a b c : Option (List ℕ)) (x y : List ℕ) (head : Head) (h : GotHead a b x y head) where
  pub unframed_stops : frame_of head ≡ None → NoRequest a b x (Unit {0}) (stop_case.Refused end.BadFraming)
  unframed_stops f = record {
    bytes = h.bytes;
    seen = h.seen;
    stop = inl (record { head = head; middle = y; head_is = h.starts; frame_is = f });
    at_end = tt;
  }

  -- what was seen in both calls
  seen_both : (l : List ℕ) → (s : Seen b c y l) → Seen a c x (h.bytes ++ s.taken)
  seen_both l s =
      seen_join a b c x h.bytes (h.bytes ++ s.taken) h.seen
      (record { taken = s.taken; consumed = s.consumed; all = refl })

  module _ (frame : Frame) (f : frame_of head ≡ Some frame) where
    open_request : PartOfBody b c y frame MOST_BODY_BYTES → Awaits a c x
    open_request o = record {
      bytes = h.bytes ++ o.seen.taken;
      seen = seen_both o.bytes o.seen;
      awaits = inr (record {
        head = head;
        middle = y ++ o.seen.taken;
        frame = frame;
        head_is = head-more laws h.bytes o.seen.taken y head h.starts;
        frame_is = f;
        part = subst (λ l. IsPart frame MOST_BODY_BYTES l) o.seen.all o.part;
      });
    }

    broken_request : (fault : BodyFault) → RefusedBody b c y frame MOST_BODY_BYTES fault
        → (l : List ℕ) × Seen a c x l × StartsBroken l (end_of fault)
    broken_request fault k = (
      h.bytes ++ k.seen.taken,
      seen_both k.bytes k.seen,
      record {
        head = head;
        middle = y ++ k.seen.taken;
        frame = frame;
        fault = fault;
        head_is = head-more laws h.bytes k.seen.taken y head h.starts;
        frame_is = f;
        body_is = subst (λ l. body_spec.IsRefused frame MOST_BODY_BYTES l fault) k.seen.all k.refused;
        end_is = refl;
      },
    )

    body_stops : (rose0 rose : Type 0) (k : BodyStop) → (rose0 → rose)
        → NoBodyCame b c y frame MOST_BODY_BYTES rose0 k → NoRequest a c x rose (stop_of_body k)
    unfolding open_request
    body_stops rose0 rose (body_stop.Fault (BadChunk at)) g k =
        let r = broken_request (BadChunk at) k in
        record { bytes = r.0; seen = r.1; stop = inr r.2; at_end = tt }
    body_stops rose0 rose (body_stop.Fault TooLarge) g k =
        let r = broken_request TooLarge k in
        record { bytes = r.0; seen = r.1; stop = r.2; at_end = tt }
    body_stops rose0 rose (body_stop.Input read_stop.AtEnd) g k =
        let r = open_request k.0 in
        record {
          bytes = r.bytes;
          seen = r.seen;
          stop = (
            r.awaits,
            not_blank laws (h.bytes ++ k.0.seen.taken) (y ++ k.0.seen.taken) head
                (head-more laws h.bytes k.0.seen.taken y head h.starts),
          );
          at_end = k.1;
        }
    body_stops rose0 rose (body_stop.Input read_stop.ReadFault) g k = (open_request k.0, g k.1)
    body_stops rose0 rose (body_stop.Input read_stop.NoMemory) g k = tt

    pub body_stops_as : (rose0 rose : Type 0) (k : BodyStop) (t : Stop) → t ≡ stop_of_body k → (rose0 → rose)
        → NoBodyCame b c y frame MOST_BODY_BYTES rose0 k → NoRequest a c x rose t
    body_stops_as rose0 rose k t e g n = subst (λ u. NoRequest a c x rose u) (sym e) (body_stops rose0 rose k g n)
