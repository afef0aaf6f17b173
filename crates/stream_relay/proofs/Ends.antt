-- Why a relay ends, by what came of the body so far.
use Rattle.std.proofs.Common.{◌≡◌, ℕ, ◌⊎◌, ◌++◌, List, [], Bool, true, false, Some, None, length, take, drop, refl, sym, ap, ◌∙◌, subst, arith, append_assoc, append-nil, inl, inr}
use Rattle.std.specs.Prelude.{Option, if◌then◌else◌}
use Rattle.std.proofs.lemmas.List.{take-append-drop, drop_all}
use Rattle.std.proofs.KnownBytes.{Consumes-nil, Consumes-trans, Consumes-kept}
use Rattle.std.specs.Io.KnownBytes.{Consumes, IsAtEnd, Keeps}
use Rattle.body_frames.specs.Body.{whole, refused, part, ends_itself}
use Rattle.body_frames.specs.Decoded.{Decoded}
use Rattle.body_frames.specs.Machine.{emitted}
use Rattle.body_frames.specs.Progress.{is_open, is_done, ends_here, fault_of}
use Rattle.body_frames.specs.declared.frame.BodyFault.{BodyFault}
use Rattle.body_frames.specs.declared.frame.BodyFault.TheVariants.{BadChunk, TooLarge}
use Rattle.body_frames.specs.declared.frame.Frame.{Frame}
use Rattle.body_frames.specs.declared.place.Place.{Place}
use Rattle.forward_link.specs.Reading.{rest_of}
use Rattle.wire_intake.specs.Seen.{Seen}
use Rattle.stream_relay.specs.Hand.{HandsOn, Breaks, Cuts, NotHanded, StopsAs, Finishes, NotRead, ReadsOn, SoFar, Going, BodyLaws}
use Rattle.stream_relay.specs.Relay.{Output, Wrote, Ended, Lost, Stopped, Relays}
use Rattle.stream_relay.specs.Stream.{Says, body_in, end_of, last_of}
use Rattle.stream_relay.specs.declared.hand.HandStop.{HandStop}
use Rattle.stream_relay.specs.declared.hand.HandStop.TheVariants as hand_stop
use Rattle.stream_relay.specs.declared.hand.ReadStop.{ReadStop}
use Rattle.stream_relay.specs.declared.hand.ReadStop.TheVariants as read_stop
use Rattle.stream_relay.specs.declared.hand.WriteStop.TheVariants as write_stop
use Rattle.stream_relay.specs.declared.keep.Keep.{Keep}
use Rattle.stream_relay.specs.declared.stream.Relayed.{Relayed}
use Rattle.stream_relay.specs.declared.stream.Relayed.TheVariants as relayed
use Rattle.stream_relay.specs.declared.stream.TheConstants.{MOST_STREAMED_BYTES}
use Rattle.stream_relay.proofs.Bytes.{wrote_none, wrote_join, wrote_then, decoded_then, decoded_end, done_closed, broken_closed}

-- ---- how far it came

pub far_start : (f : Frame) (limit : ℕ) (c : Bool) (rest : List ℕ) (left : Option (List ℕ)) (p : Place) (o : Output)
    → Decoded f limit [] [] p → SoFar f limit c rest left left rest p o o
far_start f limit c rest left p o d = record {
  seen = rest;
  taken = record { taken = []; consumed = Consumes-nil left; all = sym (append-nil rest) };
  text = [];
  split = refl;
  body = [];
  decoded = d;
  wrote = wrote_none c o;
}

seen_more : (a b d : Option (List ℕ)) (rest x piece : List ℕ) → Seen a b rest x → Consumes b d piece → Seen a d rest (x ++ piece)
seen_more a b d rest x piece s k = record {
  taken = s.taken ++ piece;
  consumed = Consumes-trans a b d s.taken piece s.consumed k;
  all = ap (λ l. l ++ piece) s.all ∙ append_assoc rest s.taken piece;
}

pub far_read : (f : Frame) (limit : ℕ) (c : Bool) (rest : List ℕ) (a b d : Option (List ℕ)) (piece after : List ℕ) (p : Place) (o q : Output)
    → SoFar f limit c rest a b after p o q → after ≡ [] → Consumes b d piece → SoFar f limit c rest a d piece p o q
far_read f limit c rest a b d piece after p o q s e k = record {
  seen = s.seen ++ piece;
  taken = seen_more a b d rest s.seen piece s.taken k;
  text = s.text;
  split = ap (λ l. l ++ piece) (s.split ∙ ap (λ l. s.text ++ l) e ∙ append-nil s.text);
  body = s.body;
  decoded = s.decoded;
  wrote = s.wrote;
}

pub far_fed : (f : Frame) (limit : ℕ) (c : Bool) (rest : List ℕ) (a b : Option (List ℕ)) (bytes : List ℕ) (n : ℕ) (p r : Place)
    (o q u : Output) → SoFar f limit c rest a b bytes p o q → HandsOn c p r (take n bytes) q u
    → SoFar f limit c rest a b (drop n bytes) r o u
far_fed f limit c rest a b bytes n p r o q u s h = record {
  seen = s.seen;
  taken = s.taken;
  text = s.text ++ take n bytes;
  split =
      s.split ∙ ap (λ l. s.text ++ l) (sym (take-append-drop n bytes))
      ∙ sym (append_assoc s.text (take n bytes) (drop n bytes));
  body = s.body ++ h.gave;
  decoded = h.moves.each f limit s.text s.body s.decoded;
  wrote = wrote_join c o q u s.body h.gave [] s.wrote h.wrote;
}

-- nothing is ahead, but where the body is whole
pub going_on : (f : Frame) (limit : ℕ) (c : Bool) (rest : List ℕ) (a b : Option (List ℕ)) (bytes : List ℕ) (n : ℕ) (p r : Place)
    (o q u : Output) → SoFar f limit c rest a b bytes p o q → HandsOn c p r (take n bytes) q u
    → (n ≡ length bytes) ⊎ (is_done r ≡ true) → Going f limit c rest a b r o u
going_on f limit c rest a b bytes n p r o q u s h used = record {
  after = drop n bytes;
  so_far = far_fed f limit c rest a b bytes n p r o q u s h;
  used = unused used;
}
  where
    unused : (n ≡ length bytes) ⊎ (is_done r ≡ true) → (drop n bytes ≡ []) ⊎ (is_done r ≡ true)
    unused (inl e) = inl (ap (λ k. drop k bytes) e ∙ drop_all (length bytes) bytes (omega arith))
    unused (inr e) = inr e

pub all_used : (after : List ℕ) (p : Place) → (after ≡ []) ⊎ (is_done p ≡ true) → is_done p ≡ false → after ≡ []
all_used after p (inl e) f = e
all_used after p (inr e) f = absurd (cc (e, f))

pub awaits_not_done : (p : Place) → (is_done p ≡ true) ⊎ (is_open p ≡ true) → is_done p ≡ false → is_open p ≡ true
awaits_not_done p (inl e) f = absurd (cc (e, f))
awaits_not_done p (inr e) f = e

-- ---- all bytes, as the text that was decoded and what is ahead

all_bytes : (seen text ahead rest : List ℕ) → seen ≡ text ++ ahead → text ++ (ahead ++ rest) ≡ seen ++ rest
all_bytes seen text ahead rest e = sym (append_assoc text ahead rest) ∙ ap (λ l. l ++ rest) (sym e)

at_end : (left : Option (List ℕ)) → IsAtEnd left → rest_of left ≡ []
at_end None h = refl
at_end (Some bytes) h = h

wrote_body : (c : Bool) (a b : Output) (x y t : List ℕ) → x ≡ y → Wrote c a b x t → Wrote c a b y t
wrote_body c a b x y t e w = subst (λ l. Wrote c a b l t) e w

-- ---- a body that is whole

says_whole : BodyLaws → (f : Frame) (text more body : List ℕ) (p : Place) → Decoded f MOST_STREAMED_BYTES text body p
    → is_done p ≡ true → Says f (text ++ more) relayed.Done
says_whole laws f text more body p d e =
    let k = laws.done f MOST_STREAMED_BYTES text body p d e in
    record {
      first = whole body more;
      stands = record { text = text; itself = k.1; split = refl; is = k.0 };
      end_is = refl;
    }

whole_body : (f : Frame) (text more body : List ℕ) (p : Place) → Decoded f MOST_STREAMED_BYTES text body p
    → is_done p ≡ true → body ≡ body_in f (text ++ more)
whole_body f text more body p d e = sym (decoded_end f MOST_STREAMED_BYTES text more body p d (done_closed p e))

-- what was decoded and written, and what all bytes say
pub record Reached (f : Frame) (c : Bool) (rest : List ℕ) (a b : Option (List ℕ)) (o q : Output) (end : Relayed) : Type 0 where
  pub seen : List ℕ
  pub taken : Seen a b rest seen
  pub says : Says f (seen ++ rest_of b) end
  pub wrote : Wrote c o q (body_in f (seen ++ rest_of b)) []

pub reached_whole : BodyLaws → (f : Frame) (c : Bool) (rest : List ℕ) (a b : Option (List ℕ)) (ahead : List ℕ) (p : Place) (o q : Output)
    → SoFar f MOST_STREAMED_BYTES c rest a b ahead p o q → is_done p ≡ true → Reached f c rest a b o q relayed.Done
reached_whole laws f c rest a b ahead p o q s e =
    let more = ahead ++ rest_of b in
    let all = all_bytes s.seen s.text ahead (rest_of b) s.split in
    record {
      seen = s.seen;
      taken = s.taken;
      says = subst (λ l. Says f l relayed.Done) all (says_whole laws f s.text more s.body p s.decoded e);
      wrote =
          wrote_body c o q s.body (body_in f (s.seen ++ rest_of b)) []
          (whole_body f s.text more s.body p s.decoded e ∙ ap (body_in f) all) s.wrote;
    }

-- ---- a body whose bytes end

-- whether it is whole there
not_itself : BodyLaws → (f : Frame) (limit : ℕ) (text body : List ℕ) (p : Place) (t : Bool) → ends_itself f ≡ t
    → Decoded f limit text body p → is_done p ≡ false → ends_here p ≡ true → t ≡ false
not_itself laws f limit text body p true e d n h =
    absurd (cc (laws.itself f limit text body body p (laws.ends f limit text body p d h) e d, n))
not_itself laws f limit text body p false e d n h = refl

itself_cut : BodyLaws → (f : Frame) (limit : ℕ) (text body : List ℕ) (p : Place) → Decoded f limit text body p
    → is_open p ≡ true → ends_here p ≡ false → ends_itself f ≡ true
itself_cut laws Frame.NoBody limit text body p d o e = refl
itself_cut laws (Frame.Length n) limit text body p d o e = refl
itself_cut laws Frame.Chunked limit text body p d o e = refl
itself_cut laws Frame.Close limit text body p d o e =
    absurd (cc ((laws.whole Frame.Close limit text text body p (refl, laws.awaits Frame.Close limit text body p d o) d).0, e))

says_part : BodyLaws → (f : Frame) (text body : List ℕ) (p : Place) (end : Relayed) → Decoded f MOST_STREAMED_BYTES text body p
    → is_open p ≡ true → end ≡ end_of f part → Says f text end
says_part laws f text body p end d o e = record { first = part; stands = laws.awaits f MOST_STREAMED_BYTES text body p d o; end_is = e }

end_at : (f : Frame) (t : Bool) → ends_itself f ≡ t → (if t then relayed.BackendCut else relayed.Done) ≡ end_of f part
end_at f t e = ap (λ (u : Bool). if u then relayed.BackendCut else relayed.Done) (sym e)

reached_end : BodyLaws → (f : Frame) (c : Bool) (rest : List ℕ) (a b d : Option (List ℕ)) (after : List ℕ) (p : Place) (o q : Output)
    (end : Relayed) → SoFar f MOST_STREAMED_BYTES c rest a b after p o q → after ≡ [] → is_open p ≡ true
    → end ≡ end_of f part → Consumes b d [] → IsAtEnd d → Reached f c rest a d o q end
reached_end laws f c rest a b d after p o q end s e open_now k n z =
    let r = far_read f MOST_STREAMED_BYTES c rest a b d [] after p o q s e n in
    let all : r.text ≡ r.seen ++ rest_of d =
    sym (append-nil r.text) ∙ sym r.split ∙ sym (append-nil r.seen) ∙ ap (λ l. r.seen ++ l) (sym (at_end d z)) in
    record {
      seen = r.seen;
      taken = r.taken;
      says = subst (λ l. Says f l end) all (says_part laws f r.text r.body p end r.decoded open_now k);
      wrote = wrote_body c o q r.body (body_in f (r.seen ++ rest_of d)) [] (r.decoded.gave ∙ ap (body_in f) all) r.wrote;
    }

pub reached_close : BodyLaws → (f : Frame) (c : Bool) (rest : List ℕ) (a b d : Option (List ℕ)) (after : List ℕ) (p : Place) (o q : Output)
    → SoFar f MOST_STREAMED_BYTES c rest a b after p o q → after ≡ [] → is_done p ≡ false → is_open p ≡ true → ends_here p ≡ true
    → Consumes b d [] → IsAtEnd d → Reached f c rest a d o q relayed.Done
reached_close laws f c rest a b d after p o q s e n open_now h k z =
    let t = not_itself laws f MOST_STREAMED_BYTES s.text s.body p (ends_itself f) refl s.decoded n h in
    reached_end laws f c rest a b d after p o q relayed.Done s e open_now (end_at f false t) k z

pub cut_end : BodyLaws → (f : Frame) (c : Bool) (rest : List ℕ) (a b d : Option (List ℕ)) (after : List ℕ) (p : Place) (o q : Output)
    → SoFar f MOST_STREAMED_BYTES c rest a b after p o q → after ≡ [] → is_open p ≡ true → ends_here p ≡ false
    → Consumes b d [] → IsAtEnd d → Ended f c rest a d o q relayed.BackendCut
cut_end laws f c rest a b d after p o q s e open_now h k z =
    let t = itself_cut laws f MOST_STREAMED_BYTES s.text s.body p s.decoded open_now h in
    let r = reached_end laws f c rest a b d after p o q relayed.BackendCut s e open_now (end_at f true t) k z in
    record { seen = r.seen; taken = r.taken; says = r.says; wrote = r.wrote }

pub lost : (f : Frame) (c : Bool) (rest : List ℕ) (a b d : Option (List ℕ)) (after : List ℕ) (p : Place) (o q : Output)
    → SoFar f MOST_STREAMED_BYTES c rest a b after p o q → after ≡ [] → Keeps b d → Lost f c rest a d o q
lost f c rest a b d after p o q s e k = record {
  seen = s.seen;
  taken = record { taken = s.taken.taken; consumed = Consumes-kept a b d s.taken.taken s.taken.consumed k; all = s.taken.all };
  wrote =
      wrote_body c o q s.body (body_in f s.seen) []
      (s.decoded.gave ∙ ap (body_in f) (sym (s.split ∙ ap (λ l. s.text ++ l) e ∙ append-nil s.text))) s.wrote;
}

-- ---- a body that breaks

end_of_fault : BodyFault → Relayed
end_of_fault TooLarge = relayed.StreamSpent
end_of_fault (BadChunk at) = relayed.BackendCut

says_broken : BodyLaws → (f : Frame) (text more body : List ℕ) (p : Place) (fault : BodyFault) (end : Relayed)
    → Decoded f MOST_STREAMED_BYTES text body p → fault_of p ≡ Some fault → end ≡ end_of f (refused fault) → Says f (text ++ more) end
says_broken laws f text more body p fault end d e k = record {
  first = refused fault;
  stands = laws.stays f MOST_STREAMED_BYTES text more fault (laws.only f MOST_STREAMED_BYTES text body p fault d e);
  end_is = k;
}

-- the text that broke and what is ahead of it
broken_so_far : (f : Frame) (c : Bool) (rest : List ℕ) (a b : Option (List ℕ)) (bytes : List ℕ) (p : Place) (o q u : Output)
    (fault : BodyFault) → SoFar f MOST_STREAMED_BYTES c rest a b bytes p o q → (k : Breaks c p bytes q u fault)
    → SoFar f MOST_STREAMED_BYTES c rest a b k.after k.new o u
broken_so_far f c rest a b bytes p o q u fault s k = record {
  seen = s.seen;
  taken = s.taken;
  text = s.text ++ k.text;
  split = s.split ∙ ap (λ l. s.text ++ l) k.split ∙ sym (append_assoc s.text k.text k.after);
  body = s.body ++ k.hands.gave;
  decoded = k.hands.moves.each f MOST_STREAMED_BYTES s.text s.body s.decoded;
  wrote = wrote_join c o q u s.body k.hands.gave [] s.wrote k.hands.wrote;
}

reached_broken : BodyLaws → (f : Frame) (c : Bool) (rest : List ℕ) (a b : Option (List ℕ)) (ahead : List ℕ) (p : Place) (o q : Output)
    (fault : BodyFault) (end : Relayed) → SoFar f MOST_STREAMED_BYTES c rest a b ahead p o q → fault_of p ≡ Some fault
    → end ≡ end_of f (refused fault) → Reached f c rest a b o q end
reached_broken laws f c rest a b ahead p o q fault end s e k =
    let more = ahead ++ rest_of b in
    let all = all_bytes s.seen s.text ahead (rest_of b) s.split in
    record {
      seen = s.seen;
      taken = s.taken;
      says = subst (λ l. Says f l end) all (says_broken laws f s.text more s.body p fault end s.decoded e k);
      wrote =
          wrote_body c o q s.body (body_in f (s.seen ++ rest_of b)) []
          (sym (decoded_end f MOST_STREAMED_BYTES s.text more s.body p s.decoded (broken_closed p fault e)) ∙ ap (body_in f) all) s.wrote;
    }

-- ---- a write that failed

cut_within : (f : Frame) (c : Bool) (rest : List ℕ) (a b : Option (List ℕ)) (bytes : List ℕ) (p : Place) (o q u : Output)
    → SoFar f MOST_STREAMED_BYTES c rest a b bytes p o q → Cuts c p bytes q u → Stopped f c rest a b o u
cut_within f c rest a b bytes p o q u s k =
    let ahead = k.after ++ rest_of b in
    let text = s.text ++ k.text in
    let body = s.body ++ (k.gave ++ k.piece) in
    let split : s.seen ≡ text ++ k.after =
    s.split ∙ ap (λ l. s.text ++ l) k.split ∙ sym (append_assoc s.text k.text k.after) in
    let decoded = k.moves.each f MOST_STREAMED_BYTES s.text s.body s.decoded in
    let unread = emitted k.new ahead in
    record {
      seen = s.seen;
      taken = s.taken;
      done = s.body ++ k.gave;
      more = k.piece ++ unread;
      split =
          ap (body_in f) (sym (all_bytes s.seen text k.after (rest_of b) split))
          ∙ decoded_then f MOST_STREAMED_BYTES text ahead body k.new decoded
          ∙ ap (λ l. l ++ unread) (sym (append_assoc s.body k.gave k.piece)) ∙ append_assoc (s.body ++ k.gave) k.piece unread;
      text = _;
      front =
          inr (inl (record { piece = k.piece; after = unread; count = k.count; split = refl; is_piece = k.is_piece; text_is = refl }));
      wrote = wrote_join c o q u s.body k.gave _ s.wrote k.wrote;
    }

pub no_room : (f : Frame) (c : Bool) (rest : List ℕ) (a b : Option (List ℕ)) (ahead : List ℕ) (p : Place) (o q : Output)
    → SoFar f MOST_STREAMED_BYTES c rest a b ahead p o q → Stopped f c rest a b o q
no_room f c rest a b ahead p o q s = record {
  seen = s.seen;
  taken = s.taken;
  done = s.body;
  more = emitted p (ahead ++ rest_of b);
  split =
      ap (body_in f) (sym (all_bytes s.seen s.text ahead (rest_of b) s.split))
      ∙ decoded_then f MOST_STREAMED_BYTES s.text (ahead ++ rest_of b) s.body p s.decoded;
  text = [];
  front = inl refl;
  wrote = s.wrote;
}

-- ---- the answers

-- what is written after a whole body
pub finished : (f : Frame) (c : Bool) (rest : List ℕ) (a b : Option (List ℕ)) (o : Output) (w1 w2 : Option (List ℕ)) (k : Keep)
    (link_rose rose0 rose : Type 0) (end : Relayed) → (rose0 → rose)
    → Reached f c rest a b o (record { written = w1; keep = k }) relayed.Done
    → Finishes c w1 w2 rose0 end
    → Relays f c rest a b o (record { written = w2; keep = k }) link_rose rose end
finished f c rest a b o w1 w2 k link_rose rose0 rose relayed.Done g r h = record {
  seen = r.seen;
  taken = r.taken;
  says = r.says;
  wrote = wrote_then c o w1 w2 k (body_in f (r.seen ++ rest_of b)) (last_of c) r.wrote h;
}
finished f c rest a b o w1 w2 k link_rose rose0 rose relayed.WriteFault g r (n, short, h, q) = (
  record {
    seen = r.seen;
    taken = r.taken;
    done = body_in f (r.seen ++ rest_of b);
    more = [];
    split = sym (append-nil (body_in f (r.seen ++ rest_of b)));
    text = take n (last_of c);
    front = inr (inr (record { none = refl; says = r.says; count = n; short = short; text_is = refl }));
    wrote =
        wrote_then c o w1 w2 k (body_in f (r.seen ++ rest_of b)) (take n (last_of c))
        r.wrote h;
  },
  g q,
)
finished f c rest a b o w1 w2 k link_rose rose0 rose relayed.BackendCut g r h = absurd h
finished f c rest a b o w1 w2 k link_rose rose0 rose relayed.StreamSpent g r h = absurd h

pub not_handed : BodyLaws → (f : Frame) (c : Bool) (rest : List ℕ) (a b : Option (List ℕ)) (bytes : List ℕ) (p : Place)
    (o q u : Output) (link_rose rose0 rose : Type 0) (stop : HandStop) (end : Relayed) → (rose0 → rose)
    → SoFar f MOST_STREAMED_BYTES c rest a b bytes p o q
    → NotHanded c p bytes q u rose0 stop → StopsAs stop end
    → Relays f c rest a b o u link_rose rose end
not_handed laws f c rest a b bytes p o q u link_rose rose0 rose (hand_stop.Body TooLarge) end g s k e =
    let t = broken_so_far f c rest a b bytes p o q u TooLarge s k in
    let r = reached_broken laws f c rest a b k.after k.new o u TooLarge relayed.StreamSpent t k.broken refl in
    subst (λ x. Relays f c rest a b o u link_rose rose x) (sym e)
    (record { seen = r.seen; taken = r.taken; says = r.says; wrote = r.wrote })
not_handed laws f c rest a b bytes p o q u link_rose rose0 rose (hand_stop.Body (BadChunk at)) end g s k e =
    let t = broken_so_far f c rest a b bytes p o q u (BadChunk at) s k in
    let r = reached_broken laws f c rest a b k.after k.new o u (BadChunk at) relayed.BackendCut t k.broken refl in
    subst (λ x. Relays f c rest a b o u link_rose rose x) (sym e)
    (inl (record { seen = r.seen; taken = r.taken; says = r.says; wrote = r.wrote }))
not_handed laws f c rest a b bytes p o q u link_rose rose0 rose (hand_stop.Write write_stop.WriteFault) end g s (k, w) e =
    subst (λ x. Relays f c rest a b o u link_rose rose x) (sym e)
    (cut_within f c rest a b bytes p o q u s k, g w)
not_handed laws f c rest a b bytes p o q u link_rose rose0 rose (hand_stop.Write write_stop.NoMemory) end g s k e = absurd e

-- out of memory
pub not_handed_memory : (f : Frame) (c : Bool) (rest : List ℕ) (a b : Option (List ℕ)) (bytes : List ℕ) (p : Place) (o q u : Output)
    (rose : Type 0) (stop : HandStop) → stop ≡ hand_stop.Write write_stop.NoMemory
    → SoFar f MOST_STREAMED_BYTES c rest a b bytes p o q → NotHanded c p bytes q u rose stop → Stopped f c rest a b o u
not_handed_memory f c rest a b bytes p o q u rose stop e s k =
    cut_within f c rest a b bytes p o q u s (subst (λ x. NotHanded c p bytes q u rose x) e k).0

-- ---- the answers, where chunks are written by what the client gets

pub answers_finish : (f : Frame) (c x : Bool) (rest : List ℕ) (a b : Option (List ℕ)) (o : Output) (w1 w2 : Option (List ℕ)) (k : Keep)
    (link_rose rose0 rose : Type 0) (end : Relayed) → c ≡ x → (rose0 → rose)
    → Reached f c rest a b o (record { written = w1; keep = k }) relayed.Done → Finishes c w1 w2 rose0 end
    → Relays f x rest a b o (record { written = w2; keep = k }) link_rose rose end
answers_finish f c x rest a b o w1 w2 k link_rose rose0 rose end e g r h =
    subst (λ y. Relays f y rest a b o (record { written = w2; keep = k }) link_rose rose end) e
    (finished f c rest a b o w1 w2 k link_rose rose0 rose end g r h)

pub answers_stop : BodyLaws → (f : Frame) (c x : Bool) (rest : List ℕ) (a b : Option (List ℕ)) (bytes : List ℕ) (p : Place)
    (o q u : Output) (link_rose rose0 rose : Type 0) (stop : HandStop) (end : Relayed) → c ≡ x → (rose0 → rose)
    → SoFar f MOST_STREAMED_BYTES c rest a b bytes p o q → NotHanded c p bytes q u rose0 stop → StopsAs stop end
    → Relays f x rest a b o u link_rose rose end
answers_stop laws f c x rest a b bytes p o q u link_rose rose0 rose stop end e g s k z =
    subst (λ y. Relays f y rest a b o u link_rose rose end) e
    (not_handed laws f c rest a b bytes p o q u link_rose rose0 rose stop end g s k z)

pub answers_cut : (f : Frame) (c x : Bool) (rest : List ℕ) (a b : Option (List ℕ)) (o q : Output) (link_rose rose : Type 0) → c ≡ x
    → Ended f c rest a b o q relayed.BackendCut → Relays f x rest a b o q link_rose rose relayed.BackendCut
answers_cut f c x rest a b o q link_rose rose e h =
    subst (λ y. Relays f y rest a b o q link_rose rose relayed.BackendCut) e (inl h)

pub answers_lost : (f : Frame) (c x : Bool) (rest : List ℕ) (a b : Option (List ℕ)) (o q : Output) (link_rose rose : Type 0) → c ≡ x
    → Lost f c rest a b o q → link_rose → Relays f x rest a b o q link_rose rose relayed.BackendCut
answers_lost f c x rest a b o q link_rose rose e h r =
    subst (λ y. Relays f y rest a b o q link_rose rose relayed.BackendCut) e (inr (h, r))

pub answers_memory : (f : Frame) (c x : Bool) (rest : List ℕ) (a b : Option (List ℕ)) (o q : Output) → c ≡ x → Stopped f c rest a b o q
    → Stopped f x rest a b o q
answers_memory f c x rest a b o q e h = subst (λ y. Stopped f y rest a b o q) e h

-- ---- reads

pub going_read : (f : Frame) (limit : ℕ) (c : Bool) (rest : List ℕ) (a b d : Option (List ℕ)) (p r : Place) (o q u : Output)
    → (g : Going f limit c rest a b p o q) → g.after ≡ [] → ReadsOn c p r b d q u → Going f limit c rest a d r o u
going_read f limit c rest a b d p r o q u g e k =
    going_on f limit c rest a d k.piece k.count p r o q u
    (far_read f limit c rest a b d k.piece g.after p o q g.so_far e k.consumed) k.hands k.used

-- what came of a read that was the last one
pub read_lost : (f : Frame) (c x : Bool) (rest : List ℕ) (a b d : Option (List ℕ)) (p r : Place) (o q u : Output)
    (rose0 link_rose conn_rose0 rose : Type 0) (stop : ReadStop) → stop ≡ read_stop.ReadFault → c ≡ x → (rose0 → link_rose)
    → (g : Going f MOST_STREAMED_BYTES c rest a b p o q) → g.after ≡ [] → NotRead c p r b d q u rose0 conn_rose0 stop
    → Relays f x rest a d o u link_rose rose relayed.BackendCut
read_lost f c x rest a b d p r o q u rose0 link_rose conn_rose0 rose stop e z up g none k =
    let n = subst (λ s. NotRead c p r b d q u rose0 conn_rose0 s) e k in
    answers_lost f c x rest a d o u link_rose rose z
    (subst (λ y. Lost f c rest a d o y) (sym n.0.output) (lost f c rest a b d g.after p o q g.so_far none n.1)) (up n.2)

pub read_stops : BodyLaws → (f : Frame) (c x : Bool) (rest : List ℕ) (a b d : Option (List ℕ)) (p r : Place) (o q u : Output)
    (link_rose0 link_rose rose0 rose : Type 0) (stop : ReadStop) (hand : HandStop) (end : Relayed) → stop ≡ read_stop.Hand hand → c ≡ x
    → (rose0 → rose) → (g : Going f MOST_STREAMED_BYTES c rest a b p o q) → g.after ≡ []
    → NotRead c p r b d q u link_rose0 rose0 stop → StopsAs hand end → Relays f x rest a d o u link_rose rose end
read_stops laws f c x rest a b d p r o q u link_rose0 link_rose rose0 rose stop hand end e z up g none k w =
    let n = subst (λ s. NotRead c p r b d q u link_rose0 rose0 s) e k in
    answers_stop laws f c x rest a d n.0 p o q u link_rose rose0 rose hand end z up
    (far_read f MOST_STREAMED_BYTES c rest a b d n.0 g.after p o q g.so_far none n.1) n.2 w

pub read_memory : (f : Frame) (c x : Bool) (rest : List ℕ) (a b d : Option (List ℕ)) (p r : Place) (o q u : Output)
    (link_rose0 rose0 : Type 0) (stop : ReadStop) (hand : HandStop) → stop ≡ read_stop.Hand hand
    → hand ≡ hand_stop.Write write_stop.NoMemory → c ≡ x
    → (g : Going f MOST_STREAMED_BYTES c rest a b p o q) → g.after ≡ []
    → NotRead c p r b d q u link_rose0 rose0 stop → Stopped f x rest a d o u
read_memory f c x rest a b d p r o q u link_rose0 rose0 stop hand e h z g none k =
    let n = subst (λ s. NotRead c p r b d q u link_rose0 rose0 s) e k in
    answers_memory f c x rest a d o u z
    (not_handed_memory f c rest a d n.0 p o q u rose0 hand h
    (far_read f MOST_STREAMED_BYTES c rest a b d n.0 g.after p o q g.so_far none n.1) n.2)

pub read_closes : BodyLaws → (f : Frame) (c : Bool) (rest : List ℕ) (a b d : Option (List ℕ)) (p r : Place) (o q u : Output)
    (rose0 conn_rose0 : Type 0) (stop : ReadStop) → stop ≡ read_stop.AtEnd
    → (g : Going f MOST_STREAMED_BYTES c rest a b p o q) → g.after ≡ [] → is_done p ≡ false → is_open p ≡ true → ends_here r ≡ true
    → NotRead c p r b d q u rose0 conn_rose0 stop → Reached f c rest a d o u relayed.Done
read_closes laws f c rest a b d p r o q u rose0 conn_rose0 stop e g none n open_now h k =
    let t = subst (λ s. NotRead c p r b d q u rose0 conn_rose0 s) e k in
    subst (λ y. Reached f c rest a d o y relayed.Done) (sym t.0.output)
    (reached_close laws f c rest a b d g.after p o q g.so_far none n open_now (ap ends_here (sym t.0.place) ∙ h) t.1 t.2)

pub read_cuts : BodyLaws → (f : Frame) (c x : Bool) (rest : List ℕ) (a b d : Option (List ℕ)) (p r : Place) (o q u : Output)
    (rose0 conn_rose0 link_rose rose : Type 0) (stop : ReadStop) → stop ≡ read_stop.AtEnd → c ≡ x
    → (g : Going f MOST_STREAMED_BYTES c rest a b p o q) → g.after ≡ [] → is_open p ≡ true → ends_here r ≡ false
    → NotRead c p r b d q u rose0 conn_rose0 stop → Relays f x rest a d o u link_rose rose relayed.BackendCut
read_cuts laws f c x rest a b d p r o q u rose0 conn_rose0 link_rose rose stop e z g none open_now h k =
    let t = subst (λ s. NotRead c p r b d q u rose0 conn_rose0 s) e k in
    answers_cut f c x rest a d o u link_rose rose z
    (subst (λ y. Ended f c rest a d o y relayed.BackendCut) (sym t.0.output)
    (cut_end laws f c rest a b d g.after p o q g.so_far none open_now (ap ends_here (sym t.0.place) ∙ h) t.1 t.2))

-- ---- all bytes of a link

pub told_input : (bytes rest seen : List ℕ) (left : Option (List ℕ)) → Seen (Some bytes) left rest seen
    → seen ++ rest_of left ≡ rest ++ bytes
told_input bytes rest seen None s = absurd s.consumed
told_input bytes rest seen (Some x) s =
    ap (λ l. l ++ x) s.all ∙ append_assoc rest s.taken x ∙ ap (λ l. rest ++ l) (sym s.consumed)
