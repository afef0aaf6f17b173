-- Pieces that are written one after another, and what a decoder gives of bytes after its end.
use Rattle.std.proofs.Common.{◌≡◌, ℕ, ◌++◌, List, [], ◌∷◌, Bool, true, false, Some, refl, sym, ap, ◌∙◌, subst, arith, append_assoc, append-nil}
use Rattle.std.specs.Prelude.{if◌then◌else◌, Option}
use Rattle.std.proofs.KnownBytes.{Appends-nil, Appends-trans}
use Rattle.std.proofs.lemmas.Grind.{flat_map-append}
use Rattle.std.proofs.lemmas.List.Elements.{All-append, All-nil}
use Rattle.std.specs.Io.KnownBytes.{Appends}
use Rattle.body_frames.specs.Chunks.{IsPiece}
use Rattle.body_frames.specs.Decoded.{Decoded}
use Rattle.body_frames.specs.Machine.{start, step, run, emitted, is_data, is_data_mode, next_mode}
use Rattle.body_frames.specs.Progress.{is_open, is_open_mode, is_done, fault_of}
use Rattle.body_frames.specs.declared.frame.BodyFault.{BodyFault}
use Rattle.body_frames.specs.declared.frame.Frame.{Frame}
use Rattle.body_frames.specs.declared.place.Mode.{Mode}
use Rattle.body_frames.specs.declared.place.Mode.TheVariants.{Whole, Open, Digits, Blank, Extension, LineFeed, Data}
use Rattle.body_frames.specs.declared.place.Mode.TheVariants.{DataReturn, DataFeed, LastReturn, LastFeed, Done, Past}
use Rattle.body_frames.specs.declared.place.Mode.TheVariants.{Broken}
use Rattle.body_frames.specs.declared.place.Place.{Place}
use Rattle.stream_relay.specs.Keep.{Keeps, KeepsMore}
use Rattle.stream_relay.specs.Relay.{Output, Wrote}
use Rattle.stream_relay.specs.Stream.{piece_text, pieces_text, joined}
use Rattle.stream_relay.specs.declared.keep.Keep.{Keep}

-- ---- a decoder

pub emitted_more : (p : Place) (xs ys : List ℕ) → emitted p (xs ++ ys) ≡ emitted p xs ++ emitted (run p xs) ys
unfolding run emitted
emitted_more p [] ys = refl
emitted_more p (b ∷ bs) ys =
    let front = if is_data p then b ∷ [] else [] in
    ap (λ l. front ++ l) (emitted_more (step p b) bs ys)
    ∙ sym (append_assoc front (emitted (step p b) bs) (emitted (run (step p b) bs) ys))

-- after its end it stays there and gives nothing
closed_mode : (framed room : ℕ) (m : Mode) (b : ℕ) → is_open_mode m ≡ false
    → (is_data_mode room m ≡ false) × (is_open_mode (next_mode framed room m b) ≡ false)
closed_mode framed room (Whole n) b h = absurd (cc h)
closed_mode framed room Open b h = absurd (cc h)
closed_mode framed room (Digits line size) b h = absurd (cc h)
closed_mode framed room (Blank line size) b h = absurd (cc h)
closed_mode framed room (Extension line size) b h = absurd (cc h)
closed_mode framed room (LineFeed size) b h = absurd (cc h)
closed_mode framed room (Data n) b h = absurd (cc h)
closed_mode framed room DataReturn b h = absurd (cc h)
closed_mode framed room DataFeed b h = absurd (cc h)
closed_mode framed room LastReturn b h = absurd (cc h)
closed_mode framed room LastFeed b h = absurd (cc h)
closed_mode framed room Done b h = (refl, refl)
closed_mode framed room Past b h = (refl, refl)
closed_mode framed room (Broken fault) b h = (refl, refl)

pub closed_emits : (xs : List ℕ) (p : Place) → is_open p ≡ false → emitted p xs ≡ []
unfolding emitted
closed_emits [] p h = refl
closed_emits (b ∷ bs) p h =
    let s = closed_mode p.framed p.room p.mode b h in
    ap (λ (t : Bool). (if t then b ∷ [] else []) ++ emitted (step p b) bs) s.0 ∙ closed_emits bs (step p b) s.1

pub done_closed : (p : Place) → is_done p ≡ true → is_open p ≡ false
done_closed p h = grind arith

pub broken_closed : (p : Place) (fault : BodyFault) → fault_of p ≡ Some fault → is_open p ≡ false
broken_closed p fault h = grind arith

-- a decoder that took the text gives what the text has, and then what it gives of the bytes after it
pub decoded_then : (f : Frame) (limit : ℕ) (text more body : List ℕ) (p : Place) → Decoded f limit text body p
    → emitted (start f limit) (text ++ more) ≡ body ++ emitted p more
decoded_then f limit text more body p d =
    emitted_more (start f limit) text more ∙ ap (λ l. l ++ emitted (run (start f limit) text) more) (sym d.gave)
    ∙ ap (λ q. body ++ emitted q more) (sym d.at)

pub decoded_end : (f : Frame) (limit : ℕ) (text more body : List ℕ) (p : Place) → Decoded f limit text body p
    → is_open p ≡ false → emitted (start f limit) (text ++ more) ≡ body
decoded_end f limit text more body p d h =
    decoded_then f limit text more body p d ∙ ap (λ l. body ++ l) (closed_emits more p h) ∙ append-nil body

-- ---- pieces

pub keeps_none : (k : Keep) → KeepsMore k k []
keeps_none k = record { each = λ asked body h. subst (λ l. Keeps asked l k) (sym (append-nil body)) h }

keeps_join : (a b d : Keep) (x y : List ℕ) → KeepsMore a b x → KeepsMore b d y → KeepsMore a d (x ++ y)
keeps_join a b d x y p q = record {
  each = λ asked body h. subst (λ l. Keeps asked l d) (append_assoc body x y) (q.each asked (body ++ x) (p.each asked body h));
}

pub wrote_none : (c : Bool) (o : Output) → Wrote c o o [] []
wrote_none c o = record {
  pieces = [];
  each = All-nil IsPiece;
  body_is = refl;
  written = Appends-nil o.written;
  kept = keeps_none o.keep;
}

texts_join : (c : Bool) (p q : List (List ℕ)) (t : List ℕ)
    → (pieces_text c p ++ []) ++ (pieces_text c q ++ t) ≡ pieces_text c (p ++ q) ++ t
texts_join c p q t =
    ap (λ l. l ++ (pieces_text c q ++ t)) (append-nil (pieces_text c p))
    ∙ sym (append_assoc (pieces_text c p) (pieces_text c q) t)
    ∙ ap (λ l. l ++ t) (sym (flat_map-append (piece_text c) p q))

pub wrote_join : (c : Bool) (a b d : Output) (x y t : List ℕ) → Wrote c a b x [] → Wrote c b d y t → Wrote c a d (x ++ y) t
wrote_join c a b d x y t p q = record {
  pieces = p.pieces ++ q.pieces;
  each = All-append IsPiece p.pieces q.pieces p.each q.each;
  body_is =
      ap (λ l. l ++ y) p.body_is ∙ ap (λ l. joined p.pieces ++ l) q.body_is
      ∙ sym (flat_map-append (λ (piece : List ℕ). piece) p.pieces q.pieces);
  written =
      subst (λ l. Appends a.written d.written l) (texts_join c p.pieces q.pieces t)
      (Appends-trans a.written b.written d.written _ _ p.written q.written);
  kept = keeps_join a.keep b.keep d.keep x y p.kept q.kept;
}

-- a text that is no piece of the body
pub wrote_text : (c : Bool) (w0 w1 : Option (List ℕ)) (k : Keep) (t : List ℕ) → Appends w0 w1 t
    → Wrote c (record { written = w0; keep = k }) (record { written = w1; keep = k }) [] t
wrote_text c w0 w1 k t h = record { pieces = []; each = All-nil IsPiece; body_is = refl; written = h; kept = keeps_none k }

pub wrote_then : (c : Bool) (a : Output) (w1 w2 : Option (List ℕ)) (k : Keep) (x t : List ℕ)
    → Wrote c a (record { written = w1; keep = k }) x [] → Appends w1 w2 t → Wrote c a (record { written = w2; keep = k }) x t
wrote_then c a w1 w2 k x t p h =
    subst (λ l. Wrote c a (record { written = w2; keep = k }) l t) (append-nil x)
    (wrote_join c a (record { written = w1; keep = k }) (record { written = w2; keep = k }) x [] t p (wrote_text c w1 w2 k t h))
