-- Bytes that are handed on one after another.
use Rattle.std.proofs.Common.{◌≡◌, ℕ, ◌<◌, ◌≤◌, ◌+◌, ◌-◌, ◌++◌, List, [], ◌∷◌, Bool, length, take, drop, refl, sym, ap, ◌∙◌, subst, arith, append_assoc, append-nil, length-drop}
use Rattle.std.specs.Prelude.{Option}
use Rattle.std.proofs.Math.Seq.{take-add}
use Rattle.std.proofs.lemmas.List.{take-append-drop, take_all, length-take-le}
use Rattle.std.proofs.lemmas.List.Elements.{All-cons, All-nil}
use Rattle.std.specs.Io.KnownBytes.{Appends, Consumes}
use Rattle.front_ports.specs.Cause.{Rose}
use Rattle.front_ports.specs.Written.{AppendsFront}
use Rattle.body_frames.specs.Chunks.{IsPiece}
use Rattle.body_frames.specs.Decoded.{Decoded, Feeds, Refuses}
use Rattle.body_frames.specs.declared.frame.BodyFault.{BodyFault}
use Rattle.body_frames.specs.declared.frame.Frame.{Frame}
use Rattle.body_frames.specs.declared.place.Place.{Place}
use Rattle.stream_relay.specs.Hand.{Moves, HandsOn, Breaks, CutPiece, Cuts, NotHanded, Why}
use Rattle.stream_relay.specs.Keep.{KeepsMore}
use Rattle.stream_relay.specs.Relay.{Output, Wrote}
use Rattle.stream_relay.specs.Stream.{piece_text}
use Rattle.stream_relay.specs.declared.hand.HandStop.{HandStop}
use Rattle.stream_relay.specs.declared.hand.HandStop.TheVariants as hand_stop
use Rattle.stream_relay.specs.declared.hand.WriteStop.{WriteStop}
use Rattle.stream_relay.specs.declared.hand.WriteStop.TheVariants as write_stop
use Rattle.stream_relay.proofs.Bytes.{wrote_none, wrote_join}

-- ---- a piece

-- a piece as it was written whole
pub piece_wrote : (c : Bool) (a b : Output) (x : List ℕ) → IsPiece x → Appends a.written b.written (piece_text c x)
    → KeepsMore a.keep b.keep x → Wrote c a b x []
piece_wrote c a b x p w k = record {
  pieces = x ∷ [];
  each = All-cons IsPiece x [] p (All-nil IsPiece);
  body_is = sym (append-nil x);
  written = subst (λ l. Appends a.written b.written l) (sym (append-nil (piece_text c x ++ []) ∙ append-nil (piece_text c x))) w;
  kept = k;
}

-- a front of a piece
pub piece_cut : (c : Bool) (a b : Output) (x : List ℕ) → IsPiece x → AppendsFront a.written b.written (piece_text c x)
    → KeepsMore a.keep b.keep [] → CutPiece c a b x
piece_cut c a b x p (n, w) k = record {
  is_piece = p;
  count = n;
  wrote = record { pieces = []; each = All-nil IsPiece; body_is = refl; written = w; kept = k };
}

-- all of a piece, which was not kept
pub piece_unkept : (c : Bool) (a b : Output) (x : List ℕ) → IsPiece x → Appends a.written b.written (piece_text c x)
    → KeepsMore a.keep b.keep [] → CutPiece c a b x
piece_unkept c a b x p w k =
    piece_cut c a b x p
    (length (piece_text c x), subst (λ l. Appends a.written b.written l) (sym (take_all (length (piece_text c x)) (piece_text c x) (omega arith))) w) k

-- ---- a feed

pub moved_nothing : (p q : Place) (text : List ℕ) → ((f : Frame) (limit : ℕ) (before body : List ℕ) → Decoded f limit before body p
    → Decoded f limit (before ++ text) body q) → Moves p q text []
moved_nothing p q text m = record {
  each = λ f limit before body d. subst (λ l. Decoded f limit (before ++ text) l q) (sym (append-nil body)) (m f limit before body d);
}

pub broken_at : (c : Bool) (p q : Place) (bytes : List ℕ) (o : Output) (fault : BodyFault) → Refuses p q bytes fault → Breaks c p bytes o o fault
broken_at c p q bytes o fault k = record {
  text = take k.taken bytes;
  after = drop k.taken bytes;
  new = q;
  split = sym (take-append-drop k.taken bytes);
  hands = record { gave = []; moves = moved_nothing p q (take k.taken bytes) k.moved; wrote = wrote_none c o };
  broken = k.broken;
}

pub fed_moves : (p q : Place) (bytes : List ℕ) (taken from to : ℕ) → Feeds p q bytes taken from to
    → Moves p q (take taken bytes) (take (to - from) (drop from bytes))
fed_moves p q bytes taken from to k = record { each = k.moved }

pub fed_nothing : (c : Bool) (p q : Place) (bytes : List ℕ) (taken from to : ℕ) (o : Output) → from ≡ to → Feeds p q bytes taken from to
    → HandsOn c p q (take taken bytes) o o
fed_nothing c p q bytes taken from to o e k = record {
  gave = [];
  moves = subst (λ l. Moves p q (take taken bytes) l) (none (to - from) (omega arith)) (fed_moves p q bytes taken from to k);
  wrote = wrote_none c o;
}
  where
    none : (n : ℕ) → n ≡ 0 → take n (drop from bytes) ≡ []
    none n z = subst (λ m. take m (drop from bytes) ≡ []) (sym z) refl

pub fed_piece : (c : Bool) (p q : Place) (bytes piece : List ℕ) (taken from to : ℕ) (a b : Output)
    → piece ≡ take (to - from) (drop from bytes) → Feeds p q bytes taken from to → Wrote c a b piece []
    → HandsOn c p q (take taken bytes) a b
fed_piece c p q bytes piece taken from to a b e k w = record {
  gave = piece;
  moves = subst (λ l. Moves p q (take taken bytes) l) (sym e) (fed_moves p q bytes taken from to k);
  wrote = w;
}

pub fed_cut : (c : Bool) (p q : Place) (bytes piece : List ℕ) (taken from to : ℕ) (a b : Output)
    → piece ≡ take (to - from) (drop from bytes) → Feeds p q bytes taken from to → CutPiece c a b piece → Cuts c p bytes a b
fed_cut c p q bytes piece taken from to a b e k w = record {
  text = take taken bytes;
  after = drop taken bytes;
  new = q;
  split = sym (take-append-drop taken bytes);
  gave = [];
  piece = piece;
  moves = subst (λ l. Moves p q (take taken bytes) l) (sym e) (fed_moves p q bytes taken from to k);
  is_piece = w.is_piece;
  count = w.count;
  wrote = w.wrote;
}

-- ---- one after another

moves_join : (p q r : Place) (t s x y : List ℕ) → Moves p q t x → Moves q r s y → Moves p r (t ++ s) (x ++ y)
moves_join p q r t s x y m n = record {
  each = λ f limit before body d.
      subst (λ l. Decoded f limit l (body ++ (x ++ y)) r) (append_assoc before t s)
      (subst (λ l. Decoded f limit ((before ++ t) ++ s) l r) (append_assoc body x y)
      (n.each f limit (before ++ t) (body ++ x) (m.each f limit before body d)));
}

pub hands_join : (c : Bool) (p q r : Place) (t s : List ℕ) (a b d : Output) → HandsOn c p q t a b → HandsOn c q r s b d
    → HandsOn c p r (t ++ s) a d
hands_join c p q r t s a b d h k = record {
  gave = h.gave ++ k.gave;
  moves = moves_join p q r t s h.gave k.gave h.moves k.moves;
  wrote = wrote_join c a b d h.gave k.gave [] h.wrote k.wrote;
}

pub hands_at : (c : Bool) (p q : Place) (t s : List ℕ) (a b : Output) → t ≡ s → HandsOn c p q t a b → HandsOn c p q s a b
hands_at c p q t s a b e h = subst (λ l. HandsOn c p q l a b) e h

pub breaks_after : (c : Bool) (p q : Place) (bytes t s : List ℕ) (a b d : Output) (fault : BodyFault) → bytes ≡ t ++ s
    → HandsOn c p q t a b → Breaks c q s b d fault → Breaks c p bytes a d fault
breaks_after c p q bytes t s a b d fault e h k = record {
  text = t ++ k.text;
  after = k.after;
  new = k.new;
  split = e ∙ ap (λ l. t ++ l) k.split ∙ sym (append_assoc t k.text k.after);
  hands = hands_join c p q k.new t k.text a b d h k.hands;
  broken = k.broken;
}

pub cuts_after : (c : Bool) (p q : Place) (bytes t s : List ℕ) (a b d : Output) → bytes ≡ t ++ s → HandsOn c p q t a b
    → Cuts c q s b d → Cuts c p bytes a d
cuts_after c p q bytes t s a b d e h k = record {
  text = t ++ k.text;
  after = k.after;
  new = k.new;
  split = e ∙ ap (λ l. t ++ l) k.split ∙ sym (append_assoc t k.text k.after);
  gave = h.gave ++ k.gave;
  piece = k.piece;
  moves =
      subst (λ l. Moves p k.new (t ++ k.text) l) (sym (append_assoc h.gave k.gave k.piece))
      (moves_join p q k.new t k.text h.gave (k.gave ++ k.piece) h.moves k.moves);
  is_piece = k.is_piece;
  count = k.count;
  wrote = wrote_join c a b d h.gave k.gave _ h.wrote k.wrote;
}

pub why_earlier : (rose0 rose : Type 0) (stop : WriteStop) → (rose0 → rose) → Why rose0 stop → Why rose stop
why_earlier rose0 rose write_stop.WriteFault f w = f w
why_earlier rose0 rose write_stop.NoMemory f w = tt

pub not_handed_after : (c : Bool) (p q : Place) (bytes t s : List ℕ) (a b d : Output) (rose0 rose : Type 0) (stop : HandStop)
    → (rose0 → rose) → bytes ≡ t ++ s → HandsOn c p q t a b → NotHanded c q s b d rose0 stop → NotHanded c p bytes a d rose stop
not_handed_after c p q bytes t s a b d rose0 rose (hand_stop.Body fault) f e h k = breaks_after c p q bytes t s a b d fault e h k
not_handed_after c p q bytes t s a b d rose0 rose (hand_stop.Write stop) f e h (k, w) =
    (cuts_after c p q bytes t s a b d e h k, why_earlier rose0 rose stop f w)

pub rose_same : (a b c : ℕ) → b ≡ a → Rose b c → Rose a c
rose_same a b c e r = subst (λ n. Rose n c) e r

-- ---- the bytes that are left of a slice

pub rest_slice : (at : ℕ) (bytes : List ℕ) → take (length bytes - at) (drop at bytes) ≡ drop at bytes
rest_slice at bytes = take_all (length bytes - at) (drop at bytes) (omega (arith, length-drop at bytes))

pub slice_split : (at : ℕ) (bytes : List ℕ) → bytes ≡ take at bytes ++ take (length bytes - at) (drop at bytes)
slice_split at bytes = sym (take-append-drop at bytes) ∙ ap (λ l. take at bytes ++ l) (sym (rest_slice at bytes))

pub slice_joined : (at n : ℕ) (bytes : List ℕ) → take at bytes ++ take n (take (length bytes - at) (drop at bytes)) ≡ take (at + n) bytes
slice_joined at n bytes = ap (λ l. take at bytes ++ take n l) (rest_slice at bytes) ∙ sym (take-add at n bytes)

pub slice_within : (at n : ℕ) (bytes : List ℕ) → at ≤ length bytes → n ≤ length (take (length bytes - at) (drop at bytes))
    → at + n ≤ length bytes
slice_within at n bytes h k =
    let e = ap length (rest_slice at bytes) in
    omega (arith, length-drop at bytes, e)

-- ---- reads

-- a read that gave nothing
pub read_nothing : (b d : Option (List ℕ)) (n : ℕ) (buf : List ℕ) → n ≡ 0 → Consumes b d (take n buf) → Consumes b d []
read_nothing b d n buf e h = subst (λ m. Consumes b d (take m buf)) e h

pub some_read : (n : ℕ) (buf : List ℕ) → n ≤ length buf → (n ≡ 0 → ⊥) → 0 < length (take n buf)
some_read n buf h some =
    let e = length-take-le n buf h in
    omega (arith, e, some)

pub rose_earlier : (a b c : ℕ) → a ≤ b → Rose b c → Rose a c
rose_earlier a b c h r = omega arith
