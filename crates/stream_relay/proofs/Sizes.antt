-- How many bytes of a body there are.
use Rattle.std.proofs.Common.{◌≡◌, ℕ, ◌-◌, ◌<◌, ◌≤◌, ◌∷◌, ◌++◌, List, [], length, Bool, true, false, refl, ap, ◌∙◌, arith}
use Rattle.std.specs.Prelude.{IsTrue, if◌then◌else◌, nat_lt, nat_le, ◌&&◌}
use Rattle.std.proofs.lemmas.Bool.Decides.{nat_tests}
use Rattle.body_frames.specs.Body.{First, whole, refused, part, StandsFirst, StartsWithBody}
use Rattle.body_frames.specs.Machine.{start, start_mode, step, emitted, is_data, is_data_mode, next_mode, after_digits}
use Rattle.body_frames.specs.declared.frame.BodyFault.TheVariants.{BadChunk, TooLarge}
use Rattle.body_frames.specs.declared.frame.Frame.{Frame}
use Rattle.body_frames.specs.declared.place.Mode.{Mode}
use Rattle.body_frames.specs.declared.place.Mode.TheVariants as mode
use Rattle.body_frames.specs.declared.place.Place.{Place}
use Rattle.stream_relay.specs.Stream.{Says, body_in, end_of}
use Rattle.stream_relay.specs.declared.stream.Relayed.{Relayed}
use Rattle.stream_relay.specs.declared.stream.Relayed.TheVariants as relayed
use Rattle.stream_relay.specs.declared.stream.TheConstants.{MOST_STREAMED_BYTES}

-- no more come out than go in
one_short : (t : Bool) (b : ℕ) (out bs : List ℕ) → length out ≤ length bs → length ((if t then b ∷ [] else []) ++ out) ≤ length (b ∷ bs)
one_short true b out bs h = omega arith
one_short false b out bs h = omega arith

pub emitted_short : (xs : List ℕ) (p : Place) → length (emitted p xs) ≤ length xs
unfolding emitted
emitted_short [] p = omega arith
emitted_short (b ∷ bs) p = one_short (is_data p) b (emitted (step p b) bs) bs (emitted_short bs (step p b))

-- what is awaited of a body fits the room that its limit leaves
abbrev is_roomy : ℕ → Mode → Bool
is_roomy room (mode.Whole n) = nat_lt 0 n && nat_le n room
is_roomy room (mode.Data n) = nat_lt 0 n && nat_le n room
is_roomy room _ = true

roomy_digits : (room framed line size b : ℕ) → IsTrue (is_roomy room (after_digits framed line size b))
roomy_digits room framed line size b = grind (arith, nat_tests)

roomy_next : (framed room : ℕ) (m : Mode) (b : ℕ) → IsTrue (is_roomy room m)
    → IsTrue (is_roomy (if is_data_mode room m then room - 1 else room) (next_mode framed room m b))
roomy_next framed room (mode.Whole n) b h = grind (arith, nat_tests)
roomy_next framed room mode.Open b h = grind (arith, nat_tests)
roomy_next framed room (mode.Digits line size) b h =
    let other = roomy_digits room framed line size b in
    grind (arith, nat_tests)
roomy_next framed room (mode.Blank line size) b h = roomy_digits room framed line size b
roomy_next framed room (mode.Extension line size) b h = grind (arith, nat_tests)
roomy_next framed room (mode.LineFeed size) b h = grind (arith, nat_tests)
roomy_next framed room (mode.Data n) b h = grind (arith, nat_tests)
roomy_next framed room mode.DataReturn b h = grind (arith, nat_tests)
roomy_next framed room mode.DataFeed b h = grind (arith, nat_tests)
roomy_next framed room mode.LastReturn b h = grind (arith, nat_tests)
roomy_next framed room mode.LastFeed b h = grind (arith, nat_tests)
roomy_next framed room mode.Done b h = refl
roomy_next framed room mode.Past b h = refl
roomy_next framed room (mode.Broken fault) b h = refl

data_room : (room : ℕ) (m : Mode) → IsTrue (is_roomy room m) → is_data_mode room m ≡ true → 0 < room
data_room room (mode.Whole n) h d = grind (arith, nat_tests)
data_room room mode.Open h d = grind (arith, nat_tests)
data_room room (mode.Digits line size) h d = absurd (cc d)
data_room room (mode.Blank line size) h d = absurd (cc d)
data_room room (mode.Extension line size) h d = absurd (cc d)
data_room room (mode.LineFeed size) h d = absurd (cc d)
data_room room (mode.Data n) h d = grind (arith, nat_tests)
data_room room mode.DataReturn h d = absurd (cc d)
data_room room mode.DataFeed h d = absurd (cc d)
data_room room mode.LastReturn h d = absurd (cc d)
data_room room mode.LastFeed h d = absurd (cc d)
data_room room mode.Done h d = absurd (cc d)
data_room room mode.Past h d = absurd (cc d)
data_room room (mode.Broken fault) h d = absurd (cc d)

one_fits : (t : Bool) (b room : ℕ) (out : List ℕ) → (t ≡ true → 0 < room) → length out ≤ (if t then room - 1 else room)
    → length ((if t then b ∷ [] else []) ++ out) ≤ room
one_fits true b room out some h =
    let k = some refl in
    omega (arith, k, h)
one_fits false b room out some h = h

emitted_fits : (xs : List ℕ) (p : Place) → IsTrue (is_roomy p.room p.mode) → length (emitted p xs) ≤ p.room
unfolding emitted
emitted_fits [] p h = omega arith
emitted_fits (b ∷ bs) p h =
    one_fits (is_data p) b p.room (emitted (step p b) bs) (data_room p.room p.mode h)
    (emitted_fits bs (step p b) (roomy_next p.framed p.room p.mode b h))

roomy_start : (f : Frame) (limit : ℕ) → IsTrue (is_roomy limit (start_mode f limit))
roomy_start Frame.NoBody limit = refl
roomy_start (Frame.Length n) limit = grind (arith, nat_tests)
roomy_start Frame.Chunked limit = refl
roomy_start Frame.Close limit = refl

pub body_fits : (f : Frame) (input : List ℕ) → length (body_in f input) ≤ MOST_STREAMED_BYTES
body_fits f input = emitted_fits input (start f MOST_STREAMED_BYTES) (roomy_start f MOST_STREAMED_BYTES)

-- ---- a body with a length

abbrev pub WholeIn : Type 0
WholeIn = (f : Frame) (input body after : List ℕ) → StartsWithBody f MOST_STREAMED_BYTES input body after → body_in f input ≡ body

whole_length : WholeIn → (size : ℕ) (input : List ℕ) (first : First) → StandsFirst (Frame.Length size) MOST_STREAMED_BYTES input first
    → relayed.Done ≡ end_of (Frame.Length size) first → length (body_in (Frame.Length size) input) ≡ size
whole_length law size input (whole body after) s e =
    ap length (law (Frame.Length size) input body after s) ∙ ap length s.is.0 ∙ s.is.1
whole_length law size input (refused TooLarge) s e = absurd (cc e)
whole_length law size input (refused (BadChunk at)) s e = absurd (cc e)
whole_length law size input part s e = absurd (cc e)

pub length_whole : WholeIn → (size : ℕ) (input : List ℕ) → Says (Frame.Length size) input relayed.Done
    → length (body_in (Frame.Length size) input) ≡ size
length_whole law size input s = whole_length law size input s.first s.stands s.end_is

cut_length : (size : ℕ) (input : List ℕ) (first : First) (end : Relayed) → StandsFirst (Frame.Length size) MOST_STREAMED_BYTES input first
    → end ≡ end_of (Frame.Length size) first → (end ≡ relayed.Done → ⊥) → length (body_in (Frame.Length size) input) < size
cut_length size input (whole body after) end s e n = absurd (n e)
cut_length size input (refused TooLarge) end s e n =
    let fits = body_fits (Frame.Length size) input in
    omega (arith, fits, s)
cut_length size input (refused (BadChunk at)) end s e n = absurd s
cut_length size input part end s e n =
    let short = emitted_short input (start (Frame.Length size) MOST_STREAMED_BYTES) in
    let less = s.0 in
    omega (arith, short, less)

pub length_cut : (size : ℕ) (input : List ℕ) (end : Relayed) → Says (Frame.Length size) input end → (end ≡ relayed.Done → ⊥)
    → length (body_in (Frame.Length size) input) < size
length_cut size input end s n = cut_length size input s.first end s.stands s.end_is n
