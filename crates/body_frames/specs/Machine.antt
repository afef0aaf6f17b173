-- A body in its frame (RFC 9112, sections 6.1, 6.2, 6.3 and 7.1): a place in it, and how each byte moves the place.
use Rattle.std.specs.Prelude.{◌≡◌, ℕ, ◌+◌, ◌-◌, ◌*◌, ◌^◌, ◌≤◌, min, ◌==◌, not, nat_lt, nat_le, ◌&&◌, Bool}
use Rattle.std.specs.Prelude.{true, false, if◌then◌else◌, List, [], ◌∷◌, ◌++◌, length, take, drop, Some}
use Rattle.body_frames.specs.Chunks.{is_blank, digit_value}
pub use Rattle.body_frames.specs.Progress.{is_done, is_done_mode, fault_of, fault_mode, ends_here, ends_here_mode}
pub use Rattle.body_frames.specs.Progress.{is_open, is_open_mode, framing_left, most_left}
use Rattle.body_frames.specs.declared.frame.BodyFault.{BodyFault}
use Rattle.body_frames.specs.declared.frame.BodyFault.TheVariants.{BadChunk, TooLarge}
use Rattle.body_frames.specs.declared.frame.Frame.{Frame}
use Rattle.body_frames.specs.declared.frame.Frame.TheVariants.{NoBody, Length, Chunked, Close}
use Rattle.body_frames.specs.declared.place.Mode.{Mode}
use Rattle.body_frames.specs.declared.place.Mode.TheVariants.{Whole, Open, Digits, Blank, Extension, LineFeed, Data}
use Rattle.body_frames.specs.declared.place.Mode.TheVariants.{DataReturn, DataFeed, LastReturn, LastFeed, Done, Past}
use Rattle.body_frames.specs.declared.place.Mode.TheVariants.{Broken}
use Rattle.body_frames.specs.declared.place.Place.{Place}

-- a fault at the byte that comes
abbrev pub bad : ℕ → Mode
bad framed = Broken (BadChunk framed)

-- what may follow a digit or a blank: the bytes of the line so far, the size
abbrev pub after_digits : ℕ → ℕ → ℕ → ℕ → Mode
after_digits framed line size b =
    if b == 13 then LineFeed size
    else if is_blank b && nat_lt line 254 then Blank (line + 1) size
    else if b == 59 && nat_lt line 254 then Extension (line + 1) size
    else bad framed

-- what the size line's end leads to: the room that the limit leaves, the size
abbrev pub after_line : ℕ → ℕ → Mode
after_line room size =
    if size == 0 then LastReturn
    else if nat_le size room then Data size
    else Broken TooLarge

-- that byte and no other
abbrev pub expect : ℕ → ℕ → Mode → ℕ → Mode
expect framed wanted next b = if b == wanted then next else bad framed

-- how a byte moves the mode
abbrev pub next_mode : ℕ → ℕ → Mode → ℕ → Mode
next_mode framed room (Whole n) b = if nat_lt 1 n then Whole (n - 1) else Done
next_mode framed room Open b = if nat_lt 0 room then Open else Broken TooLarge
next_mode framed room (Digits line size) b =
    if nat_lt (digit_value b) 16 && nat_lt line 16 then Digits (line + 1) (size * 16 + digit_value b)
    else if line == 0 then bad framed
    else after_digits framed line size b
next_mode framed room (Blank line size) b = after_digits framed line size b
next_mode framed room (Extension line size) b =
    if b == 13 then LineFeed size
    else if not (b == 10) && nat_lt line 254 then Extension (line + 1) size
    else bad framed
next_mode framed room (LineFeed size) b = if b == 10 then after_line room size else bad framed
next_mode framed room (Data n) b = if nat_lt 1 n then Data (n - 1) else DataReturn
next_mode framed room DataReturn b = expect framed 13 DataFeed b
next_mode framed room DataFeed b = expect framed 10 (Digits 0 0) b
next_mode framed room LastReturn b = expect framed 13 LastFeed b
next_mode framed room LastFeed b = expect framed 10 Done b
next_mode framed room Done b = Past
next_mode framed room Past b = Past
next_mode framed room (Broken fault) b = Broken fault

-- how many bytes of the body may come next, one after another
abbrev pub data_left_mode : ℕ → Mode → ℕ
data_left_mode room (Whole n) = n
data_left_mode room Open = room
data_left_mode room (Data n) = n
data_left_mode room _ = 0

abbrev pub data_left : Place → ℕ
data_left p = data_left_mode p.room p.mode

-- the byte that comes is one of the body's
abbrev pub is_data_mode : ℕ → Mode → Bool
is_data_mode room (Whole n) = true
is_data_mode room Open = nat_lt 0 room
is_data_mode room (Data n) = true
is_data_mode room _ = false

abbrev pub is_data : Place → Bool
is_data p = is_data_mode p.room p.mode

-- the byte that comes is none of the body's
abbrev pub is_framing : Place → Bool
is_framing p = is_open p && not (is_data p)

-- one byte, which uses up room where it is data
abbrev pub step : Place → ℕ → Place
step p b = record {
  mode = next_mode p.framed p.room p.mode b;
  framed = min (p.framed + 1) (2 ^ 64 - 1);
  room = if is_data p then p.room - 1 else p.room;
}

unfoldable pub run : Place → List ℕ → Place
run p [] = p
run p (b ∷ bs) = run (step p b) bs

-- where so many bytes of the body lead
abbrev pub jump_mode : Mode → ℕ → Mode
jump_mode (Whole n) size = if n == size then Done else Whole (n - size)
jump_mode (Data n) size = if n == size then DataReturn else Data (n - size)
jump_mode mode size = mode

abbrev pub jump : Place → ℕ → Place
jump p size = record {
  mode = jump_mode p.mode size;
  framed = min (p.framed + size) (2 ^ 64 - 1);
  room = p.room - size;
}

-- the body's bytes among them
unfoldable pub emitted : Place → List ℕ → List ℕ
emitted p [] = []
emitted p (b ∷ bs) = (if is_data p then b ∷ [] else []) ++ emitted (step p b) bs

-- where a body begins
abbrev pub start_mode : Frame → ℕ → Mode
start_mode NoBody limit = Done
start_mode (Length n) limit = if nat_lt limit n then Broken TooLarge else if n == 0 then Done else Whole n
start_mode Chunked limit = Digits 0 0
start_mode Close limit = Open

abbrev pub start : Frame → ℕ → Place
start frame limit = record { mode = start_mode frame limit; framed = 0; room = limit }

-- the size fits, data is awaited only where there is some, within the room, and no byte came after the end
abbrev pub is_sound_mode : ℕ → Mode → Bool
is_sound_mode room (Whole n) = nat_lt 0 n && nat_le n room
is_sound_mode room (Digits line size) = nat_le line 16 && nat_lt size (16 ^ line)
is_sound_mode room (Blank line size) = nat_le line 254
is_sound_mode room (Extension line size) = nat_le line 254
is_sound_mode room (Data n) = nat_lt 0 n && nat_le n room
is_sound_mode room Past = false
is_sound_mode room _ = true

abbrev pub is_sound : Place → Bool
is_sound p = is_sound_mode p.room p.mode

-- the bytes of the piece that a feed took, and the body's among them
pub record Took (old new : Place) (piece : List ℕ) (taken from to : ℕ) : Type 0 where
  pub within : taken ≤ length piece
  pub range : from ≤ to
  pub end : to ≤ taken
  pub moved : new ≡ run old (take taken piece)
  pub body : emitted old (take taken piece) ≡ take (to - from) (drop from piece)

-- the fault came within the piece, and no byte of the body before it
pub record BreaksIn (old new : Place) (piece : List ℕ) (fault : BodyFault) : Type 0 where
  pub taken : ℕ
  pub within : taken ≤ length piece
  pub moved : new ≡ run old (take taken piece)
  pub nothing : emitted old (take taken piece) ≡ []
  pub broken : fault_of new ≡ Some fault
