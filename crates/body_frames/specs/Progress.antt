-- How far a decoder is in its body.
use Rattle.std.specs.Prelude.{ℕ, ◌+◌, ◌-◌, ◌*◌, Bool, true, false, Option, Some, None}
use Rattle.body_frames.specs.declared.frame.BodyFault.{BodyFault}
use Rattle.body_frames.specs.declared.place.Mode.{Mode}
use Rattle.body_frames.specs.declared.place.Mode.TheVariants.{Open, Digits, Blank, Extension, LineFeed}
use Rattle.body_frames.specs.declared.place.Mode.TheVariants.{DataReturn, DataFeed, LastReturn, LastFeed, Done, Past}
use Rattle.body_frames.specs.declared.place.Mode.TheVariants.{Broken}
use Rattle.body_frames.specs.declared.place.Place.{Place}

abbrev pub is_done_mode : Mode → Bool
is_done_mode Done = true
is_done_mode _ = false

abbrev pub fault_mode : Mode → Option BodyFault
fault_mode (Broken fault) = Some fault
fault_mode _ = None

-- the body is whole
abbrev pub is_done : Place → Bool
is_done p = is_done_mode p.mode

-- why the body is refused
abbrev pub fault_of : Place → Option BodyFault
fault_of p = fault_mode p.mode

-- an end of the input here leaves a whole body
abbrev pub ends_here_mode : Mode → Bool
ends_here_mode Done = true
ends_here_mode Open = true
ends_here_mode _ = false

abbrev pub ends_here : Place → Bool
ends_here p = ends_here_mode p.mode

-- more bytes are awaited
abbrev pub is_open_mode : Mode → Bool
is_open_mode Done = false
is_open_mode Past = false
is_open_mode (Broken fault) = false
is_open_mode _ = true

abbrev pub is_open : Place → Bool
is_open p = is_open_mode p.mode

-- how many bytes may come at most, beside those of the room
abbrev pub framing_left : Mode → ℕ
framing_left Open = 1
framing_left (Digits line size) = 300 - line
framing_left (Blank line size) = 300 - line
framing_left (Extension line size) = 300 - line
framing_left (LineFeed size) = 20
framing_left DataReturn = 310
framing_left DataFeed = 305
framing_left LastReturn = 10
framing_left LastFeed = 5
framing_left _ = 0

-- a bound on the bytes that are still awaited
abbrev pub most_left : Place → ℕ
most_left p = p.room * 1000 + framing_left p.mode
