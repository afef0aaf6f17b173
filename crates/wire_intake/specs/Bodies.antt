-- What a call that reads a body gives.
use Rattle.std.specs.Prelude.{◌≡◌, ℕ, Bool, true, false, List, [], ◌++◌, Option}
use Rattle.std.specs.Io.KnownBytes.{Consumes, IsAtEnd}
use Rattle.body_frames.specs.declared.frame.BodyFault.{BodyFault}
use Rattle.body_frames.specs.declared.frame.Frame.{Frame}
use Rattle.body_frames.specs.declared.place.Place.{Place}
use Rattle.body_frames.specs.Body.{IsBody, IsPart, IsRefused, ends_itself}
use Rattle.body_frames.specs.Decoded.{Decoded, Refuses}
use Rattle.wire_intake.specs.declared.intake.ReadStop.{ReadStop}
use Rattle.wire_intake.specs.declared.intake.ReadStop.TheVariants as read_stop
use Rattle.wire_intake.specs.declared.body.BodyStop.{BodyStop}
use Rattle.wire_intake.specs.declared.body.BodyStop.TheVariants as body_stop
pub use Rattle.wire_intake.specs.Seen.{Seen, KeepsCount}

-- a body that doesn't end by itself is all of the input
abbrev pub EndsInput : Bool → Option (List ℕ) → List ℕ → Type 0
EndsInput true left held = Unit {0}
EndsInput false left held = (held ≡ []) × IsAtEnd left

-- a whole body stands first in what was seen, and this is held after it
pub record GotBody (left0 left : Option (List ℕ)) (held0 held : List ℕ) (frame : Frame) (limit : ℕ)
    (body : List ℕ) : Type 0 where
  pub bytes : List ℕ
  pub seen : Seen left0 left held0 bytes
  pub text : List ℕ
  pub split : bytes ≡ text ++ held
  pub is : IsBody frame limit text body
  pub ends : EndsInput (ends_itself frame) left held

-- a body that is refused, for that, stands first in what was seen
pub record RefusedBody (left0 left : Option (List ℕ)) (held0 : List ℕ) (frame : Frame) (limit : ℕ)
    (fault : BodyFault) : Type 0 where
  pub bytes : List ℕ
  pub seen : Seen left0 left held0 bytes
  pub refused : IsRefused frame limit bytes fault

-- what was seen is a part of a body
pub record PartOfBody (left0 left : Option (List ℕ)) (held0 : List ℕ) (frame : Frame) (limit : ℕ) : Type 0 where
  pub bytes : List ℕ
  pub seen : Seen left0 left held0 bytes
  pub part : IsPart frame limit bytes

-- why no body came. A body that ends with its input isn't cut short by the end
abbrev pub NoBodyCame : Option (List ℕ) → Option (List ℕ) → List ℕ → Frame → ℕ → Type 0 → BodyStop → Type 0
NoBodyCame left0 left held0 frame limit rose (body_stop.Fault fault) = RefusedBody left0 left held0 frame limit fault
NoBodyCame left0 left held0 frame limit rose (body_stop.Input read_stop.AtEnd) =
    PartOfBody left0 left held0 frame limit × IsAtEnd left × (ends_itself frame ≡ true)
NoBodyCame left0 left held0 frame limit rose (body_stop.Input read_stop.ReadFault) =
    PartOfBody left0 left held0 frame limit × rose
NoBodyCame left0 left held0 frame limit rose (body_stop.Input read_stop.NoMemory) = Unit {0}

-- the count of faults stays, but where a read failed
abbrev pub KeepsCountOfBody : ℕ → ℕ → BodyStop → Type 0
KeepsCountOfBody before after (body_stop.Input stop) = KeepsCount before after stop
KeepsCountOfBody before after (body_stop.Fault fault) = after ≡ before

-- ---- how far a body has come

-- bytes held went into a body, whatever went into it before
pub record FedInto (old new : Place) (held0 held body0 body : List ℕ) : Type 0 where
  pub text : List ℕ
  pub more : List ℕ
  pub split : held0 ≡ text ++ held
  pub grown : body ≡ body0 ++ more
  pub moved : (frame : Frame) (limit : ℕ) (before gave : List ℕ) → Decoded frame limit before gave old
      → Decoded frame limit (before ++ text) (gave ++ more) new

-- bytes held broke a body
abbrev pub NotFed : Place → List ℕ → BodyStop → Type 0
NotFed old held (body_stop.Fault fault) = (new : Place) × Refuses old new held fault
NotFed old held (body_stop.Input read_stop.NoMemory) = Unit {0}
NotFed old held (body_stop.Input _) = ⊥

-- the text of a body as far as it came, and what is held after it
pub record BodySoFar (left0 left : Option (List ℕ)) (held0 held : List ℕ) (frame : Frame) (limit : ℕ)
    (decoder : Place) (body : List ℕ) : Type 0 where
  pub taken : List ℕ
  pub text : List ℕ
  pub consumed : Consumes left0 left taken
  pub split : held0 ++ taken ≡ text ++ held
  pub decoded : Decoded frame limit text body decoder

-- the body is whole there: the input ended, and an end leaves a whole body
abbrev pub ends_at : Bool → ReadStop → Bool
ends_at ends read_stop.AtEnd = ends
ends_at ends _ = false

-- why nothing more is held, where nothing was
abbrev pub NotFilled : Option (List ℕ) → Option (List ℕ) → List ℕ → List ℕ → Type 0 → ReadStop → Type 0
NotFilled left0 left held0 held rose read_stop.AtEnd = Seen left0 left held0 [] × (held ≡ []) × IsAtEnd left
NotFilled left0 left held0 held rose read_stop.ReadFault = Seen left0 left held0 [] × rose
NotFilled left0 left held0 held rose read_stop.NoMemory = Unit {0}
