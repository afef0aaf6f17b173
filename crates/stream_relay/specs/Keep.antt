-- What a keep shows of the bytes of a body.
use Rattle.std.specs.Prelude.{◌≡◌, ℕ, ◌^◌, ◌-◌, min, Bool, ◌&&◌, nat_le, if◌then◌else◌, List, ◌++◌, length, Option, None, Some, option_map}
use Rattle.stream_relay.specs.declared.keep.Keep.{Keep}
use Rattle.stream_relay.specs.declared.keep.TheConstants.{MOST_KEPT_BYTES}

-- how many bytes came
abbrev pub total_of : Keep → ℕ
total_of keep = keep.total

-- the bytes, where they are kept
abbrev pub body_of : Keep → Option (List ℕ)
body_of keep = option_map (λ bytes. bytes.items) keep.bytes

-- a body's bytes are kept where they are asked for and few enough
abbrev pub kept : Bool → List ℕ → Option (List ℕ)
kept asked body = if asked && nat_le (length body) MOST_KEPT_BYTES then Some body else None

-- these are the bytes that came
pub record Keeps (asked : Bool) (body : List ℕ) (keep : Keep) : Type 0 where
  pub total : total_of keep ≡ min (length body) (2 ^ 64 - 1)
  pub shown : body_of keep ≡ kept asked body

-- these came after all others
pub record KeepsMore (old new : Keep) (more : List ℕ) : Type 0 where
  pub each : (asked : Bool) (body : List ℕ) → Keeps asked body old → Keeps asked (body ++ more) new
