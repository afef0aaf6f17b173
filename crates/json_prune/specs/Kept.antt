-- What an event records of a body.
use Rattle.std.specs.Prelude.{◌≡◌, ℕ, Bool, List, if◌then◌else◌}
use Rattle.json_span.specs.Value.{Value, StandsFor, flat}
use Rattle.json_prune.specs.Prune.{Path, prune, managed}
use Rattle.json_prune.specs.Mend.{mended}

-- the text is the body's tokens joined, but for what is at the path
abbrev pub LeavesOut : Path → List ℕ → List ℕ → Type 0
LeavesOut path text body = (v : Value) × StandsFor body v × (text ≡ flat (prune path v))

-- the same without managed fields, where they are omitted
abbrev pub LeavesManaged : Bool → List ℕ → List ℕ → Type 0
LeavesManaged omit text body = (v : Value) × StandsFor body v × (text ≡ flat (if omit then managed v else v))

-- the value without managed fields, where they are omitted, and with halves of surrogate pairs mended
abbrev pub kept : Bool → Value → Value
kept omit v = mended (if omit then managed v else v)

-- the text is the tokens of what is kept of the body's value
abbrev pub Keeps : Bool → List ℕ → List ℕ → Type 0
Keeps omit text body = (v : Value) × StandsFor body v × (text ≡ flat (kept omit v))
