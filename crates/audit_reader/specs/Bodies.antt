-- Reading a body: a compact JSON value, and the comma after it.
use Rattle.std.specs.Prelude.{ℕ, List, take, drop, Option, Some, None}
use Rattle.event_members.specs.TextMembers.{after_word, skip_comma}
use Rattle.json_span.specs.Span.{place_reach, start}

-- a value and the comma after it
abbrev pub body_if : Option (List ℕ) → List ℕ → Option (Option (List ℕ) × List ℕ)
body_if None bytes = Some (None, bytes)
body_if (Some value) bytes = Some (Some (take (place_reach start value) value), skip_comma (drop (place_reach start value) value))

unfoldable pub body_if_at : List ℕ → List ℕ → Option (Option (List ℕ) × List ℕ)
body_if_at label bytes = body_if (after_word label bytes) bytes
