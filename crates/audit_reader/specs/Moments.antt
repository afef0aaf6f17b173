-- Reading a moment's member.
use Rattle.std.specs.Prelude.{ℕ, List, Option, Some, None}
use Rattle.event_members.specs.TextMembers.{◌>>=◌, after_word, string_at, skip_comma}
use Rattle.stamp_text.specs.Dates.{moment_of}

unfoldable pub micros_at : List ℕ → List ℕ → Option (ℕ × List ℕ)
micros_at label bytes = do
  value ← after_word label bytes
  text ← string_at value
  micros ← moment_of text.0
  Some (micros, skip_comma text.1)
