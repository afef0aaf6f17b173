-- What writing a text to a client does.
use Rattle.std.specs.Prelude.{ℕ, List, Option}
use Rattle.std.specs.Io.KnownBytes.{Appends}
use Rattle.exchange_replies.specs.declared.writing.Wrote.{Wrote}
use Rattle.exchange_replies.specs.declared.writing.Wrote.TheVariants.{Whole, Cut}
use Rattle.front_ports.specs.Written.{AppendsFront}

-- all of the text was written, or a prefix of it, where a write failed
abbrev pub Writes : Option (List ℕ) → Option (List ℕ) → List ℕ → Type 0 → Wrote → Type 0
Writes old new text rose Whole = Appends old new text
Writes old new text rose Cut = AppendsFront old new text × rose
