-- A text is put into a buffer, which is written as often as it is full.
use Rattle.std.specs.Prelude.{◌≡◌, ◌≤◌, ℕ, List, ◌++◌, length, take, Option, Result, Ok, Err}
use Rattle.std.specs.Io.KnownBytes.{Appends}

-- so many bytes of the text were written, and the buffer is the rest
pub record Buffered (old new : Option (List ℕ)) (text : List ℕ) (sent : ℕ) (buffer : List ℕ) : Type 0 where
  pub prefix : List ℕ
  pub written : Appends old new prefix
  pub rest : prefix ++ buffer ≡ text
  pub count : sent ≡ length prefix

-- so many bytes of the text were written, and no more will be
pub record Stopped (old new : Option (List ℕ)) (text : List ℕ) (sent : ℕ) : Type 0 where
  pub unwritten : List ℕ
  pub buffered : Buffered old new text sent unwritten

-- whatever text was put into the buffer before, this follows it
abbrev pub Follows : Option (List ℕ) → ℕ → List ℕ → List ℕ → Option (List ℕ) → ℕ → List ℕ → Type 0
Follows a sent buffer more b sent' buffer' =
    (old : Option (List ℕ)) (text : List ℕ) → Buffered old a text sent buffer → Buffered old b (text ++ more) sent' buffer'

-- whatever text was put into the buffer before, a write of it or of this failed
abbrev pub Stops : Option (List ℕ) → ℕ → List ℕ → List ℕ → Option (List ℕ) → ℕ → Type 0
Stops a sent buffer more b sent' =
    (old : Option (List ℕ)) (text : List ℕ) → Buffered old a text sent buffer → Stopped old b (text ++ more) sent'

-- all of a text was written, or a prefix of it, so many bytes long
abbrev pub Wrote : Option (List ℕ) → Option (List ℕ) → List ℕ → Result ℕ ℕ → Type 0
Wrote a b text (Ok sent) = (sent ≡ length text) × Appends a b (take sent text)
Wrote a b text (Err sent) = (sent ≤ length text) × Appends a b (take sent text)
