-- The text of a try: each of its lines and a line feed.
use Rattle.std.specs.Prelude.{◌≡◌, ℕ, List, [], ◌∷◌, ◌++◌, take, Option, Some, None, ⊤}
use Rattle.front_base.specs.Line.{Line}
use Rattle.truncate_backend.specs.Tries.{Try}

abbrev pub log_text : List Line → List ℕ
log_text [] = []
log_text (l ∷ ls) = l.bytes ++ 10 ∷ log_text ls

-- what tries one after another wrote: of the text of each, as many bytes as its note says
abbrev pub log_bytes : List Try → List ℕ
log_bytes [] = []
log_bytes (t ∷ ts) = take t.note.sent (log_text t.lines) ++ log_bytes ts

-- the bytes written are told. Where the tries are told too, those of the tries follow what was written before
abbrev pub Accounts : List ℕ → Option (List ℕ) → Option (List Try) → Type 0
Accounts before None tries = ⊥
Accounts before (Some written) None = ⊤
Accounts before (Some written) (Some tries) = written ≡ before ++ log_bytes tries
