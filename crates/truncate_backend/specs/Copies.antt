-- Copies of lines, in room that was reserved.
use Rattle.std.specs.Prelude.{◌+◌, ℕ, List, [], ◌∷◌, length, take, drop, Bool, nat_le, ◌&&◌}
use Rattle.front_base.specs.Line.{Line}
use Rattle.truncate_backend.specs.Tries.{bytes_of}
use Rattle.truncate_backend.specs.declared.copies.Entry.{Entry}

-- what contracts see of copies: the lines, and the most lines and bytes of lines that have room
pub record Copies : Type 0 where
  pub lines : List Line
  pub most_lines : ℕ
  pub most_bytes : ℕ

-- the lines of entries, whose bytes stand one after another
abbrev pub lines_at : List Entry → List ℕ → List Line
lines_at [] bytes = []
lines_at (e ∷ es) bytes =
    record { bay = e.bay; number = e.number; bytes = take e.length bytes } ∷ lines_at es (drop e.length bytes)

-- how many bytes the entries have in all
abbrev pub lengths_of : List Entry → ℕ
lengths_of [] = 0
lengths_of (e ∷ es) = e.length + lengths_of es

-- whether there is room for copies of these too
abbrev pub copies_fit : Copies → List Line → Bool
copies_fit c lines =
    nat_le (length c.lines + length lines) c.most_lines
    && nat_le (bytes_of c.lines + bytes_of lines) c.most_bytes
