-- What notes keep of tries.
use Rattle.std.specs.Prelude.{◌+◌, ℕ, List, [], ◌∷◌, length, take, drop, Bool, nat_lt, nat_le, ◌&&◌}
use Rattle.front_base.specs.Line.{Line}
use Rattle.truncate_backend.specs.Tries.{Try, lines_of, bytes_of}
use Rattle.truncate_backend.specs.declared.tries.TryNote.{TryNote}

-- the tries of notes, whose lines stand one after another
abbrev pub tries_of : List TryNote → List Line → List Try
tries_of [] lines = []
tries_of (n ∷ ns) lines = record { lines = take n.lines lines; note = n } ∷ tries_of ns (drop n.lines lines)

-- how many lines the notes have in all
abbrev pub counts_of : List TryNote → ℕ
counts_of [] = 0
counts_of (n ∷ ns) = n.lines + counts_of ns

-- what was noted of each try
abbrev pub notes_of : List Try → List TryNote
notes_of [] = []
notes_of (t ∷ ts) = t.note ∷ notes_of ts

-- for how many notes, how many lines of all of them, and how many bytes of these there is room
pub record NotesRoom : Type 0 where
  pub notes : ℕ
  pub lines : ℕ
  pub bytes : ℕ

-- whether one more note, with these lines, fits there after these tries
abbrev pub room_for : NotesRoom → List Try → List Line → Bool
room_for room tries lines =
    nat_lt (length tries) room.notes
    && (nat_le (length (lines_of tries) + length lines) room.lines
    && nat_le (bytes_of (lines_of tries) + bytes_of lines) room.bytes)
