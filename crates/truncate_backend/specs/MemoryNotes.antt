-- What notes in memory tell.
use Rattle.std.specs.Prelude.{List, Bool}
use Rattle.front_base.specs.Line.{Line}
use Rattle.truncate_backend.specs.Notes.{NotesRoom, room_for, tries_of}
use Rattle.truncate_backend.specs.Tries.{Try}
use Rattle.truncate_backend.specs.declared.mem_notes.MemNotes.{MemNotes}

-- the tries that were noted
abbrev pub noted_tries : MemNotes → List Try
noted_tries n = tries_of n.notes.items n.copies.lines

-- what was reserved
abbrev pub noted_room : MemNotes → NotesRoom
noted_room n = record { notes = n.most_notes; lines = n.copies.most_lines; bytes = n.copies.most_bytes }

-- whether one more note with these lines fits
abbrev pub notes_fit : MemNotes → List Line → Bool
notes_fit n lines = room_for (noted_room n) (noted_tries n) lines
