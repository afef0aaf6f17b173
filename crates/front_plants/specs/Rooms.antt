-- The room of notes.
use Rattle.truncate_backend.specs.Notes as notes
use Rattle.front_plants.specs.declared.parts.NotesRoom.{NotesRoom}

abbrev pub notes_room : NotesRoom → notes.NotesRoom
notes_room room = record { notes = room.notes; lines = room.lines; bytes = room.bytes }
