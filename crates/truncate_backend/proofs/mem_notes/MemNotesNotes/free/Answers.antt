use Rattle.std.proofs.Common.{sym, ◌∙◌}
use Rattle.truncate_backend.proofs.NoteLemmas.{room-is}
use Rattle.truncate_backend.proofs.mem_notes.MemNotesNotes.free.Goals as goal

pub returns : goal.returns
returns c =
    let s = c.args.self.now in
    c.fits.ensures ∙ sym (room-is s.most_notes s.notes.items s.copies c.args.lines.now s.counted)
