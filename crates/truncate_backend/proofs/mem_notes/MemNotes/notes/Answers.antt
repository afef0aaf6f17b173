use Rattle.std.proofs.Common.{sym, ◌∙◌}
use Rattle.truncate_backend.proofs.NoteLemmas.{notes-back}
use Rattle.truncate_backend.proofs.mem_notes.MemNotes.notes.Goals as goal

pub returns : goal.returns
returns c = c.as_slice.ensures.value ∙ sym (notes-back c.args.self.now.notes.items c.args.self.now.copies.lines)
