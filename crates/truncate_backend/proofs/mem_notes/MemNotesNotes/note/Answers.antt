use Rattle.std.proofs.Common.{length, arith, ap, sym, ◌∙◌, length-append, nat_lt}
use Rattle.std.proofs.lemmas.Bool.{ltb-true}
use Rattle.std.specs.Prelude.{Some}
use Rattle.truncate_backend.specs.Copies.{Copies}
use Rattle.truncate_backend.specs.Notes.{counts_of}
use Rattle.truncate_backend.proofs.CopyLemmas.{and_left, and_right}
use Rattle.truncate_backend.proofs.NoteLemmas.{counts_more, adds_one, reserved, room-is}
use Rattle.truncate_backend.proofs.mem_notes.MemNotesNotes.note.Goals as goal

pub copy_all-requires : goal.copy_all-requires
copy_all-requires c =
    let s = c.args.self.now in
    let f = sym (room-is s.most_notes s.notes.items s.copies c.args.lines.now s.counted) ∙ c.requires.free in
    and_right (nat_lt (length s.notes.items) s.most_notes) _ f

pub push_reserved-requires : goal.push_reserved-requires
push_reserved-requires c =
    let s = c.args.self.now in
    let b = s.reserved in
    let f = sym (room-is s.most_notes s.notes.items s.copies c.args.lines.now s.counted) ∙ c.requires.free in
    let r = ltb-true (length s.notes.items) s.most_notes (and_left _ _ f) in
    omega arith

pub invariant_of-self : goal.invariant_of-self
invariant_of-self c =
    let s = c.args.self.now in
    let a = s.counted in
    let b = s.reserved in
    let f = sym (room-is s.most_notes s.notes.items s.copies c.args.lines.now s.counted) ∙ c.requires.free in
    let r = ltb-true (length s.notes.items) s.most_notes (and_left _ _ f) in
    let m = counts_more s.notes.items c.args.note in
    let p = ap counts_of c.push_reserved.ensures.items in
    let l = ap (λ (k : Copies). length k.lines) c.copy_all.ensures in
    let n = length-append s.copies.lines c.args.lines.now in
    record { counted = omega (arith, c.requires.counted); within = omega arith; reserved = omega arith }

pub returns-clause-fixed : goal.returns-clause-fixed
returns-clause-fixed c =
    let most = c.args.self.now.most_notes in
    ap (λ (k : Copies). Some (reserved most k)) c.copy_all.ensures

pub returns-clause-noted : goal.returns-clause-noted
returns-clause-noted c =
    let s = c.args.self.now in
    adds_one s.notes.items c.push_reserved.new.self.items s.copies.lines c.copy_all.new.self.lines c.args.lines.now c.args.note s.counted c.requires.counted c.push_reserved.ensures.items (ap (λ (k : Copies). k.lines) c.copy_all.ensures)
