-- Notes one after another.
use Rattle.std.proofs.Common.{◌∙◌, ℕ, nat_lt, nat_le, ◌&&◌, ◌≡◌, ◌+◌, ◌≤◌, List, [], ◌∷◌, ◌++◌, length, take, drop, refl, sym, ap, arith, length-drop, Some, Option}
use Rattle.std.proofs.lemmas.List.{take-append-drop, take-append-le, drop-append-le, nil_from_length}
use Rattle.std.proofs.Math.Seq.{take-length}
use Rattle.front_base.specs.Line.{Line}
use Rattle.truncate_backend.specs.Tries.{Try, lines_of, bytes_of}
use Rattle.truncate_backend.specs.Copies.{Copies, copies_fit}
use Rattle.truncate_backend.specs.Notes.{NotesRoom, room_for, tries_of, counts_of, notes_of}
use Rattle.truncate_backend.specs.declared.tries.TryNote.{TryNote}

pub counts_more : (ns : List TryNote) (n : TryNote) → counts_of (ns ++ n ∷ []) ≡ counts_of ns + n.lines
counts_more [] n = omega arith
counts_more (k ∷ ns) n = let i = counts_more ns n in omega arith

abbrev pub noted : List Line → TryNote → Try
noted lines n = record { lines = lines; note = n }

pub tries_more : (ns : List TryNote) (ls xs : List Line) (n : TryNote) → counts_of ns ≡ length ls → n.lines ≡ length xs → tries_of (ns ++ n ∷ []) (ls ++ xs) ≡ tries_of ns ls ++ noted xs n ∷ []
tries_more [] ls xs n h e =
    let z = nil_from_length ls (sym h) in
    ap (λ (b : List Line). noted b n ∷ []) (rw z (rw e (take-length xs)))
tries_more (k ∷ ns) ls xs n h e =
    let f : k.lines + counts_of ns ≡ length ls = h in
    let l = length-drop k.lines ls in
    let i = tries_more ns (drop k.lines ls) xs n (omega arith) e in
    let le : k.lines ≤ length ls = omega arith in
    let t = take-append-le k.lines ls xs le in
    let d = drop-append-le k.lines ls xs le in
    let p : tries_of (ns ++ n ∷ []) (drop k.lines (ls ++ xs)) ≡ tries_of ns (drop k.lines ls) ++ noted xs n ∷ [] = rw d i in
    let q : noted (take k.lines (ls ++ xs)) k ≡ noted (take k.lines ls) k = ap (λ (b : List Line). noted b k) t in
    cc

pub adds_one : (ns ms : List TryNote) (ls ks xs : List Line) (n : TryNote) → counts_of ns ≡ length ls → n.lines ≡ length xs → ms ≡ ns ++ n ∷ [] → ks ≡ ls ++ xs → ◌≡◌ {A = Option (List Try)} (Some (tries_of ms ks)) (Some (tries_of ns ls ++ noted xs n ∷ []))
adds_one ns ms ls ks xs n h e a b = ap Some (rw (a, b) (tries_more ns ls xs n h e))

pub notes-back : (ns : List TryNote) (lines : List Line) → notes_of (tries_of ns lines) ≡ ns
notes-back [] lines = refl
notes-back (n ∷ ns) lines = ap (λ l. n ∷ l) (notes-back ns (drop n.lines lines))

tries_length : (ns : List TryNote) (lines : List Line) → length (tries_of ns lines) ≡ length ns
tries_length [] lines = refl
tries_length (n ∷ ns) lines = let i = tries_length ns (drop n.lines lines) in omega arith

tries_lines : (ns : List TryNote) (lines : List Line) → counts_of ns ≡ length lines → lines_of (tries_of ns lines) ≡ lines
tries_lines [] lines h = sym (nil_from_length lines (sym h))
tries_lines (n ∷ ns) lines h =
    let f : n.lines + counts_of ns ≡ length lines = h in
    let l = length-drop n.lines lines in
    ap (λ (z : List Line). take n.lines lines ++ z) (tries_lines ns (drop n.lines lines) (omega arith)) ∙ take-append-drop n.lines lines

abbrev pub reserved : ℕ → Copies → NotesRoom
reserved most c = record { notes = most; lines = c.most_lines; bytes = c.most_bytes }

-- the room for one more note, by the lines that were copied
pub room-is : (most : ℕ) (ns : List TryNote) (c : Copies) (lines : List Line) → counts_of ns ≡ length c.lines →
    room_for (record { notes = most; lines = c.most_lines; bytes = c.most_bytes }) (tries_of ns c.lines) lines ≡ (nat_lt (length ns) most && copies_fit c lines)
room-is most ns c lines h =
    let t = tries_of ns c.lines in
    ap (λ (k : ℕ). nat_lt k most && (nat_le (length (lines_of t) + length lines) c.most_lines && nat_le (bytes_of (lines_of t) + bytes_of lines) c.most_bytes)) (tries_length ns c.lines)
    ∙ ap (λ (z : List Line). nat_lt (length ns) most && (nat_le (length z + length lines) c.most_lines && nat_le (bytes_of z + bytes_of lines) c.most_bytes)) (tries_lines ns c.lines h)
