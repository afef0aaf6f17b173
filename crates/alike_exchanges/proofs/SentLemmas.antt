-- What tries sent is told by their lines, joined, and by how they were cut.
use Rattle.std.proofs.Common.{◌≡◌, ◌≤◌, ℕ, List, [], ◌∷◌, ◌++◌, length, take, Option, Some, None, All, refl, ap, ap₂, sym, ◌∙◌, arith}
use Rattle.std.proofs.Math.Seq.{take-length}
use Rattle.std.proofs.lemmas.List.Elements.{recursion_from_All}
use Rattle.std.specs.List.{AllByRecursion}
use Rattle.alike_exchanges.specs.Cuts.{Cut, break_at, break_of, breaks, counts, cut_of, cuts, lines_each}
use Rattle.front_base.specs.Line.{Line}
use Rattle.truncate_backend.specs.Tries.{IsNoted, IsSingle, SentFor, Try, lines_of, sent_bytes}
use Rattle.truncate_backend.specs.declared.tries.TryAnswer.{TryAnswer}
use Rattle.truncate_backend.specs.declared.tries.TryAnswer.TheVariants as answers

split_first : (xs bs cs ds : List Line) → length xs ≡ length cs → xs ++ bs ≡ cs ++ ds → xs ≡ cs
split_first [] bs [] ds n e = refl
split_first [] bs (c ∷ cs) ds n e = absurd (omega arith)
split_first (a ∷ xs) bs [] ds n e = absurd (omega arith)
split_first (a ∷ xs) bs (c ∷ cs) ds n e =
    let m : length xs ≡ length cs = omega arith in
    let f : xs ++ bs ≡ cs ++ ds = cc in
    let here : a ≡ c = cc in
    let there : xs ≡ cs = split_first xs bs cs ds m f in
    cc

split_rest : (xs bs cs ds : List Line) → length xs ≡ length cs → xs ++ bs ≡ cs ++ ds → bs ≡ ds
split_rest [] bs [] ds n e = e
split_rest [] bs (c ∷ cs) ds n e = absurd (omega arith)
split_rest (a ∷ xs) bs [] ds n e = absurd (omega arith)
split_rest (a ∷ xs) bs (c ∷ cs) ds n e =
    let m : length xs ≡ length cs = omega arith in
    let f : xs ++ bs ≡ cs ++ ds = cc in
    split_rest xs bs cs ds m f

-- ---- what was sent of a text

-- all of it, or the bytes before the break
up_to : Option ℕ → List ℕ → List ℕ
up_to None text = text
up_to (Some sent) text = take sent text

all_sent : (sent : ℕ) (text : List ℕ) → sent ≡ length text → take sent text ≡ text
all_sent sent text e = ap (λ n. take n text) e ∙ take-length text

sent_up_to : (answer : TryAnswer) (sent : ℕ) (text : List ℕ) → SentFor answer sent (length text) → take sent text ≡ up_to (break_at answer sent) text
unfolding up_to
sent_up_to answers.Port sent text h = refl
sent_up_to answers.Done sent text h = all_sent sent text h
sent_up_to (answers.Refused code) sent text h = all_sent sent text h
sent_up_to answers.BadAnswer sent text h = all_sent sent text h

sent_by_cuts : (text : List Line → List ℕ) (ts us : List Try) → AllByRecursion (IsNoted text) ts → AllByRecursion (IsNoted text) us
    → cuts ts ≡ cuts us → lines_of ts ≡ lines_of us → sent_bytes text ts ≡ sent_bytes text us
sent_by_cuts text [] [] p q c e = refl
sent_by_cuts text [] (u ∷ us) p q c e = absurd cc
sent_by_cuts text (t ∷ ts) [] p q c e = absurd cc
sent_by_cuts text (t ∷ ts) (u ∷ us) p q c e =
    let first : cut_of t ≡ cut_of u = cc in
    let n : length t.lines ≡ length u.lines = ap (λ (c : Cut). c.lines) first in
    let b : break_of t ≡ break_of u = ap (λ (c : Cut). c.break) first in
    let more : cuts ts ≡ cuts us = cc in
    let own : t.lines ≡ u.lines = split_first t.lines (lines_of ts) u.lines (lines_of us) n e in
    let rest : lines_of ts ≡ lines_of us = split_rest t.lines (lines_of ts) u.lines (lines_of us) n e in
    ap₂ (λ here there. here ++ there)
    (sent_up_to t.note.answer t.note.sent (text t.lines) p.0.sent
    ∙ (ap₂ (λ at ls. up_to at (text ls)) b own ∙ sym (sent_up_to u.note.answer u.note.sent (text u.lines) q.0.sent)))
    (sent_by_cuts text ts us p.1 q.1 more rest)

pub same_sent : (text : List Line → List ℕ) (ts us : List Try) → All (IsNoted text) ts → All (IsNoted text) us
    → cuts ts ≡ cuts us → lines_of ts ≡ lines_of us → sent_bytes text ts ≡ sent_bytes text us
same_sent text ts us p q = sent_by_cuts text ts us (recursion_from_All (IsNoted text) ts p) (recursion_from_All (IsNoted text) us q)

-- ---- the lines of each

pub same_each : (ts us : List Try) → counts ts ≡ counts us → lines_of ts ≡ lines_of us → lines_each ts ≡ lines_each us
same_each [] [] c e = refl
same_each [] (u ∷ us) c e = absurd cc
same_each (t ∷ ts) [] c e = absurd cc
same_each (t ∷ ts) (u ∷ us) c e =
    let n : length t.lines ≡ length u.lines = cc in
    let more : counts ts ≡ counts us = cc in
    ap₂ (λ (own : List Line) rest. own ∷ rest) (split_first t.lines (lines_of ts) u.lines (lines_of us) n e)
    (same_each ts us more (split_rest t.lines (lines_of ts) u.lines (lines_of us) n e))

cut_by : ℕ → Option ℕ → Cut
cut_by lines break = record { lines = lines; break = break }

singles_cut : (ts us : List Try) → AllByRecursion IsSingle ts → AllByRecursion IsSingle us → breaks ts ≡ breaks us → cuts ts ≡ cuts us
unfolding cut_by
singles_cut [] [] p q c = refl
singles_cut [] (u ∷ us) p q c = absurd cc
singles_cut (t ∷ ts) [] p q c = absurd cc
singles_cut (t ∷ ts) (u ∷ us) p q c =
    let b : break_of t ≡ break_of u = cc in
    let more : breaks ts ≡ breaks us = cc in
    ap₂ (λ (own : Cut) rest. own ∷ rest) (ap₂ cut_by (p.0 ∙ sym q.0) b) (singles_cut ts us p.1 q.1 more)

pub same_cuts : (ts us : List Try) → All IsSingle ts → All IsSingle us → breaks ts ≡ breaks us → cuts ts ≡ cuts us
same_cuts ts us p q = singles_cut ts us (recursion_from_All IsSingle ts p) (recursion_from_All IsSingle us q)
