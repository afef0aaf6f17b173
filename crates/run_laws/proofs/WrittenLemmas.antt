-- Lines that were written.
use Rattle.std.proofs.Common.{◌≡◌, ◌≤◌, List, [], ◌∷◌, ◌++◌, length, length-append, refl, sym, ap, ◌∙◌, arith}
use Rattle.std.proofs.lemmas.List.Elements.{All-head, All-tail}
use Rattle.std.specs.Prelude.{All}
use Rattle.front_base.specs.Line.{Line}
use Rattle.truncate_backend.specs.Tries.{Try, lines_of, done_of, lines_done}
use Rattle.truncate_backend.specs.declared.tries.TryAnswer.{TryAnswer}
use Rattle.truncate_backend.specs.declared.tries.TryAnswer.TheVariants as answers

-- where each try was answered with Done, each line was written
pub all_done : (tries : List Try) → All (λ (t : Try). t.note.answer ≡ answers.Done) tries → done_of tries ≡ lines_of tries
all_done [] h = refl
all_done (t ∷ ts) h =
    ap (λ a. lines_done a t.lines ++ done_of ts) (All-head (λ (t : Try). t.note.answer ≡ answers.Done) t ts h)
    ∙ ap (λ l. t.lines ++ l) (all_done ts (All-tail (λ (t : Try). t.note.answer ≡ answers.Done) t ts h))

-- ---- where as many were written, each was

no_lines : (ls : List Line) → length ls ≡ 0 → [] ≡ ls
no_lines [] e = refl
no_lines (l ∷ ls) e = absurd (omega (arith, e))

done_few : (a : TryAnswer) (ls : List Line) → length (lines_done a ls) ≤ length ls
done_few answers.Done ls = omega arith
done_few answers.Port ls = omega arith
done_few (answers.Refused code) ls = omega arith
done_few answers.BadAnswer ls = omega arith

done_same : (a : TryAnswer) (ls : List Line) → length (lines_done a ls) ≡ length ls → lines_done a ls ≡ ls
done_same answers.Done ls e = refl
done_same answers.Port ls e = no_lines ls (sym e)
done_same (answers.Refused code) ls e = no_lines ls (sym e)
done_same answers.BadAnswer ls e = no_lines ls (sym e)

pub few : (tries : List Try) → length (done_of tries) ≤ length (lines_of tries)
few [] = omega arith
few (t ∷ ts) =
    omega (
      arith,
      length-append (lines_done t.note.answer t.lines) (done_of ts),
      length-append t.lines (lines_of ts),
      done_few t.note.answer t.lines,
      few ts,
    )

pub as_many : (tries : List Try) → length (done_of tries) ≡ length (lines_of tries) → done_of tries ≡ lines_of tries
as_many [] e = refl
as_many (t ∷ ts) e =
    let a = length-append (lines_done t.note.answer t.lines) (done_of ts) in
    let b = length-append t.lines (lines_of ts) in
    let own : length (lines_done t.note.answer t.lines) ≡ length t.lines =
    omega (arith, e, a, b, done_few t.note.answer t.lines, few ts) in
    let rest : length (done_of ts) ≡ length (lines_of ts) = omega (arith, e, a, b, done_few t.note.answer t.lines, few ts) in
    ap (λ l. l ++ done_of ts) (done_same t.note.answer t.lines own) ∙ ap (λ l. t.lines ++ l) (as_many ts rest)
