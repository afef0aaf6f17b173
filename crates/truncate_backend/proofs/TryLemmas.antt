-- Lines and tries one after another.
use Rattle.std.proofs.Common.{◌≡◌, ◌+◌, ◌≤◌, ◌<◌, ℕ, List, [], ◌∷◌, ◌++◌, length, Option, Some, None, Err, refl, sym, ap, ◌∙◌, append_assoc, append-nil, length-append, subst, arith}
use Rattle.front_base.specs.Line.{Line}
use Rattle.front_ports.specs.Told.{Grows}
use Rattle.truncate_backend.specs.Told.{Joined}
use Rattle.truncate_backend.specs.Tries.{Try, try_of, answer_of, lines_of, lines_done, done_of, bytes_of, is_port, is_refusal, faults_in, refusals_in}
use Rattle.truncate_backend.specs.declared.tries.SinkFault.{SinkFault}
use Rattle.truncate_backend.specs.declared.tries.SinkFault.TheVariants as faults
use Rattle.truncate_backend.specs.declared.tries.TryAnswer.{TryAnswer}
use Rattle.truncate_backend.specs.declared.tries.TryAnswer.TheVariants as answers

pub lines-append : (ts us : List Try) → lines_of (ts ++ us) ≡ lines_of ts ++ lines_of us
lines-append [] us = refl
lines-append (t ∷ ts) us =
    ap (λ l. t.lines ++ l) (lines-append ts us) ∙ sym (append_assoc t.lines (lines_of ts) (lines_of us))

pub done-append : (ts us : List Try) → done_of (ts ++ us) ≡ done_of ts ++ done_of us
done-append [] us = refl
done-append (t ∷ ts) us =
    let now = lines_done t.note.answer t.lines in
    ap (λ l. now ++ l) (done-append ts us) ∙ sym (append_assoc now (done_of ts) (done_of us))

pub bytes-append : (xs ys : List Line) → bytes_of (xs ++ ys) ≡ bytes_of xs + bytes_of ys
bytes-append [] ys = omega arith
bytes-append (x ∷ xs) ys = let i = bytes-append xs ys in omega arith

done_fewer : (answer : TryAnswer) (lines : List Line) → length (lines_done answer lines) ≤ length lines
done_fewer answers.Done lines = omega arith
done_fewer answers.Port lines = omega arith
done_fewer (answers.Refused code) lines = omega arith
done_fewer answers.BadAnswer lines = omega arith

pub done-fewer : (ts : List Try) → length (done_of ts) ≤ length (lines_of ts)
done-fewer [] = omega arith
done-fewer (t ∷ ts) =
    let i = done-fewer ts in
    let n = done_fewer t.note.answer t.lines in
    let a = length-append (lines_done t.note.answer t.lines) (done_of ts) in
    let b = length-append t.lines (lines_of ts) in
    omega arith

-- ---- the tries that ended by a fault or a refusal

pub faults-append : (ts us : List Try) → faults_in (ts ++ us) ≡ faults_in ts + faults_in us
faults-append [] us = omega arith
faults-append (t ∷ ts) us = let i = faults-append ts us in omega arith

pub refusals-append : (ts us : List Try) → refusals_in (ts ++ us) ≡ refusals_in ts + refusals_in us
refusals-append [] us = omega arith
refusals-append (t ∷ ts) us = let i = refusals-append ts us in omega arith

one_cause : (answer : TryAnswer) (lines rest done : List Line) (faults refusals : ℕ)
    → (length done < length rest → 0 < faults + refusals) → length (lines_done answer lines ++ done) < length (lines ++ rest)
    → 0 < (is_port answer + faults) + (is_refusal answer + refusals)
one_cause answers.Done lines rest done faults refusals h lt =
    let a = length-append lines done in
    let b = length-append lines rest in
    let c = h (omega (arith, a, b, lt)) in
    omega (arith, c)
one_cause answers.Port lines rest done faults refusals h lt = omega arith
one_cause (answers.Refused code) lines rest done faults refusals h lt = omega arith
one_cause answers.BadAnswer lines rest done faults refusals h lt = omega arith

pub unwritten-cause : (ts : List Try) → length (done_of ts) < length (lines_of ts) → 0 < faults_in ts + refusals_in ts
unwritten-cause [] lt = absurd (omega (arith, lt))
unwritten-cause (t ∷ ts) lt =
    one_cause t.note.answer t.lines (lines_of ts) (done_of ts) (faults_in ts) (refusals_in ts) (unwritten-cause ts) lt

pub none-done : (fault : SinkFault) (lines : List Line) → lines_done (answer_of (Err fault)) lines ≡ []
none-done faults.Port lines = refl
none-done (faults.Refused code) lines = refl
none-done faults.BadAnswer lines = refl

pub one-lines : (lines : List Line) (sent : ℕ) (answer : TryAnswer) → lines_of (try_of lines sent answer ∷ []) ≡ lines
one-lines lines sent answer = append-nil lines

pub one-lost : (lines : List Line) (sent : ℕ) (fault : SinkFault) → done_of (try_of lines sent (answer_of (Err fault)) ∷ []) ≡ []
one-lost lines sent fault = append-nil (lines_done (answer_of (Err fault)) lines) ∙ none-done fault lines

grown_twice : {T : Type 0} → (a b c : Option (List T)) (xs ys : List T) → Grows a b xs → Grows b c ys → Grows a c (xs ++ ys)
grown_twice None b c xs ys h k = subst (λ (z : Option (List _)). Grows z c ys) h k
grown_twice (Some zs) None c xs ys h k = subst (λ (z : Option (List _)). Grows (Some zs) z (xs ++ ys)) (sym k) tt
grown_twice (Some zs) (Some ws) None xs ys h k = tt
grown_twice (Some zs) (Some ws) (Some vs) xs ys h k =
    k ∙ ap (λ z. z ++ ys) h ∙ append_assoc zs xs ys

pub joined-twice : {T : Type 0} → (a b c : Option (List T)) (xs ys : List T) → Joined a xs b → Joined b ys c → Joined a (xs ++ ys) c
joined-twice a b c xs ys h k = record { grows = grown_twice a b c xs ys h.grows k.grows }
