-- The text of a try, line by line, and the bytes of tries one after another.
use Rattle.std.proofs.Common.{◌≡◌, ◌+◌, ◌≤◌, ◌<◌, ℕ, List, [], ◌∷◌, ◌++◌, length, take, drop, Option, Some, None, refl, sym, ap, ◌∙◌, subst, arith, append-nil, append_assoc, length-append, add-one, get_or}
use Rattle.std.proofs.Math.Seq.{take-suc}
use Rattle.std.proofs.lemmas.List.{take-append-drop, drop_all}
use Rattle.std.specs.Io.KnownBytes.{Appends}
use Rattle.front_base.specs.Line.{Line}
use Rattle.front_ports.specs.Told.{Grows}
use Rattle.truncate_backend.specs.Tries.{Try, lines_of, texts_of}
use Rattle.log_sink.specs.Texts.{log_text, log_bytes, Accounts}

pub log-append : (xs ys : List Line) → log_text (xs ++ ys) ≡ log_text xs ++ log_text ys
log-append [] ys = refl
log-append (x ∷ xs) ys =
    ap (λ z. x.bytes ++ 10 ∷ z) (log-append xs ys) ∙ sym (append_assoc x.bytes (10 ∷ log_text xs) (log_text ys))

-- the next line is added
pub log-next : (ls : List Line) (i : ℕ) (d : Line) → i < length ls → d ≡ get_or ls i d → log_text (take (i + 1) ls) ≡ log_text (take i ls) ++ (d.bytes ++ 10 ∷ [])
log-next ls i d h e =
    let t : take (i + 1) ls ≡ take i ls ++ d ∷ [] = rw (add-one, take-suc ls i d h, ← e) refl in
    ap log_text t ∙ log-append (take i ls) (d ∷ [])

pub log-length : (ls : List Line) (i : ℕ) (d : Line) → i < length ls → d ≡ get_or ls i d → length (log_text (take (i + 1) ls)) ≡ length (log_text (take i ls)) + length d.bytes + 1
log-length ls i d h e =
    let m = ap length (log-next ls i d h e) in
    let a = length-append (log_text (take i ls)) (d.bytes ++ 10 ∷ []) in
    let b = length-append d.bytes (10 ∷ []) in
    omega arith

-- the lines that come after it
pub log-split : (ls : List Line) (i : ℕ) (d : Line) → i < length ls → d ≡ get_or ls i d → (log_text (take i ls) ++ (d.bytes ++ 10 ∷ [])) ++ log_text (drop (i + 1) ls) ≡ log_text ls
log-split ls i d h e =
    ap (λ z. z ++ log_text (drop (i + 1) ls)) (sym (log-next ls i d h e))
    ∙ sym (log-append (take (i + 1) ls) (drop (i + 1) ls))
    ∙ ap log_text (take-append-drop (i + 1) ls)

bytes_append : (ts us : List Try) → log_bytes (ts ++ us) ≡ log_bytes ts ++ log_bytes us
bytes_append [] us = refl
bytes_append (t ∷ ts) us =
    let now = take t.note.sent (log_text t.lines) in
    ap (λ l. now ++ l) (bytes_append ts us) ∙ sym (append_assoc now (log_bytes ts) (log_bytes us))

-- one try more, and the bytes of it
pub accounts-more : (before : List ℕ) (w v : Option (List ℕ)) (ts us : Option (List Try)) (t : Try) → Appends w v (take t.note.sent (log_text t.lines)) → Grows ts us (t ∷ []) → Accounts before w ts → Accounts before v us
accounts-more before None v ts us t h k a = absurd a
accounts-more before (Some x) None ts us t h k a = absurd h
accounts-more before (Some x) (Some y) None us t h k a = subst (λ (z : Option (List Try)). Accounts before (Some y) z) (sym k) tt
accounts-more before (Some x) (Some y) (Some ts) None t h k a = tt
accounts-more before (Some x) (Some y) (Some ts) (Some us) t h k a =
    let now = take t.note.sent (log_text t.lines) in
    let b : log_bytes us ≡ log_bytes ts ++ now = ap log_bytes k ∙ bytes_append ts (t ∷ []) ∙ ap (λ z. log_bytes ts ++ z) (append-nil now) in
    h ∙ ap (λ z. z ++ now) a ∙ append_assoc before (log_bytes ts) now ∙ ap (λ z. before ++ z) (sym b)

-- there is no line more
pub log-all : (ls : List Line) (i : ℕ) → length ls ≤ i → log_text (take i ls) ≡ log_text ls
log-all ls i h =
    sym (append-nil (log_text (take i ls)))
    ∙ ap (λ z. log_text (take i ls) ++ log_text z) (sym (drop_all i ls h))
    ∙ sym (log-append (take i ls) (drop i ls))
    ∙ ap log_text (take-append-drop i ls)

-- the texts of tries are the text of all their lines
pub texts-of : (ts : List Try) → texts_of log_text ts ≡ log_text (lines_of ts)
texts-of [] = refl
texts-of (t ∷ ts) = ap (λ z. log_text t.lines ++ z) (texts-of ts) ∙ sym (log-append t.lines (lines_of ts))
