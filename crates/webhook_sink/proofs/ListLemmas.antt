-- The text of a list of lines, line by line, and its length.
use Rattle.std.proofs.Common.{◌≡◌, ◌+◌, ◌-◌, ◌≤◌, ◌<◌, ℕ, List, [], ◌∷◌, ◌++◌, length, take, drop, refl, sym, ap, ◌∙◌, arith, append-nil, append_assoc, length-append, add-one, get_or, ◌==◌, false}
use Rattle.std.proofs.Math.Seq.{take-suc}
use Rattle.std.proofs.lemmas.List.{take-append-drop, length-take-le, take_all}
use Rattle.std.proofs.lemmas.Bool.Decides.{nat_tests}
use Rattle.front_base.specs.Line.{Line}
use Rattle.truncate_backend.specs.Tries.{bytes_of}
use Rattle.webhook_sink.specs.Lists.{separator, more_lines, lines_text, list_text, list_head, list_tail}

more_snoc : (xs : List Line) (d : Line) → more_lines (xs ++ d ∷ []) ≡ more_lines xs ++ (44 ∷ d.bytes)
more_snoc [] d = ap (λ z. 44 ∷ z) (append-nil d.bytes)
more_snoc (x ∷ xs) d =
    ap (λ z. 44 ∷ (x.bytes ++ z)) (more_snoc xs d) ∙ ap (λ z. 44 ∷ z) (sym (append_assoc x.bytes (more_lines xs) (44 ∷ d.bytes)))

separator_later : (n : ℕ) → 0 < n → separator n ≡ 44 ∷ []
separator_later n h =
    let e : (n == 0) ≡ false = grind (arith, nat_tests) in
    rw e refl

lines_snoc : (xs : List Line) (d : Line) → lines_text (xs ++ d ∷ []) ≡ lines_text xs ++ (separator (length xs) ++ d.bytes)
lines_snoc [] d = append-nil d.bytes
lines_snoc (x ∷ xs) d =
    ap (λ z. x.bytes ++ z) (more_snoc xs d) ∙ sym (append_assoc x.bytes (more_lines xs) (44 ∷ d.bytes))
    ∙ ap (λ z. (x.bytes ++ more_lines xs) ++ (z ++ d.bytes)) (sym (separator_later (length (x ∷ xs)) (omega arith)))

one_more : (ls : List Line) (i : ℕ) (d : Line) → i < length ls → d ≡ get_or ls i d → take (i + 1) ls ≡ take i ls ++ d ∷ []
one_more ls i d h e = rw (add-one, take-suc ls i d h, ← e) refl

-- the next line is added
pub lines-next : (ls : List Line) (i : ℕ) (d : Line) → i < length ls → d ≡ get_or ls i d → lines_text (take (i + 1) ls) ≡ lines_text (take i ls) ++ (separator i ++ d.bytes)
lines-next ls i d h e =
    let size : length (take i ls) ≡ i = length-take-le i ls (omega (arith, h)) in
    ap lines_text (one_more ls i d h e) ∙ lines_snoc (take i ls) d
    ∙ ap (λ n. lines_text (take i ls) ++ (separator n ++ d.bytes)) size

bytes_snoc : (xs : List Line) (d : Line) → bytes_of (xs ++ d ∷ []) ≡ bytes_of xs + length d.bytes
bytes_snoc [] d = omega arith
bytes_snoc (x ∷ xs) d = let ih = bytes_snoc xs d in omega (arith, ih)

pub bytes-next : (ls : List Line) (i : ℕ) (d : Line) → i < length ls → d ≡ get_or ls i d → bytes_of (take (i + 1) ls) ≡ bytes_of (take i ls) + length d.bytes
bytes-next ls i d h e = ap bytes_of (one_more ls i d h e) ∙ bytes_snoc (take i ls) d

more_length : (xs : List Line) → length (more_lines xs) ≡ bytes_of xs + length xs
more_length [] = refl
more_length (x ∷ xs) = let ih = more_length xs in let l = length-append x.bytes (more_lines xs) in omega (arith, ih, l)

lines_length : (ls : List Line) → length (lines_text ls) ≡ bytes_of ls + (length ls - 1)
lines_length [] = refl
lines_length (x ∷ xs) = let m = more_length xs in let l = length-append x.bytes (more_lines xs) in omega (arith, m, l)

head_length : length list_head ≡ 74
unfolding list_head
head_length = refl

tail_length : length list_tail ≡ 2
unfolding list_tail
tail_length = refl

pub list-length : (ls : List Line) → length (list_text ls) ≡ 76 + bytes_of ls + (length ls - 1)
list-length ls =
    let a = length-append list_head (lines_text ls ++ list_tail) in
    let b = length-append (lines_text ls) list_tail in
    let l = lines_length ls in
    let h = head_length in
    let t = tail_length in
    omega (arith, a, b, l, h, t)

-- there is no line more
pub bytes-all : (ls : List Line) (i : ℕ) → length ls ≤ i → bytes_of (take i ls) ≡ bytes_of ls
bytes-all ls i h = ap bytes_of (take_all i ls h)

more_append : (xs ys : List Line) → more_lines (xs ++ ys) ≡ more_lines xs ++ more_lines ys
more_append [] ys = refl
more_append (x ∷ xs) ys =
    ap (λ z. 44 ∷ (x.bytes ++ z)) (more_append xs ys) ∙ ap (λ z. 44 ∷ z) (sym (append_assoc x.bytes (more_lines xs) (more_lines ys)))

-- the first lines are a prefix of the text
lines_prefix : (xs ys : List Line) → (more : List ℕ) × (lines_text xs ++ more ≡ lines_text (xs ++ ys))
lines_prefix [] ys = (lines_text ys, refl)
lines_prefix (x ∷ xs) ys =
    (more_lines ys, append_assoc x.bytes (more_lines xs) (more_lines ys) ∙ ap (λ z. x.bytes ++ z) (sym (more_append xs ys)))

pub lines-rest : (ls : List Line) (i : ℕ) → (more : List ℕ) × (lines_text (take i ls) ++ more ≡ lines_text ls)
lines-rest ls i =
    let p = lines_prefix (take i ls) (drop i ls) in (p.0, p.1 ∙ ap lines_text (take-append-drop i ls))

pub lines-all : (ls : List Line) (i : ℕ) → length ls ≤ i → lines_text (take i ls) ≡ lines_text ls
lines-all ls i h = ap lines_text (take_all i ls h)
