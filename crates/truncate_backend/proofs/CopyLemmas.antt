-- Copies of lines one after another.
use Rattle.std.proofs.lemmas.Bool.{leb-true, le-leb, and_from}
use Rattle.std.proofs.Common.{subst, append_assoc, length-append, ◌&&◌, nat_le, add-one, drop-cons, ◌≡◌, ◌+◌, ◌<◌, ◌≤◌, ℕ, List, [], ◌∷◌, ◌++◌, length, take, drop, Bool, true, false, refl, sym, ap, ◌∙◌, arith, get_or, length-drop}
use Rattle.std.proofs.lemmas.List.{drop_all, length-take, take-append-le, drop-append-le, nil_from_length}
use Rattle.std.proofs.Math.Seq.{take-length, take-suc}
use Rattle.front_base.specs.Line.{Line}
use Rattle.truncate_backend.specs.Tries.{bytes_of}
use Rattle.truncate_backend.proofs.TryLemmas.{bytes-append}
use Rattle.truncate_backend.specs.Copies.{Copies, lines_at, lengths_of, copies_fit}
use Rattle.truncate_backend.specs.declared.copies.Entry.{Entry}

pub length_at : (ms : List Entry) (bs : List ℕ) → length (lines_at ms bs) ≡ length ms
length_at [] bs = refl
length_at (m ∷ ms) bs = let i = length_at ms (drop m.length bs) in omega arith

rest_fits : (m : Entry) (ms : List Entry) (bs : List ℕ) → lengths_of (m ∷ ms) ≡ length bs → lengths_of ms ≡ length (drop m.length bs)
rest_fits m ms bs h = let d = length-drop m.length bs in let e : m.length + lengths_of ms ≡ length bs = h in omega arith

pub bytes_at : (ms : List Entry) (bs : List ℕ) → lengths_of ms ≡ length bs → bytes_of (lines_at ms bs) ≡ length bs
bytes_at [] bs h = h
bytes_at (m ∷ ms) bs h =
    let i = bytes_at ms (drop m.length bs) (rest_fits m ms bs h) in
    let t = length-take m.length bs in
    let d = length-drop m.length bs in
    let e : m.length + lengths_of ms ≡ length bs = h in
    omega arith

pub lengths_more : (ms : List Entry) (m : Entry) → lengths_of (ms ++ m ∷ []) ≡ lengths_of ms + m.length
lengths_more [] m = omega arith
lengths_more (k ∷ ms) m = let i = lengths_more ms m in omega arith

abbrev line_of : Entry → List ℕ → Line
line_of m bytes = record { bay = m.bay; number = m.number; bytes = bytes }

pub lines_at_more : (ms : List Entry) (bs xs : List ℕ) (m : Entry) → lengths_of ms ≡ length bs → m.length ≡ length xs → lines_at (ms ++ m ∷ []) (bs ++ xs) ≡ lines_at ms bs ++ line_of m xs ∷ []
lines_at_more [] bs xs m h e =
    let n = nil_from_length bs (sym h) in
    ap (λ (b : List ℕ). line_of m b ∷ []) (rw n (rw e (take-length xs)))
lines_at_more (k ∷ ms) bs xs m h e =
    let i = lines_at_more ms (drop k.length bs) xs m (rest_fits k ms bs h) e in
    let f : k.length + lengths_of ms ≡ length bs = h in
    let le : k.length ≤ length bs = omega arith in
    let t = take-append-le k.length bs xs le in
    let d = drop-append-le k.length bs xs le in
    let p : lines_at (ms ++ m ∷ []) (drop k.length (bs ++ xs)) ≡ lines_at ms (drop k.length bs) ++ line_of m xs ∷ [] = rw d i in
    let q : line_of k (take k.length (bs ++ xs)) ≡ line_of k (take k.length bs) = ap (line_of k) t in
    cc

pub and_left : (a b : Bool) → (a && b) ≡ true → a ≡ true
and_left true b h = refl
and_left false b h = h

pub and_right : (a b : Bool) → (a && b) ≡ true → b ≡ true
and_right true b h = h
and_right false b h = cc

-- what room there is, where copies fit
pub room_for : (ms : List Entry) (bs : List ℕ) (most_lines most_bytes : ℕ) (lines : List Line) → lengths_of ms ≡ length bs → copies_fit (record { lines = lines_at ms bs; most_lines = most_lines; most_bytes = most_bytes }) lines ≡ true → (length ms + length lines ≤ most_lines) × (length bs + bytes_of lines ≤ most_bytes)
room_for ms bs ml mb lines s h =
    let a = leb-true (length (lines_at ms bs) + length lines) ml (and_left _ _ h) in
    let b = leb-true (bytes_of (lines_at ms bs) + bytes_of lines) mb (and_right (nat_le (length (lines_at ms bs) + length lines) ml) _ h) in
    let x = length_at ms bs in
    let y = bytes_at ms bs s in
    (omega arith, omega arith)

pub fit_from : (ms : List Entry) (bs : List ℕ) (most_lines most_bytes : ℕ) (lines : List Line) → lengths_of ms ≡ length bs → length ms + length lines ≤ most_lines → length bs + bytes_of lines ≤ most_bytes → copies_fit (record { lines = lines_at ms bs; most_lines = most_lines; most_bytes = most_bytes }) lines ≡ true
fit_from ms bs ml mb lines s h k =
    let x = length_at ms bs in
    let y = bytes_at ms bs s in
    and_from _ _ (le-leb (length (lines_at ms bs) + length lines) ml (omega arith)) (le-leb (bytes_of (lines_at ms bs) + bytes_of lines) mb (omega arith))

is_false : (b : Bool) → (b ≡ true → ⊥) → b ≡ false
is_false true h = absurd (h refl)
is_false false h = refl

pub no_fit_lines : (ms : List Entry) (bs : List ℕ) (most_lines most_bytes : ℕ) (lines : List Line) → lengths_of ms ≡ length bs → most_lines < length ms + length lines → copies_fit (record { lines = lines_at ms bs; most_lines = most_lines; most_bytes = most_bytes }) lines ≡ false
no_fit_lines ms bs ml mb lines s h = is_false _ (λ f. let r = room_for ms bs ml mb lines s f in let a = r.0 in omega arith)

pub no_fit_bytes : (ms : List Entry) (bs : List ℕ) (most_lines most_bytes : ℕ) (lines : List Line) → lengths_of ms ≡ length bs → most_bytes < length bs + bytes_of lines → copies_fit (record { lines = lines_at ms bs; most_lines = most_lines; most_bytes = most_bytes }) lines ≡ false
no_fit_bytes ms bs ml mb lines s h = is_false _ (λ f. let r = room_for ms bs ml mb lines s f in let a = r.1 in omega arith)

pub bytes_front : (ls : List Line) (i : ℕ) (d : Line) → i < length ls → bytes_of (drop i ls) ≡ length (get_or ls i d).bytes + bytes_of (drop (i + 1) ls)
bytes_front ls i d h = rw (add-one, drop-cons ls i d h) refl

-- the next line of those that are left, where `n` is its length
pub bytes_next : (ls : List Line) (i : ℕ) (d : Line) (n : ℕ) → i < length ls → d ≡ get_or ls i d → n ≡ length d.bytes → bytes_of (drop i ls) ≡ n + bytes_of (drop (i + 1) ls)
bytes_next ls i d n h e f = let k = bytes_front ls i d h in let a = ap (λ (l : Line). length l.bytes) e in omega arith

pub bytes_end : (ls : List Line) (i : ℕ) → length ls ≤ i → bytes_of (drop i ls) ≡ 0
bytes_end ls i h = ap bytes_of (drop_all i ls h)

-- the same copies, and one line more
pub one_more : (ms ns : List Entry) (bs cs xs : List ℕ) (m : Entry) (old : Copies) (x : Line) (most_lines most_bytes : ℕ) → record { lines = lines_at ms bs; most_lines = most_lines; most_bytes = most_bytes } ≡ old → lengths_of ms ≡ length bs → m.length ≡ length xs → record { bay = m.bay; number = m.number; bytes = xs } ≡ x → ns ≡ ms ++ m ∷ [] → cs ≡ bs ++ xs
    → ◌≡◌ {A = Copies} (record { lines = lines_at ns cs; most_lines = most_lines; most_bytes = most_bytes }) (record { lines = old.lines ++ x ∷ []; most_lines = old.most_lines; most_bytes = old.most_bytes })
one_more ms ns bs cs xs m old x ml mb e s n f a b =
    let p = lines_at_more ms bs xs m s n in
    let q : lines_at ns cs ≡ lines_at ms bs ++ line_of m xs ∷ [] = rw (a, b) p in
    let o : ◌≡◌ {A = Copies} (record { lines = lines_at ns cs; most_lines = ml; most_bytes = mb }) (record { lines = lines_at ms bs ++ line_of m xs ∷ []; most_lines = ml; most_bytes = mb }) = ap (λ (l : List Line). record { lines = l; most_lines = ml; most_bytes = mb }) q in
    let g : ◌≡◌ {A = Copies} (record { lines = lines_at ms bs ++ line_of m xs ∷ []; most_lines = ml; most_bytes = mb }) (record { lines = old.lines ++ line_of m xs ∷ []; most_lines = old.most_lines; most_bytes = old.most_bytes }) = ap (λ (k : Copies). record { lines = k.lines ++ line_of m xs ∷ []; most_lines = k.most_lines; most_bytes = k.most_bytes }) e in
    let h : ◌≡◌ {A = Copies} (record { lines = old.lines ++ line_of m xs ∷ []; most_lines = old.most_lines; most_bytes = old.most_bytes }) (record { lines = old.lines ++ x ∷ []; most_lines = old.most_lines; most_bytes = old.most_bytes }) = ap (λ (y : Line). record { lines = old.lines ++ y ∷ []; most_lines = old.most_lines; most_bytes = old.most_bytes }) f in
    o ∙ g ∙ h

pub fit_reads : (c : Copies) (ls : List Line) → copies_fit c ls ≡ true → (length c.lines + length ls ≤ c.most_lines) × (bytes_of c.lines + bytes_of ls ≤ c.most_bytes)
fit_reads c ls h = (leb-true (length c.lines + length ls) c.most_lines (and_left _ _ h), leb-true (bytes_of c.lines + bytes_of ls) c.most_bytes (and_right (nat_le (length c.lines + length ls) c.most_lines) _ h))

pub fit_shows : (c : Copies) (ls : List Line) → length c.lines + length ls ≤ c.most_lines → bytes_of c.lines + bytes_of ls ≤ c.most_bytes → copies_fit c ls ≡ true
fit_shows c ls h k = and_from _ _ (le-leb (length c.lines + length ls) c.most_lines h) (le-leb (bytes_of c.lines + bytes_of ls) c.most_bytes k)

-- a copy of the next line fits, and those after it still do
pub fit_first : (c : Copies) (xs : List Line) (i : ℕ) (d : Line) → i < length xs → d ≡ get_or xs i d → copies_fit c (drop i xs) ≡ true → copies_fit c (d ∷ []) ≡ true
fit_first c xs i d h e f =
    let r = fit_reads c (drop i xs) f in
    let a = r.0 in
    let b = r.1 in
    let l = length-drop i xs in
    let n = bytes_next xs i d (length d.bytes) h e refl in
    fit_shows c (d ∷ []) (omega arith) (omega arith)

pub fit_rest : (c n : Copies) (xs : List Line) (i : ℕ) (d : Line) → i < length xs → d ≡ get_or xs i d → copies_fit c (drop i xs) ≡ true → n ≡ record { lines = c.lines ++ d ∷ []; most_lines = c.most_lines; most_bytes = c.most_bytes } → copies_fit n (drop (i + 1) xs) ≡ true
fit_rest c n xs i d h e f g =
    let r = fit_reads c (drop i xs) f in
    let a = r.0 in
    let b = r.1 in
    let l = length-drop i xs in
    let k = length-drop (i + 1) xs in
    let m = bytes_next xs i d (length d.bytes) h e refl in
    let w = bytes-append c.lines (d ∷ []) in
    let v = length-append c.lines (d ∷ []) in
    let q : copies_fit (record { lines = c.lines ++ d ∷ []; most_lines = c.most_lines; most_bytes = c.most_bytes }) (drop (i + 1) xs) ≡ true = fit_shows (record { lines = c.lines ++ d ∷ []; most_lines = c.most_lines; most_bytes = c.most_bytes }) (drop (i + 1) xs) (omega arith) (omega arith) in
    subst (λ (z : Copies). copies_fit z (drop (i + 1) xs) ≡ true) (sym g) q

pub copied_more : (o c n : Copies) (xs : List Line) (i : ℕ) (d : Line) → i < length xs → d ≡ get_or xs i d → c ≡ record { lines = o.lines ++ take i xs; most_lines = o.most_lines; most_bytes = o.most_bytes } → n ≡ record { lines = c.lines ++ d ∷ []; most_lines = c.most_lines; most_bytes = c.most_bytes }
    → n ≡ record { lines = o.lines ++ take (i + 1) xs; most_lines = o.most_lines; most_bytes = o.most_bytes }
copied_more o c n xs i d h e f g =
    let t : take (i + 1) xs ≡ take i xs ++ d ∷ [] = rw (add-one, take-suc xs i d h, ← e) refl in
    let s : (o.lines ++ take i xs) ++ d ∷ [] ≡ o.lines ++ take (i + 1) xs = rw t (append_assoc o.lines (take i xs) (d ∷ [])) in
    let p : ◌≡◌ {A = Copies} (record { lines = c.lines ++ d ∷ []; most_lines = c.most_lines; most_bytes = c.most_bytes }) (record { lines = (o.lines ++ take i xs) ++ d ∷ []; most_lines = o.most_lines; most_bytes = o.most_bytes }) = ap (λ (k : Copies). record { lines = k.lines ++ d ∷ []; most_lines = k.most_lines; most_bytes = k.most_bytes }) f in
    g ∙ p ∙ ap (λ (l : List Line). record { lines = l; most_lines = o.most_lines; most_bytes = o.most_bytes }) s
