-- Whether a text begins with a piece of the grammar: each piece is decided.
use Rattle.std.proofs.Common.{◌≡◌, ◌≢◌, ℕ, zero, suc, ◌+◌, ◌<◌, ◌⊎◌, inl, inr, Bool, true, false, List, [], ◌∷◌, ◌++◌, length, ◌==◌, refl, sym, ap, ◌∙◌, subst, arith, append_assoc}
use Rattle.std.proofs.lemmas.Bool.{false≢true}
use Rattle.std.proofs.lemmas.Bool.Decides.{eqb_tells}
use Rattle.std.proofs.lemmas.List.Elements.{All-head, All-tail, All-cons, All-nil}
use Rattle.httparse.specs.Grammar.{AllPass, LineEnd, crlf, lf, print_end, print_blank}
use Rattle.httparse.specs.Pieces.{Piece, Begins, Then, Stops, is_newline, Bytes, Newline, Blank, Word}
use Rattle.httparse.proofs.PieceLemmas.{IsDeterministic, print_end_unique, newline_not_stopped}

-- the text begins with the piece, or it does not
abbrev pub Decided : {A : Type 0} → Piece A → List ℕ → Type 0
Decided G text = Begins G text ⊎ ¬ (Begins G text)

abbrev pub Decides : {A : Type 0} → Piece A → Type 0
Decides G = (text : List ℕ) → Decided G text

-- ---- pieces in a row

then_after : {A B : Type 0} (G : Piece A) (H : Piece B) → IsDeterministic G → (text : List ℕ) (a : A) (middle : List ℕ) → G a text middle
    → Decided H middle → Decided (Then G H) text
then_after G H det text a middle read (inl h) = inl ((a, h.0), h.1, (middle, read, h.2))
then_after G H det text a middle read (inr none) =
    inr (λ t. none (t.0.1, t.1, subst (λ (m : List ℕ). H t.0.1 m t.1) (det.unique t.0.0 a text t.2.0 middle t.2.1 read).1 t.2.2))

then_from : {A B : Type 0} (G : Piece A) (H : Piece B) → IsDeterministic G → Decides H → (text : List ℕ) → Decided G text → Decided (Then G H) text
then_from G H det h text (inl g) = then_after G H det text g.0 g.1 g.2 (h g.1)
then_from G H det h text (inr none) = inr (λ t. none (t.0.0, t.2.0, t.2.1))

pub then_decides : {A B : Type 0} (G : Piece A) (H : Piece B) → IsDeterministic G → Decides G → Decides H → Decides (Then G H)
then_decides G H det g h text = then_from G H det h text (g text)

-- ---- line ends

lf_or_not : (b : ℕ) (text : List ℕ) → (b ≢ 13) → ((b ≡ 10) ⊎ (b ≢ 10)) → Decided Newline (b ∷ text)
lf_or_not b text cr (inl e) = inl (lf, text, ap (λ (x : ℕ). x ∷ text) e)
lf_or_not b text cr (inr not_lf) = inr (λ t. no_end t.0 t.1 t.2)
  where
    no_end : (end : LineEnd) (rest : List ℕ) → b ∷ text ≡ print_end end ++ rest → ⊥
    no_end crlf rest e = cr (cc)
    no_end lf rest e = not_lf (cc)

eq_or_not : (a b : ℕ) → (a ≡ b) ⊎ (a ≢ b)
eq_or_not a b = by_tells (eqb_tells a b)
  where
    by_tells : ((a == b) ≡ true) × (a ≡ b) ⊎ ((a == b) ≡ false) × (a ≢ b) → (a ≡ b) ⊎ (a ≢ b)
    by_tells (inl t) = inl t.1
    by_tells (inr t) = inr t.1

no_cr_end : (text : List ℕ) → ((rest : List ℕ) → text ≡ 10 ∷ rest → ⊥) → (end : LineEnd) (rest : List ℕ) → 13 ∷ text ≡ print_end end ++ rest → ⊥
no_cr_end text none crlf rest e = none rest (cc)
no_cr_end text none lf rest e = let same : ◌≡◌ {A = ℕ} 13 10 = cc in omega (arith, same)

after_cr : (text : List ℕ) → Decided Newline (13 ∷ text)
after_cr [] = inr (λ t. no_cr_end [] (λ rest e. absurd (cc e)) t.0 t.1 t.2)
after_cr (c ∷ text) = by_feed (eq_or_not c 10)
  where
    by_feed : (c ≡ 10) ⊎ (c ≢ 10) → Decided Newline (13 ∷ c ∷ text)
    by_feed (inl e) = inl (crlf, text, ap (λ (x : ℕ). 13 ∷ x ∷ text) e)
    by_feed (inr other) = inr (λ t. no_cr_end (c ∷ text) (λ rest e. other (cc)) t.0 t.1 t.2)

pub newline_decides : Decides Newline
newline_decides [] = inr (λ t. no_end t.0 t.1 t.2)
  where
    no_end : (end : LineEnd) (rest : List ℕ) → [] ≡ print_end end ++ rest → ⊥
    no_end crlf rest e = absurd (cc e)
    no_end lf rest e = absurd (cc e)
newline_decides (b ∷ text) = by_return (eq_or_not b 13)
  where
    by_return : (b ≡ 13) ⊎ (b ≢ 13) → Decided Newline (b ∷ text)
    by_return (inl e) = subst (λ (x : ℕ). Decided Newline (x ∷ text)) (sym e) (after_cr text)
    by_return (inr other) = lf_or_not b text other (eq_or_not b 10)

-- what a line end leaves is shorter
pub end_shorter : (end : LineEnd) (text rest : List ℕ) → text ≡ print_end end ++ rest → length rest < length text
end_shorter crlf text rest e = let l = ap length e in omega (arith, l)
end_shorter lf text rest e = let l = ap length e in omega (arith, l)

pub either : (t : Bool) → (t ≡ true) ⊎ (t ≡ false)
either true = inl refl
either false = inr refl

-- ---- empty lines

one_more_end : (end : LineEnd) (ends : List LineEnd) (text rest after : List ℕ) → text ≡ print_end end ++ rest → rest ≡ print_blank ends ++ after
    → text ≡ print_blank (end ∷ ends) ++ after
one_more_end end ends text rest after e f =
    e ∙ ap (λ (l : List ℕ). print_end end ++ l) f ∙ sym (append_assoc (print_end end) (print_blank ends) after)

less_one_end : (end : LineEnd) (text rest : List ℕ) → text ≡ print_end end ++ rest → (ends : List LineEnd) (after : List ℕ)
    → Blank ends text after → Begins Blank rest
less_one_end end text rest e [] after b = absurd (newline_not_stopped end rest after (sym e ∙ b.0) b.1)
less_one_end end text rest e (x ∷ ends) after b =
    let same = print_end_unique end x rest (print_blank ends ++ after) (sym e ∙ b.0 ∙ append_assoc (print_end x) (print_blank ends) after) in
    (ends, after, (same.1, b.1))

more_blank : (end : LineEnd) (text rest : List ℕ) → text ≡ print_end end ++ rest → Decided Blank rest → Decided Blank text
more_blank end text rest e (inl b) = inl (end ∷ b.0, b.1, (one_more_end end b.0 text rest b.1 e b.2.0, b.2.1))
more_blank end text rest e (inr none) = inr (λ t. none (less_one_end end text rest e t.0 t.1 t.2))

no_end_no_blank : (text : List ℕ) → ¬ (Begins Newline text) → ¬ (Stops is_newline text) → (ends : List LineEnd) (after : List ℕ)
    → Blank ends text after → ⊥
no_end_no_blank text none moves [] after b = moves (subst (Stops is_newline) (sym b.0) b.1)
no_end_no_blank text none moves (x ∷ ends) after b =
    none (x, print_blank ends ++ after, b.0 ∙ append_assoc (print_end x) (print_blank ends) after)

last_blank : (text : List ℕ) → ¬ (Begins Newline text) → Decided Blank text
last_blank [] none = inr (λ t. no_end_no_blank [] none (λ s. s) t.0 t.1 t.2)
last_blank (b ∷ text) none = by_byte (either (is_newline b))
  where
    by_byte : (is_newline b ≡ true) ⊎ (is_newline b ≡ false) → Decided Blank (b ∷ text)
    by_byte (inl e) = inr (λ t. no_end_no_blank (b ∷ text) none (λ s. false≢true (sym s ∙ e)) t.0 t.1 t.2)
    by_byte (inr e) = inl ([], b ∷ text, (refl, e))

blank_in : (fuel : ℕ) (text : List ℕ) → length text < fuel → Decided Blank text
blank_in zero text h = absurd (omega (arith, h))
blank_in (suc fuel) text h = by_end (newline_decides text) (λ rest low. blank_in fuel rest low)
  where
    by_end : Decided Newline text → ((rest : List ℕ) → length rest < fuel → Decided Blank rest) → Decided Blank text
    by_end (inl n) next = let low = end_shorter n.0 text n.1 n.2 in more_blank n.0 text n.1 n.2 (next n.1 (omega (arith, h, low)))
    by_end (inr none) next = last_blank text none

pub blank_decides : Decides Blank
blank_decides text = blank_in (length text + 1) text (omega arith)

-- ---- words

-- bytes that pass the test, maybe none, and the byte stop
abbrev Stopped : (ℕ → Bool) → ℕ → Piece (List ℕ)
Stopped test stop word text rest = AllPass test word × (text ≡ word ++ stop ∷ rest)

module _ (test : ℕ → Bool) (stop : ℕ) (fails : test stop ≡ false) where
  nothing_left : (word rest : List ℕ) → [] ≡ word ++ stop ∷ rest → ⊥
  nothing_left [] rest e = absurd (cc e)
  nothing_left (w ∷ word) rest e = absurd (cc e)

  -- the first byte passes
  stopped_tail : (b : ℕ) (text word rest : List ℕ) → test b ≡ true → AllPass test word → b ∷ text ≡ word ++ stop ∷ rest → Begins (Stopped test stop) text
  stopped_tail b text [] rest pass all e =
      let same : b ≡ stop = cc in
      absurd (false≢true (sym fails ∙ sym (ap test same) ∙ pass))
  stopped_tail b text (w ∷ word) rest pass all e = (word, rest, (All-tail (λ v. test v ≡ true) w word all, cc))

  -- the first byte fails, and is not the stop
  stopped_never : (b : ℕ) (text word rest : List ℕ) → test b ≡ false → b ≢ stop → AllPass test word → b ∷ text ≡ word ++ stop ∷ rest → ⊥
  stopped_never b text [] rest fail other all e = other (cc)
  stopped_never b text (w ∷ word) rest fail other all e =
      let same : b ≡ w = cc in
      false≢true (sym fail ∙ ap test same ∙ All-head (λ v. test v ≡ true) w word all)

  stopped_pass : (b : ℕ) (text : List ℕ) → test b ≡ true → Decided (Stopped test stop) text → Decided (Stopped test stop) (b ∷ text)
  stopped_pass b text pass (inl s) =
      inl (b ∷ s.0, s.1, (All-cons (λ v. test v ≡ true) b s.0 pass s.2.0, ap (λ (l : List ℕ). b ∷ l) s.2.1))
  stopped_pass b text pass (inr none) = inr (λ t. none (stopped_tail b text t.0 t.1 pass t.2.0 t.2.1))

  stopped_fail : (b : ℕ) (text : List ℕ) → test b ≡ false → (b ≡ stop) ⊎ (b ≢ stop) → Decided (Stopped test stop) (b ∷ text)
  stopped_fail b text fail (inl e) = inl ([], text, (All-nil (λ v. test v ≡ true), ap (λ (x : ℕ). x ∷ text) e))
  stopped_fail b text fail (inr other) = inr (λ t. stopped_never b text t.0 t.1 fail other t.2.0 t.2.1)

  stopped_by : (b : ℕ) (text : List ℕ) → (test b ≡ true) ⊎ (test b ≡ false) → Decided (Stopped test stop) text → Decided (Stopped test stop) (b ∷ text)
  stopped_by b text (inl pass) rest = stopped_pass b text pass rest
  stopped_by b text (inr fail) rest = stopped_fail b text fail (eq_or_not b stop)

  stopped_decides : Decides (Stopped test stop)
  stopped_decides [] = inr (λ t. nothing_left t.0 t.1 t.2.1)
  stopped_decides (b ∷ text) = stopped_by b text (either (test b)) (stopped_decides text)

  -- a word's first byte passes
  word_tail : (b : ℕ) (text word rest : List ℕ) → Word test stop word (b ∷ text) rest → (test b ≡ true) × Begins (Stopped test stop) text
  word_tail b text [] rest w = absurd (omega (arith, w.0))
  word_tail b text (x ∷ word) rest w =
      let same : x ≡ b = let e = w.2 in cc in
      let e = w.2 in
      (ap test (sym same) ∙ All-head (λ v. test v ≡ true) x word w.1, (word, rest, (All-tail (λ v. test v ≡ true) x word w.1, cc)))

  word_by : (b : ℕ) (text : List ℕ) → (test b ≡ true) ⊎ (test b ≡ false) → Decided (Stopped test stop) text → Decided (Word test stop) (b ∷ text)
  word_by b text (inl pass) (inl s) =
      inl (b ∷ s.0, s.1, (omega arith, All-cons (λ v. test v ≡ true) b s.0 pass s.2.0, ap (λ (l : List ℕ). b ∷ l) s.2.1))
  word_by b text (inl pass) (inr none) = inr (λ t. none (word_tail b text t.0 t.1 t.2).1)
  word_by b text (inr fail) rest = inr (λ t. false≢true (sym fail ∙ (word_tail b text t.0 t.1 t.2).0))

  pub word_decides : Decides (Word test stop)
  word_decides [] = inr (λ t. nothing_left t.0 t.1 t.2.2)
  word_decides (b ∷ text) = word_by b text (either (test b)) (stopped_decides text)

-- ---- bytes

bytes_by : (b c : ℕ) (front text : List ℕ) → (c ≡ b) ⊎ (c ≢ b) → Decided (Bytes front) text → Decided (Bytes (b ∷ front)) (c ∷ text)
bytes_by b c front text (inl e) (inl t) = let f = t.2 in inl (tt, t.1, cc)
bytes_by b c front text (inl e) (inr none) = inr (λ t. let f = t.2 in none (tt, t.1, cc))
bytes_by b c front text (inr other) rest = inr (λ t. let f = t.2 in other (cc))

pub bytes_decides : (front : List ℕ) → Decides (Bytes front)
bytes_decides [] text = inl (tt, text, refl)
bytes_decides (b ∷ front) [] = inr (λ t. let f = t.2 in absurd (cc f))
bytes_decides (b ∷ front) (c ∷ text) = bytes_by b c front text (eq_or_not c b) (bytes_decides front text)
