-- The lines of offers, and how many they are, when one more is noted.
use Rattle.std.proofs.Common.{◌≡◌, ℕ, suc, ◌+◌, ◌≤◌, Bool, true, false, List, [], ◌∷◌, ◌++◌, length, refl, ap, sym, ◌∙◌, append_assoc, length-append, arith}
use Rattle.std.proofs.lemmas.List.{append-nil}
use Rattle.std.specs.Prelude.{if◌then◌else◌}
use Rattle.audit_core.specs.Offers.{Due, AreNotes, IsNote}
use Rattle.audit_core.specs.declared.offers.OfferNote.{OfferNote}
use Rattle.audit_core.specs.declared.offers.Outcome.{Outcome}
use Rattle.audit_core.specs.declared.settings.Settings.{Settings}
use Rattle.audit_core.specs.declared.sinks.Sink.{Sink}
use Rattle.model_core.proofs.Logic.{both}
use Rattle.event_offers.specs.Taken.{is_for, line_in, count_in, lines_for}
use Rattle.front_base.specs.Line.{Line}

-- ---- notes and what was due

pub notes-length : (set : Settings) (ws : List Due) (ns : List OfferNote) → AreNotes set ws ns → length ws ≡ length ns
notes-length set [] [] h = refl
notes-length set [] (n ∷ ns) h = absurd h
notes-length set (w ∷ ws) [] h = absurd h
notes-length set (w ∷ ws) (n ∷ ns) h = ap suc (notes-length set ws ns h.1)

pub notes-push : (set : Settings) (ws : List Due) (ns : List OfferNote) (w : Due) (n : OfferNote) → AreNotes set ws ns
    → IsNote set w n → AreNotes set (ws ++ w ∷ []) (ns ++ n ∷ [])
notes-push set [] [] w n h k = (k, tt)
notes-push set [] (m ∷ ns) w n h k = absurd h
notes-push set (v ∷ ws) [] w n h k = absurd h
notes-push set (v ∷ ws) (m ∷ ns) w n h k = (h.0, notes-push set ws ns w n h.1 k)

pub lengths-append : (vs ws : List Due) (ms ns : List OfferNote) → length vs ≡ length ms → length ws ≡ length ns
    → length (vs ++ ws) ≡ length (ms ++ ns)
lengths-append vs ws ms ns h k = omega (arith, length-append vs ws, length-append ms ns)

-- ---- how many lines were offered

pub count_for : Sink → List Due → List OfferNote → ℕ
count_for sink [] ns = 0
count_for sink (w ∷ ws) [] = 0
count_for sink (w ∷ ws) (n ∷ ns) = if is_for sink w.sink then count_in w.fit + count_for sink ws ns else count_for sink ws ns

-- ---- what is due and not noted adds nothing

lines_none : (keeps : Outcome → Bool) (sink : Sink) (bay n : ℕ) (ws : List Due) → lines_for keeps sink bay n ws [] ≡ []
lines_none keeps sink bay n [] = refl
lines_none keeps sink bay n (w ∷ ws) = refl

count_none : (sink : Sink) (ws : List Due) → count_for sink ws [] ≡ 0
unfolding count_for
count_none sink [] = refl
count_none sink (w ∷ ws) = refl

too_many : (a : ℕ) → suc a ≤ 0 → ⊥
too_many a h = omega arith

fewer : (a b : ℕ) → suc a ≤ suc b → a ≤ b
fewer a b h = omega arith

pub lines-more : (keeps : Outcome → Bool) (sink : Sink) (bay : ℕ) (ws vs : List Due) (ns : List OfferNote) (n : ℕ)
    → length ns ≤ length ws → lines_for keeps sink bay n (ws ++ vs) ns ≡ lines_for keeps sink bay n ws ns
lines-more keeps sink bay [] vs [] n h = lines_none keeps sink bay n vs
lines-more keeps sink bay [] vs (m ∷ ns) n h = absurd (too_many (length ns) h)
lines-more keeps sink bay (w ∷ ws) vs [] n h = refl
lines-more keeps sink bay (w ∷ ws) vs (m ∷ ns) n h =
    both
    (λ (a : List Line) (b : List Line). if is_for sink w.sink then line_in keeps bay n w.fit m.outcome ++ a else b)
    (lines-more keeps sink bay ws vs ns (n + count_in w.fit) (fewer (length ns) (length ws) h))
    (lines-more keeps sink bay ws vs ns n (fewer (length ns) (length ws) h))

pub count-more : (sink : Sink) (ws vs : List Due) (ns : List OfferNote) → length ns ≤ length ws
    → count_for sink (ws ++ vs) ns ≡ count_for sink ws ns
unfolding count_for
count-more sink [] vs [] h = count_none sink vs
count-more sink [] vs (m ∷ ns) h = absurd (too_many (length ns) h)
count-more sink (w ∷ ws) vs [] h = refl
count-more sink (w ∷ ws) vs (m ∷ ns) h =
    ap (λ k. if is_for sink w.sink then count_in w.fit + k else k)
    (count-more sink ws vs ns (fewer (length ns) (length ws) h))

-- ---- one offer more

no_suc : (a : ℕ) → 0 ≡ suc a → ⊥
no_suc a e = omega arith

suc_no : (a : ℕ) → suc a ≡ 0 → ⊥
suc_no a e = omega arith

suc_same : (a b : ℕ) → suc a ≡ suc b → a ≡ b
suc_same a b e = omega arith

add_nothing : (n : ℕ) → n ≡ n + 0
add_nothing n = omega arith

add_last : (n c k : ℕ) → (n + c) + k ≡ n + (c + k)
add_last n c k = omega arith

-- the lines of a list that begins with an offer, to that sink or to the other
behind_first : (T : ℕ → List Line) (A L1 L2 R1 R2 : List Line) (n c k : ℕ) (b : Bool) → L1 ≡ R1 ++ T ((n + c) + k)
    → L2 ≡ R2 ++ T (n + k)
    → (if b then A ++ L1 else L2) ≡ (if b then A ++ R1 else R2) ++ T (n + (if b then c + k else k))
behind_first T A L1 L2 R1 R2 n c k true p q =
    ap (λ v. A ++ v) p ∙ sym (append_assoc A R1 (T ((n + c) + k))) ∙ ap (λ i. (A ++ R1) ++ T i) (add_last n c k)
behind_first T A L1 L2 R1 R2 n c k false p q = q

pub lines-push : (keeps : Outcome → Bool) (sink : Sink) (bay : ℕ) (w : Due) (vs : List Due) (m : OfferNote)
    (ws : List Due) (ns : List OfferNote) (n : ℕ) → length ws ≡ length ns
    → lines_for keeps sink bay n (ws ++ w ∷ vs) (ns ++ m ∷ [])
    ≡ lines_for keeps sink bay n ws ns
    ++ (if is_for sink w.sink then line_in keeps bay (n + count_for sink ws ns) w.fit m.outcome else [])
unfolding count_for
lines-push keeps sink bay w vs m [] [] n h =
    both
    (λ (a : List Line) (b : List Line). if is_for sink w.sink then line_in keeps bay n w.fit m.outcome ++ a else b)
    (lines_none keeps sink bay (n + count_in w.fit) vs)
    (lines_none keeps sink bay n vs)
    ∙ ap (λ v. if is_for sink w.sink then v else []) (append-nil (line_in keeps bay n w.fit m.outcome))
    ∙ ap (λ i. if is_for sink w.sink then line_in keeps bay i w.fit m.outcome else []) (add_nothing n)
lines-push keeps sink bay w vs m [] (k ∷ ns) n h = absurd (no_suc (length ns) h)
lines-push keeps sink bay w vs m (v ∷ ws) [] n h = absurd (suc_no (length ws) h)
lines-push keeps sink bay w vs m (v ∷ ws) (k ∷ ns) n h =
    behind_first
    (λ i. if is_for sink w.sink then line_in keeps bay i w.fit m.outcome else [])
    (line_in keeps bay n v.fit k.outcome)
    (lines_for keeps sink bay (n + count_in v.fit) (ws ++ w ∷ vs) (ns ++ m ∷ []))
    (lines_for keeps sink bay n (ws ++ w ∷ vs) (ns ++ m ∷ []))
    (lines_for keeps sink bay (n + count_in v.fit) ws ns)
    (lines_for keeps sink bay n ws ns)
    n
    (count_in v.fit)
    (count_for sink ws ns)
    (is_for sink v.sink)
    (lines-push keeps sink bay w vs m ws ns (n + count_in v.fit) (suc_same (length ws) (length ns) h))
    (lines-push keeps sink bay w vs m ws ns n (suc_same (length ws) (length ns) h))

count_first : (b : Bool) (c k l t : ℕ) → l ≡ k + t → (if b then c + l else l) ≡ (if b then c + k else k) + t
count_first true c k l t e = omega arith
count_first false c k l t e = e

count_one : (b : Bool) (c l : ℕ) → l ≡ 0 → (if b then c + l else l) ≡ 0 + (if b then c else 0)
count_one true c l e = omega arith
count_one false c l e = omega arith

pub count-push : (sink : Sink) (w : Due) (vs : List Due) (m : OfferNote) (ws : List Due) (ns : List OfferNote)
    → length ws ≡ length ns
    → count_for sink (ws ++ w ∷ vs) (ns ++ m ∷ [])
    ≡ count_for sink ws ns + (if is_for sink w.sink then count_in w.fit else 0)
unfolding count_for
count-push sink w vs m [] [] h = count_one (is_for sink w.sink) (count_in w.fit) _ (count_none sink vs)
count-push sink w vs m [] (k ∷ ns) h = absurd (no_suc (length ns) h)
count-push sink w vs m (v ∷ ws) [] h = absurd (suc_no (length ws) h)
count-push sink w vs m (v ∷ ws) (k ∷ ns) h =
    count_first (is_for sink v.sink) (count_in v.fit) (count_for sink ws ns) _ _
    (count-push sink w vs m ws ns (suc_same (length ws) (length ns) h))

pub count-start : (sink : Sink) → count_for sink [] [] ≡ 0
unfolding count_for
count-start sink = refl
