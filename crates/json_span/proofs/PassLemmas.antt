-- Bytes that are passed in runs, and what is kept of them.
use Rattle.std.proofs.Common.{◌≡◌, ℕ, zero, suc, ◌+◌, ◌-◌, ◌<◌, ◌≤◌, ◌∷◌, [], ◌++◌, List, length, take, drop, get_or, Bool, true, false, cond, Option, Some, None, refl, sym, ap, ◌∙◌, subst, arith, add-zero, zero-add, length-drop, append_assoc, true≢false, inl, inr}
use Rattle.std.specs.Prelude.{option_and_then, ◌&&◌, ◌||◌, not}
use Rattle.std.specs.List.{list_all}
use Rattle.std.proofs.Math.Seq.{take-add, drop-cons}
use Rattle.std.proofs.lemmas.List.{append-nil, drop-drop, take_rest, get_or-drop, take-append-drop, length-take-le}
use Rattle.std.proofs.lemmas.Bool.Decides.{nat_tests}
use Rattle.json_span.specs.Strings.{is_blank, is_plain}
use Rattle.json_span.specs.Span.{Passed, one_more, place_reach}
use Rattle.json_span.specs.Machine.{string_step, mode_step, place_step, place_ends, keeps, is_inside, stays, stays_inside, start}
use Rattle.json_span.specs.Machine as machine
use Rattle.json_span.specs.declared.string.Inside.{Inside}
use Rattle.json_span.specs.declared.string.Inside.TheVariants as inside
use Rattle.json_span.specs.declared.token.Token.TheVariants as token
use Rattle.json_span.specs.declared.nesting.Kind.{Kind}
use Rattle.json_span.specs.declared.place.Mode.{Mode}
use Rattle.json_span.specs.declared.place.Mode.TheVariants as mode
use Rattle.json_span.specs.declared.place.Place.{Place}
use Rattle.json_span.proofs.RunLemmas.{run, run-append, output, output-append, keep, by_option}
use Rattle.json_span.proofs.TextLemmas.{Leads}

-- ---- a byte of a run leaves the place as it is, and is kept in a token alone

plain_stays : (b : ℕ) → is_plain b ≡ true → string_step inside.Plain b ≡ Some inside.Plain
plain_stays b h = grind (arith, nat_tests)

inside_stays : (i : Inside) (b : ℕ) → stays_inside i b ≡ true → string_step i b ≡ Some i
inside_stays inside.Start b h = absurd (true≢false (sym h))
inside_stays inside.Plain b h = plain_stays b h
inside_stays inside.Escape b h = absurd (true≢false (sym h))
inside_stays inside.Hex4 b h = absurd (true≢false (sym h))
inside_stays inside.Hex3 b h = absurd (true≢false (sym h))
inside_stays inside.Hex2 b h = absurd (true≢false (sym h))
inside_stays inside.Hex1 b h = absurd (true≢false (sym h))
inside_stays inside.Tail1 b h = absurd (true≢false (sym h))
inside_stays inside.Tail2 b h = absurd (true≢false (sym h))
inside_stays inside.Tail3 b h = absurd (true≢false (sym h))
inside_stays inside.AfterE0 b h = absurd (true≢false (sym h))
inside_stays inside.AfterEd b h = absurd (true≢false (sym h))
inside_stays inside.AfterF0 b h = absurd (true≢false (sym h))
inside_stays inside.AfterF4 b h = absurd (true≢false (sym h))
inside_stays inside.Closed b h = absurd (true≢false (sym h))

mode_stays : (ks : List Kind) (m : Mode) (b : ℕ) → stays m b ≡ true → mode_step ks m b ≡ Some (machine.at ks m)
mode_stays ks mode.Before b h = grind (arith, nat_tests)
mode_stays ks mode.FirstItem b h = grind (arith, nat_tests)
mode_stays ks mode.FirstName b h = grind (arith, nat_tests)
mode_stays ks mode.Name b h = grind (arith, nat_tests)
mode_stays ks mode.Colon b h = grind (arith, nat_tests)
mode_stays ks mode.After b h = grind (arith, nat_tests)
mode_stays ks (mode.InName i) b h = rw (inside_stays i b h) refl
mode_stays ks (mode.InToken (token.Text i)) b h = rw (inside_stays i b h) refl
mode_stays ks (mode.InToken (token.Number l)) b h = absurd (true≢false (sym h))
mode_stays ks (mode.InToken (token.Literal l)) b h = absurd (true≢false (sym h))

kept_inside : (m : Mode) (b : ℕ) → stays m b ≡ true → (is_inside m || not (is_blank b)) ≡ is_inside m
kept_inside mode.Before b h = ap not h
kept_inside mode.FirstItem b h = ap not h
kept_inside mode.FirstName b h = ap not h
kept_inside mode.Name b h = ap not h
kept_inside mode.Colon b h = ap not h
kept_inside mode.After b h = ap not h
kept_inside (mode.InName i) b h = refl
kept_inside (mode.InToken t) b h = refl

both : (a b : Bool) → (a && b) ≡ true → (a ≡ true) × (b ≡ true)
both true true h = (refl, refl)
both true false h = absurd (cc)
both false b h = absurd (cc)

run_stays : (p : Place) (xs : List ℕ) → list_all (stays p.mode) xs ≡ true → run place_step place_ends p xs ≡ Some p
run_stays p [] h = refl
run_stays p (b ∷ bs) h =
    let parts : (stays p.mode b ≡ true) × (list_all (stays p.mode) bs ≡ true) = both (stays p.mode b) (list_all (stays p.mode) bs) h in
    ap (option_and_then (λ n. run place_step place_ends n bs)) (mode_stays p.nesting p.mode b parts.0) ∙ run_stays p bs parts.1

keep_all : (c : Bool) (b : ℕ) (bs : List ℕ) → keep c b (cond c bs []) ≡ cond c (b ∷ bs) []
keep_all true b bs = refl
keep_all false b bs = refl

either : (c : Bool) (xs : List ℕ) → xs ≡ cond c xs xs
either true xs = refl
either false xs = refl

output_stays : (p : Place) (xs : List ℕ) → list_all (stays p.mode) xs ≡ true →
    output place_step place_ends keeps p xs ≡ cond (is_inside p.mode) xs []
output_stays p [] h = either (is_inside p.mode) []
output_stays p (b ∷ bs) h =
    let parts : (stays p.mode b ≡ true) × (list_all (stays p.mode) bs ≡ true) = both (stays p.mode b) (list_all (stays p.mode) bs) h in
    rw (mode_stays p.nesting p.mode b parts.0) (
    ap (λ c. keep c b (output place_step place_ends keeps p bs)) (kept_inside p.mode b parts.0)
    ∙ (ap (keep (is_inside p.mode) b) (output_stays p bs parts.1) ∙ keep_all (is_inside p.mode) b bs))

-- ---- what was passed, as a run of the machine

run_one : (o : Option Place) → option_and_then (λ n. run place_step place_ends n []) o ≡ o
run_one None = refl
run_one (Some n) = refl

pub passed_run : (p q : Place) (xs : List ℕ) → Passed p xs q → run place_step place_ends p xs ≡ Some q
passed_run p q xs (inl (h, e)) = run_stays p xs h ∙ ap Some (sym e)
passed_run p q xs (inr (b, e, s)) = ap (run place_step place_ends p) e ∙ (run_one (place_step p b) ∙ s)

pub passed_output : (p q : Place) (xs bs : List ℕ) (b : ℕ) → xs ≡ b ∷ bs → Passed p xs q →
    output place_step place_ends keeps p xs ≡ cond (keeps q b) xs []
passed_output p q xs bs b first (inl (h, e)) =
    let staying : list_all (stays p.mode) (b ∷ bs) ≡ true = subst (λ l. list_all (stays p.mode) l ≡ true) first h in
    let byte : stays p.mode b ≡ true = (both (stays p.mode b) (list_all (stays p.mode) bs) staying).0 in
    output_stays p xs h
    ∙ ap (λ c. cond c xs []) (sym (kept_inside p.mode b byte) ∙ ap (λ n. keeps n b) (sym e))
passed_output p q xs bs b first (inr (d, e, s)) =
    let same : d ≡ b = cc in
    ap (output place_step place_ends keeps p) e
    ∙ (ap (λ o. by_option o [] (λ n. keep (keeps n d) d [])) s
    ∙ (ap (λ i. cond (keeps q i) (d ∷ []) []) same ∙ ap (λ l. cond (keeps q b) l []) (sym e)))

-- ---- the bytes of the text up to a place, and those that were passed there

pub next_leads : (text : List ℕ) (at n : ℕ) (p q : Place) → Leads (take at text) p → Passed p (take n (drop at text)) q →
    Leads (take (at + n) text) q
next_leads text at n p q h k =
    ap (run place_step place_ends start) (take-add at n text)
    ∙ (run-append place_step place_ends start (take at text) (take n (drop at text))
    ∙ (ap (option_and_then (λ m. run place_step place_ends m (take n (drop at text)))) h ∙ passed_run p q _ k))

first_of : (text : List ℕ) (at n : ℕ) → at < length text →
    take (suc n) (drop at text) ≡ get_or text at 0 ∷ take n (drop (suc at) text)
first_of text at n within = ap (take (suc n)) (drop-cons text at 0 within)

pub next_output : (text : List ℕ) (at n : ℕ) (p q : Place) → at < length text → 0 < n → Leads (take at text) p →
    Passed p (take n (drop at text)) q →
    output place_step place_ends keeps start (take (at + n) text)
    ≡ output place_step place_ends keeps start (take at text) ++ cond (keeps q (get_or text at 0)) (take n (drop at text)) []
next_output text at zero p q within some h k = absurd (omega arith)
next_output text at (suc n) p q within some h k =
    ap (output place_step place_ends keeps start) (take-add at (suc n) text)
    ∙ (output-append place_step place_ends keeps start p (take at text) (take (suc n) (drop at text)) h
    ∙ ap (λ l. output place_step place_ends keeps start (take at text) ++ l)
    (passed_output p q _ _ (get_or text at 0) (first_of text at n within) k))

-- the first byte of the rest of a text
pub rest_first : (text : List ℕ) (at : ℕ) → get_or (take (length text - at) (drop at text)) 0 0 ≡ get_or text at 0
rest_first text at = simp (take_rest, get_or-drop, add-zero)

-- ---- the range that is open, whose bytes are kept and not copied yet

range_longer : (text : List ℕ) (from at n : ℕ) → from ≤ at →
    take (at + n - from) (drop from text) ≡ take (at - from) (drop from text) ++ take n (drop at text)
range_longer text from at n order =
    let size : at + n - from ≡ (at - from) + n = omega arith in
    let there : from + (at - from) ≡ at = omega arith in
    ap (λ i. take i (drop from text)) size
    ∙ (take-add (at - from) n (drop from text)
    ∙ ap (λ l. take (at - from) (drop from text) ++ take n l)
    (drop-drop (at - from) from text ∙ ap (λ i. drop i text) there))

-- it grows by what is kept
pub kept_on : (text joined new out all : List ℕ) (from to at n : ℕ) (k : Bool) → from ≤ at → k ≡ true → to ≡ from →
    new ≡ joined → joined ++ take (at - from) (drop from text) ≡ out →
    all ≡ out ++ cond k (take n (drop at text)) [] → new ++ take (at + n - to) (drop to text) ≡ all
kept_on text joined new out all from to at n k order kept here is done more =
    ap (λ i. new ++ take (at + n - i) (drop i text)) here
    ∙ (ap (λ l. l ++ take (at + n - from) (drop from text)) is
    ∙ (ap (λ l. joined ++ l) (range_longer text from at n order)
    ∙ (sym (append_assoc joined (take (at - from) (drop from text)) (take n (drop at text)))
    ∙ (ap (λ l. l ++ take n (drop at text)) done
    ∙ sym (more ∙ ap (λ c. out ++ cond c (take n (drop at text)) []) kept)))))

-- where bytes are left out it is copied, and an empty one begins after them
pub left_out : (text joined new out all : List ℕ) (from to at n : ℕ) (k : Bool) → k ≡ false → to ≡ at + n →
    new ≡ joined ++ take (at - from) (drop from text) → joined ++ take (at - from) (drop from text) ≡ out →
    all ≡ out ++ cond k (take n (drop at text)) [] → new ++ take (at + n - to) (drop to text) ≡ all
left_out text joined new out all from to at n k skipped here copied done more =
    let none : at + n - to ≡ 0 = omega arith in
    ap (λ i. new ++ take i (drop to text)) none
    ∙ (append-nil new
    ∙ (copied ∙ (done ∙ sym (more ∙ (ap (λ c. out ++ cond c (take n (drop at text)) []) skipped ∙ append-nil out)))))

-- at the end it is copied
pub last_range : (text joined new out : List ℕ) (from at : ℕ) → at ≤ length text → length text ≤ at →
    new ≡ joined ++ take (length text - from) (drop from text) →
    joined ++ take (at - from) (drop from text) ≡ out → new ≡ out
last_range text joined new out from at within past copied done =
    let size : length text - from ≡ at - from = omega arith in
    copied ∙ (ap (λ i. joined ++ take i (drop from text)) size ∙ done)

-- ---- how far the machine goes

reach_run : (p q : Place) (xs ys : List ℕ) → run place_step place_ends p xs ≡ Some q →
    place_reach p (xs ++ ys) ≡ length xs + place_reach q ys
reach_run p q [] ys e = ap (λ m. place_reach m ys) (cc e) ∙ sym (zero-add (place_reach q ys))
reach_run p q (b ∷ bs) ys e = by_step (place_step p b) (λ m d. reach_run m q bs ys d) e
  where
    by_step : (o : Option Place) → ((m : Place) → run place_step place_ends m bs ≡ Some q → place_reach m (bs ++ ys) ≡ length bs + place_reach q ys)
        → option_and_then (λ m. run place_step place_ends m bs) o ≡ Some q → one_more (λ m. place_reach m (bs ++ ys)) o ≡ suc (length bs) + place_reach q ys
    by_step None next d = absurd (cc d)
    by_step (Some m) next d = omega (arith, next m d)

pub reach_on : (text : List ℕ) (at n all : ℕ) (p q : Place) → at + n ≤ length text → Passed p (take n (drop at text)) q →
    all ≡ at + place_reach p (drop at text) → all ≡ at + n + place_reach q (drop (at + n) text)
reach_on text at n all p q within k h =
    let parts : take n (drop at text) ++ drop (at + n) text ≡ drop at text =
    ap (λ l. take n (drop at text) ++ l) (sym (drop-drop n at text)) ∙ take-append-drop n (drop at text) in
    let size : length (take n (drop at text)) ≡ n = length-take-le n (drop at text) (omega (arith, length-drop at text)) in
    let ahead = reach_run p q (take n (drop at text)) (drop (at + n) text) (passed_run p q _ k) in
    omega (arith, ap (place_reach p) parts)

pub reach_stops : (text : List ℕ) (at all : ℕ) (p : Place) → at < length text → place_step p (get_or text at 0) ≡ None →
    all ≡ at + place_reach p (drop at text) → all ≡ at
reach_stops text at all p within e h =
    let first : place_reach p (drop at text) ≡ one_more (λ m. place_reach m (drop (suc at) text)) (place_step p (get_or text at 0)) =
    ap (place_reach p) (drop-cons text at 0 within) in
    let none : place_reach p (drop at text) ≡ 0 = first ∙ ap (one_more (λ m. place_reach m (drop (suc at) text))) e in
    omega arith
