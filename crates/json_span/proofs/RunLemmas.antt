-- A machine that passes bytes one after another, and stops where nothing that goes on is accepted.
use Rattle.std.proofs.Common.{◌≡◌, ℕ, ◌+◌, ◌<◌, ◌∷◌, [], ◌++◌, List, length, take, drop, Bool, true, false, cond, Option, Some, None, refl, sym, ap, ◌∙◌, subst, arith, get_or, append_assoc, true≢false}
use Rattle.std.specs.Prelude.{option_and_then, MatchOption}
use Rattle.std.proofs.lemmas.List.{append-nil, take-append-drop, take-take, take_more, take_all}
use Rattle.json_span.specs.Fault.{FaultAt}

module _ {S : Type 0} (step : S → ℕ → Option S) (ends : S → Bool) where
  -- the text leads from the state to one that ends
  abbrev pub Accepts : S → List ℕ → Type 0
  Accepts s [] = ends s ≡ true
  Accepts s (b ∷ bs) = MatchOption (step s b) ⊥ (λ n. Accepts n bs)

  abbrev pub run : S → List ℕ → Option S
  run s [] = Some s
  run s (b ∷ bs) = option_and_then (λ n. run n bs) (step s b)

  -- one step, and the rest
  pub goes : (s n : S) (b : ℕ) (bs : List ℕ) → step s b ≡ Some n → Accepts n bs → Accepts s (b ∷ bs)
  goes s n b bs e h = subst (λ (o : Option S). MatchOption o ⊥ (λ m. Accepts m bs)) (sym e) h

  pub run_accepts : (s n : S) (front more : List ℕ) → run s front ≡ Some n → Accepts n more → Accepts s (front ++ more)
  run_accepts s n [] more e h = subst (λ m. Accepts m more) (cc e) h
  run_accepts s n (b ∷ bs) more e h = by_step (step s b) (λ m d. run_accepts m n bs more d h) e
    where
      by_step : (o : Option S) → ((m : S) → run m bs ≡ Some n → Accepts m (bs ++ more)) → option_and_then (λ m. run m bs) o ≡ Some n → MatchOption o ⊥ (λ m. Accepts m (bs ++ more))
      by_step None next d = absurd (cc d)
      by_step (Some m) next d = next m d

  -- where the machine stopped, nothing that goes on is accepted
  pub run_stops : (s : S) (front more : List ℕ) → run s front ≡ None → Accepts s (front ++ more) → ⊥
  run_stops s [] more e h = absurd (cc e)
  run_stops s (b ∷ bs) more e h = by_step (step s b) (λ m. run_stops m bs more) e h
    where
      by_step : (o : Option S) → ((m : S) → run m bs ≡ None → Accepts m (bs ++ more) → ⊥) → option_and_then (λ m. run m bs) o ≡ None → MatchOption o ⊥ (λ m. Accepts m (bs ++ more)) → ⊥
      by_step None next d k = k
      by_step (Some m) next d k = next m d k

  pub run_ends : (s n : S) (text : List ℕ) → run s text ≡ Some n → Accepts s text → ends n ≡ true
  run_ends s n [] e h = subst (λ m. ends m ≡ true) (cc e) h
  run_ends s n (b ∷ bs) e h = by_step (step s b) (λ m. run_ends m n bs) e h
    where
      by_step : (o : Option S) → ((m : S) → run m bs ≡ Some n → Accepts m bs → ends n ≡ true) → option_and_then (λ m. run m bs) o ≡ Some n → MatchOption o ⊥ (λ m. Accepts m bs) → ends n ≡ true
      by_step None next d k = absurd k
      by_step (Some m) next d k = next m d k

  pub run_accepted : (s n : S) (text : List ℕ) → run s text ≡ Some n → ends n ≡ true → Accepts s text
  run_accepted s n [] e h = subst (λ m. ends m ≡ true) (cc e) h
  run_accepted s n (b ∷ bs) e h = by_step (step s b) (λ m d. run_accepted m n bs d h) e
    where
      by_step : (o : Option S) → ((m : S) → run m bs ≡ Some n → Accepts m bs) → option_and_then (λ m. run m bs) o ≡ Some n → MatchOption o ⊥ (λ m. Accepts m bs)
      by_step None next d = absurd (cc d)
      by_step (Some m) next d = next m d

  pub run-append : (s : S) (xs ys : List ℕ) → run s (xs ++ ys) ≡ option_and_then (λ n. run n ys) (run s xs)
  run-append s [] ys = refl
  run-append s (b ∷ bs) ys = by_step (step s b) (λ m. run-append m bs ys)
    where
      by_step : (o : Option S) → ((m : S) → run m (bs ++ ys) ≡ option_and_then (λ n. run n ys) (run m bs)) → option_and_then (λ m. run m (bs ++ ys)) o ≡ option_and_then (λ n. run n ys) (option_and_then (λ m. run m bs) o)
      by_step None next = refl
      by_step (Some m) next = next m

  -- one byte more was passed
  pub run_more : (s n : S) (text : List ℕ) (i : ℕ) → i < length text → run s (take i text) ≡ Some n → run s (take (i + 1) text) ≡ step n (get_or text i 0)
  run_more s n text i within e =
      ap (run s) (take_more text i 0 within) ∙ run-append s (take i text) (get_or text i 0 ∷ []) ∙ ap (option_and_then (λ m. run m (get_or text i 0 ∷ []))) e ∙ last (step n (get_or text i 0))
    where
      last : (o : Option S) → option_and_then (λ m. run m []) o ≡ o
      last None = refl
      last (Some m) = refl

  -- ---- where a text goes wrong, for a grammar that the machine follows and states that can all be completed

  module _ (Good : List ℕ → Type 0) (start : S) (sound : (t : List ℕ) → Accepts start t → Good t) (complete : (t : List ℕ) → Good t → Accepts start t)
      (completion : S → List ℕ) (completes : (s : S) → Accepts s (completion s)) where
    pub stops_at : (text : List ℕ) (i : ℕ) (n : S) → i < length text → run start (take i text) ≡ Some n → step n (get_or text i 0) ≡ None → FaultAt Good text i
    stops_at text i n within e dead =
        let stopped : run start (take (i + 1) text) ≡ None = run_more start n text i within e ∙ dead in
        let none : (k : ℕ) → i < k → (more : List ℕ) → Accepts start (take k text ++ more) → ⊥ =
        λ k later more h.
        let front : take (i + 1) (take k text) ≡ take (i + 1) text = take-take (i + 1) k text (omega arith) in
        let parts : take (i + 1) text ++ drop (i + 1) (take k text) ≡ take k text = ap (λ l. l ++ drop (i + 1) (take k text)) (sym front) ∙ take-append-drop (i + 1) (take k text) in
        run_stops start (take (i + 1) text) (drop (i + 1) (take k text) ++ more) stopped
        (subst (λ l. Accepts start l) (ap (λ l. l ++ more) (sym parts) ∙ append_assoc (take (i + 1) text) (drop (i + 1) (take k text)) more) h) in
        record {
          refused = λ good. none (length text) within [] (subst (λ l. Accepts start l) (sym (simp (append-nil, take_all (length text) text (omega arith)))) (complete text good));
          within = omega arith;
          viable = (completion n, sound (take i text ++ completion n) (run_accepts start n (take i text) (completion n) e (completes n)));
          longest = λ k later short more good. none k later more (complete (take k text ++ more) good);
        }

    pub ends_early : (text : List ℕ) (n : S) → run start text ≡ Some n → ends n ≡ false → FaultAt Good text (length text)
    ends_early text n e unended =
        let whole : take (length text) text ≡ text = take_all (length text) text (omega arith) in
        record {
          refused = λ good. true≢false (sym (run_ends start n text e (complete text good)) ∙ unended);
          within = omega arith;
          viable = (completion n, subst (λ l. Good (l ++ completion n)) (sym whole) (sound (text ++ completion n) (run_accepts start n text (completion n) e (completes n))));
          longest = λ k later short more good. absurd (omega arith);
        }

-- ---- which bytes are kept, by where they lead

abbrev pub keep : Bool → ℕ → List ℕ → List ℕ
keep c b rest = cond c (b ∷ rest) rest

abbrev pub by_option : {A : Type 0} → Option A → List ℕ → (A → List ℕ) → List ℕ
by_option None none some = none
by_option (Some a) none some = some a

module _ {S : Type 0} (step : S → ℕ → Option S) (ends : S → Bool) (keeps : S → ℕ → Bool) where
  abbrev pub output : S → List ℕ → List ℕ
  output s [] = []
  output s (b ∷ bs) = by_option (step s b) [] (λ n. keep (keeps n b) b (output n bs))

  -- the text leads to an end, and these bytes of it are kept
  abbrev pub Gives : S → List ℕ → List ℕ → Type 0
  Gives s t out = Accepts step ends s t × (output s t ≡ out)

  pub gives_next : (s n : S) (b : ℕ) (bs out : List ℕ) → step s b ≡ Some n → Gives n bs out → Gives s (b ∷ bs) (keep (keeps n b) b out)
  gives_next s n b bs out e h = (goes step ends s n b bs e h.0, ap (λ o. by_option o [] (λ m. keep (keeps m b) b (output m bs))) e ∙ ap (keep (keeps n b) b) h.1)

  pub gives_kept : (s n : S) (b : ℕ) (bs out : List ℕ) → step s b ≡ Some n → keeps n b ≡ true → Gives n bs out → Gives s (b ∷ bs) (b ∷ out)
  gives_kept s n b bs out e k h = subst (λ c. Gives s (b ∷ bs) (keep c b out)) k (gives_next s n b bs out e h)

  pub gives_skipped : (s n : S) (b : ℕ) (bs out : List ℕ) → step s b ≡ Some n → keeps n b ≡ false → Gives n bs out → Gives s (b ∷ bs) out
  gives_skipped s n b bs out e k h = subst (λ c. Gives s (b ∷ bs) (keep c b out)) k (gives_next s n b bs out e h)

  pub same_step : (s r : S) (b : ℕ) (bs out : List ℕ) → step s b ≡ step r b → Gives r (b ∷ bs) out → Gives s (b ∷ bs) out
  same_step s r b bs out e h = subst (λ (o : Option S). MatchOption o ⊥ (λ n. Accepts step ends n bs) × (by_option o [] (λ n. keep (keeps n b) b (output n bs)) ≡ out)) (sym e) h

  pub output-append : (s n : S) (xs ys : List ℕ) → run step ends s xs ≡ Some n → output s (xs ++ ys) ≡ output s xs ++ output n ys
  output-append s n [] ys e = ap (λ m. output m ys) (cc e)
  output-append s n (b ∷ bs) ys e = by_step (step s b) (λ m d. output-append m n bs ys d) e
    where
      with_first : (c : Bool) (xs zs : List ℕ) → keep c b (xs ++ zs) ≡ keep c b xs ++ zs
      with_first true xs zs = refl
      with_first false xs zs = refl

      by_step : (o : Option S) → ((m : S) → run step ends m bs ≡ Some n → output m (bs ++ ys) ≡ output m bs ++ output n ys)
          → option_and_then (λ m. run step ends m bs) o ≡ Some n
          → by_option o [] (λ m. keep (keeps m b) b (output m (bs ++ ys))) ≡ by_option o [] (λ m. keep (keeps m b) b (output m bs)) ++ output n ys
      by_step None next d = absurd (cc d)
      by_step (Some m) next d = ap (keep (keeps m b) b) (next m d) ∙ with_first (keeps m b) (output m bs) (output n ys)

  -- one byte more was passed
  pub output_more : (s n m : S) (text : List ℕ) (i : ℕ) → i < length text → run step ends s (take i text) ≡ Some n → step n (get_or text i 0) ≡ Some m
      → output s (take (i + 1) text) ≡ output s (take i text) ++ keep (keeps m (get_or text i 0)) (get_or text i 0) []
  output_more s n m text i within e d =
      ap (output s) (take_more text i 0 within) ∙ output-append s n (take i text) (get_or text i 0 ∷ []) e
      ∙ ap (λ o. output s (take i text) ++ by_option o [] (λ k. keep (keeps k (get_or text i 0)) (get_or text i 0) [])) d
