-- Batches grow line by line, and a list of lines has one list of them.
use Rattle.std.proofs.Common.{◌≡◌, ◌<◌, ◌≤◌, ◌+◌, ◌⊎◌, inl, inr, ⊎_elim, ℕ, true, false, ◌&&◌, nat_le, nat_lt, List, [], ◌∷◌, ◌++◌, length, refl, sym, ap, ◌∙◌, subst, arith, append-nil, append_assoc, length-append}
use Rattle.std.proofs.lemmas.Bool.Decides.{nat_tests}
use Rattle.front_base.specs.Line.{Line}
use Rattle.truncate_backend.specs.Tries.{bytes_of}
use Rattle.batch_backend.specs.Batches.{WithinLimits, IsBatch}
use Rattle.batch_backend.specs.declared.limits.Limits.{Limits}
use Rattle.log_ship.specs.Cuts.{joined, AllWithin, IsFull, AreFull, AreBatches, AreGathered, lines_from, could_take}

pub bytes_append : (xs ys : List Line) → bytes_of (xs ++ ys) ≡ bytes_of xs + bytes_of ys
bytes_append [] ys = omega arith
bytes_append (l ∷ ls) ys = let h = bytes_append ls ys in omega (arith, h)

pub bytes_more : (xs : List Line) (x : Line) → bytes_of (xs ++ x ∷ []) ≡ bytes_of xs + length x.bytes
bytes_more xs x = let h = bytes_append xs (x ∷ []) in omega (arith, h)

joined_more : (bs : List (List Line)) (b : List Line) → joined (bs ++ b ∷ []) ≡ joined bs ++ b
joined_more [] b = append-nil b
joined_more (c ∷ bs) b = ap (λ l. c ++ l) (joined_more bs b) ∙ sym (append_assoc c (joined bs) b)

module _ (limits : Limits) where
  -- ---- the limits

  one_within : (x : Line) → 0 < limits.lines → WithinLimits limits (x ∷ [])
  one_within x h = record { some = omega arith; lines_fit = omega (arith, h); bytes_fit = λ k. omega (arith, k) }

  more_within : (y : Line) (ys : List Line) (x : Line) → (nat_lt (length (y ∷ ys)) limits.lines && nat_le (bytes_of (y ∷ ys) + length x.bytes) limits.bytes) ≡ true
      → WithinLimits limits ((y ∷ ys) ++ x ∷ [])
  more_within y ys x e =
      let n = length-append (y ∷ ys) (x ∷ []) in
      let b = bytes_more (y ∷ ys) x in
      let few : length (y ∷ ys) < limits.lines = grind (arith, nat_tests, e) in
      let small : bytes_of (y ∷ ys) + length x.bytes ≤ limits.bytes = grind (arith, nat_tests, e) in
      record { some = omega (arith, n); lines_fit = omega (arith, n, few); bytes_fit = λ k. omega (arith, b, small) }

  pub taken_within : (pending : List Line) (x : Line) → 0 < limits.lines → could_take limits pending (length x.bytes) ≡ true → WithinLimits limits (pending ++ x ∷ [])
  taken_within [] x h e = one_within x h
  taken_within (y ∷ ys) x h e = more_within y ys x e

  not_taken_full : (pending : List Line) (x : Line) → could_take limits pending (length x.bytes) ≡ false → WithinLimits limits (pending ++ x ∷ []) → ⊥
  not_taken_full [] x e w = cc e
  not_taken_full (y ∷ ys) x e w =
      let n = length-append (y ∷ ys) (x ∷ []) in
      let b = bytes_more (y ∷ ys) x in
      let few : length (y ∷ ys) < limits.lines = let f = w.lines_fit in omega (arith, n, f) in
      let small : bytes_of (y ∷ ys) + length x.bytes ≤ limits.bytes = let f = w.bytes_fit (omega (arith, n)) in omega (arith, b, f) in
      grind (arith, nat_tests, e, few, small)

  pub as_batch : (xs : List Line) → WithinLimits limits xs → IsBatch limits xs
  as_batch [] w = tt
  as_batch (x ∷ xs) w = w

  -- ---- batches that are full

  full_at : (b js : List Line) (p : Line) (ps zs : List Line) → IsFull limits b (js ++ p ∷ ps) → IsFull limits b (js ++ (p ∷ (ps ++ zs)))
  full_at b [] p ps zs f = f
  full_at b (j ∷ js) p ps zs f = f

  full_more : (bs : List (List Line)) (p : Line) (ps zs : List Line) → AreFull limits bs (p ∷ ps) → AreFull limits bs (p ∷ (ps ++ zs))
  full_more [] p ps zs f = tt
  full_more (b ∷ bs) p ps zs f = (full_at b (joined bs) p ps zs f.0, full_more bs p ps zs f.1)

  full_push : (bs : List (List Line)) (p : Line) (ps next : List Line) → AreFull limits bs (p ∷ ps) → IsFull limits (p ∷ ps) next
      → AreFull limits (bs ++ (p ∷ ps) ∷ []) next
  full_push [] p ps next f g = (g, tt)
  full_push (b ∷ bs) p ps next f g =
      let e : joined bs ++ (p ∷ (ps ++ next)) ≡ joined (bs ++ (p ∷ ps) ∷ []) ++ next =
      sym (append_assoc (joined bs) (p ∷ ps) next) ∙ ap (λ l. l ++ next) (sym (joined_more bs (p ∷ ps))) in
      (subst (IsFull limits b) e (full_at b (joined bs) p ps next f.0), full_push bs p ps next f.1 g)

  within_push : (bs : List (List Line)) (b : List Line) → AllWithin limits bs → WithinLimits limits b → AllWithin limits (bs ++ b ∷ [])
  within_push [] b a w = (w, tt)
  within_push (c ∷ bs) b a w = (a.0, within_push bs b a.1 w)

  -- ---- one line more

  pub none : AreGathered limits [] [] []
  none = record { all = refl; within = tt; full = tt; start = refl; pends = tt }

  all_more : (lines : List Line) (bs : List (List Line)) (pending : List Line) (x : Line) → joined bs ++ pending ≡ lines
      → joined bs ++ (pending ++ x ∷ []) ≡ lines ++ x ∷ []
  all_more lines bs pending x e = sym (append_assoc (joined bs) pending (x ∷ [])) ∙ ap (λ l. l ++ x ∷ []) e

  pub joins : (lines : List Line) (bs : List (List Line)) (pending : List Line) (x : Line) → 0 < limits.lines → AreGathered limits lines bs pending
      → could_take limits pending (length x.bytes) ≡ true → AreGathered limits (lines ++ x ∷ []) bs (pending ++ x ∷ [])
  joins lines bs [] x h a e = record {
    all = all_more lines bs [] x a.all;
    within = a.within;
    full = subst (λ l. AreFull limits l (x ∷ [])) (sym a.start) tt;
    start = tt;
    pends = one_within x h;
  }
  joins lines bs (y ∷ ys) x h a e = record {
    all = all_more lines bs (y ∷ ys) x a.all;
    within = a.within;
    full = full_more bs y ys (x ∷ []) a.full;
    start = tt;
    pends = taken_within (y ∷ ys) x h e;
  }

  pub begins : (lines : List Line) (bs : List (List Line)) (pending : List Line) (x : Line) → AreGathered limits lines bs pending
      → could_take limits pending (length x.bytes) ≡ false → AreGathered limits (lines ++ x ∷ []) (bs ++ pending ∷ []) (x ∷ [])
  begins lines bs [] x a e = cc e
  begins lines bs (y ∷ ys) x a e =
      let w : WithinLimits limits (y ∷ ys) = a.pends in record {
        all = ap (λ l. l ++ x ∷ []) (joined_more bs (y ∷ ys)) ∙ ap (λ l. l ++ x ∷ []) a.all;
        within = within_push bs (y ∷ ys) a.within w;
        full = full_push bs y ys (x ∷ []) a.full (not_taken_full (y ∷ ys) x e);
        start = tt;
        pends = one_within x (let f = w.lines_fit in omega (arith, f));
      }

  pub ends : (lines : List Line) (bs : List (List Line)) → AreGathered limits lines bs [] → AreBatches limits lines bs
  ends lines bs a = record { all = sym (append-nil (joined bs)) ∙ a.all; within = a.within; full = a.full }

  pub ends_with : (lines : List Line) (bs : List (List Line)) (x : Line) (xs : List Line) → AreGathered limits lines bs (x ∷ xs)
      → AreBatches limits lines (bs ++ (x ∷ xs) ∷ [])
  ends_with lines bs x xs a = record {
    all = joined_more bs (x ∷ xs) ∙ a.all;
    within = within_push bs (x ∷ xs) a.within a.pends;
    full = full_push bs x xs [] a.full tt;
  }

  -- ---- one list of batches

  -- of two prefixes of a list one is the other, or goes on
  record GoesOn (b c x y : List Line) : Type 0 where
    next : Line
    more : List Line
    longer : c ≡ b ++ next ∷ more
    rest : x ≡ next ∷ (more ++ y)

  compared : (b c x y : List Line) → b ++ x ≡ c ++ y → (b ≡ c) ⊎ (GoesOn b c x y ⊎ GoesOn c b y x)
  compared [] [] x y e = inl refl
  compared [] (c ∷ cs) x y e = inr (inl (record { next = c; more = cs; longer = refl; rest = e }))
  compared (b ∷ bs) [] x y e = inr (inr (record { next = b; more = bs; longer = refl; rest = sym e }))
  compared (b ∷ bs) (c ∷ cs) x y e =
      let h : b ≡ c = cc e in
      let t : bs ++ x ≡ cs ++ y = cc e in
      ⊎_elim
      (λ (q : bs ≡ cs). inl (cc (h, q)))
      (⊎_elim
      (λ (g : GoesOn bs cs x y). inr (inl (record { next = g.next; more = g.more; longer = ap (λ l. c ∷ l) g.longer ∙ ap (λ z. z ∷ (bs ++ g.next ∷ g.more)) (sym h); rest = g.rest })))
      (λ (g : GoesOn cs bs y x). inr (inr (record { next = g.next; more = g.more; longer = ap (λ l. b ∷ l) g.longer ∙ ap (λ z. z ∷ (cs ++ g.next ∷ g.more)) h; rest = g.rest }))))
      (compared bs cs x y t)

  front_within : (b : List Line) (z : Line) (zs : List Line) → WithinLimits limits (b ++ z ∷ zs) → WithinLimits limits (b ++ z ∷ [])
  front_within b z zs w =
      let n = length-append b (z ∷ zs) in
      let k = length-append b (z ∷ []) in
      let i = bytes_append b (z ∷ zs) in
      let j = bytes_append b (z ∷ []) in record {
        some = omega (arith, k);
        lines_fit = let f = w.lines_fit in omega (arith, n, k, f);
        bytes_fit = λ q. let f = w.bytes_fit (omega (arith, n, k, q)) in omega (arith, i, j, f);
      }

  not_longer : (b c x y : List Line) → IsFull limits b (x ++ []) → WithinLimits limits c → GoesOn b c x y → ⊥
  not_longer b c x y f w g =
      let full : WithinLimits limits (b ++ g.next ∷ []) → ⊥ = subst (λ l. IsFull limits b l) (append-nil x ∙ g.rest) f in
      full (front_within b g.next g.more (subst (WithinLimits limits) g.longer w))

  -- lists of batches of the same lines are equal
  rest_same : (b : List Line) (x y : List Line) → b ++ x ≡ b ++ y → x ≡ y
  rest_same [] x y e = e
  rest_same (l ∷ ls) x y e = rest_same ls x y (cc e)

  not_none : (b x : List Line) → WithinLimits limits b → [] ≡ b ++ x → ⊥
  not_none [] x w e = let s = w.some in omega (arith, s)
  not_none (l ∷ ls) x w e = cc e

  pub same : (bs cs : List (List Line)) → joined bs ≡ joined cs → AllWithin limits bs → AllWithin limits cs → AreFull limits bs [] → AreFull limits cs [] → bs ≡ cs
  same [] [] e v w f g = refl
  same [] (c ∷ cs) e v w f g = absurd (not_none c (joined cs) w.0 e)
  same (b ∷ bs) [] e v w f g = absurd (not_none b (joined bs) v.0 (sym e))
  same (b ∷ bs) (c ∷ cs) e v w f g =
      let q : b ≡ c =
      ⊎_elim (λ (q : b ≡ c). q)
      (⊎_elim (λ (l : GoesOn b c (joined bs) (joined cs)). absurd (not_longer b c (joined bs) (joined cs) f.0 w.0 l))
      (λ (l : GoesOn c b (joined cs) (joined bs)). absurd (not_longer c b (joined cs) (joined bs) g.0 v.0 l)))
      (compared b c (joined bs) (joined cs) e) in
      let t : joined bs ≡ joined cs = rest_same b (joined bs) (joined cs) (e ∙ ap (λ l. l ++ joined cs) (sym q)) in
      cc (q, same bs cs t v.1 w.1 f.1 g.1)

  pub one_list : (lines : List Line) (bs cs : List (List Line)) → AreBatches limits lines bs → AreBatches limits lines cs → bs ≡ cs
  one_list lines bs cs p q = same bs cs (p.all ∙ sym q.all) p.within q.within p.full q.full

pub numbers : (n : ℕ) (texts : List (List ℕ)) (text : List ℕ)
    → lines_from n (texts ++ text ∷ []) ≡ lines_from n texts ++ record { bay = 0; number = n + length texts; bytes = text } ∷ []
numbers n [] text =
    let e : n ≡ n + length {A = List ℕ} [] = omega arith in
    ap (λ k. record { bay = 0; number = k; bytes = text } ∷ []) e
numbers n (t ∷ texts) text =
    let e : n + 1 + length texts ≡ n + length (t ∷ texts) = omega arith in
    ap (λ l. record { bay = 0; number = n; bytes = t } ∷ l)
    (numbers (n + 1) texts text ∙ ap (λ k. lines_from (n + 1) texts ++ record { bay = 0; number = k; bytes = text } ∷ []) e)
