-- What a search of `matchit` answers on rows that share a front.
use Rattle.std.proofs.Common.{◌≡◌, ℕ, zero, suc, ◌<◌, ◌-◌, Bool, true, false, cond, List, [], ◌∷◌, ◌++◌, length, Option, Some, None, nat_eq, refl, ap, sym, ◌∙◌, ⊎_elim, arith, append-nil, eq-eqb, All}
use Rattle.std.proofs.lemmas.Bool.{cond-true, cond-false}
use Rattle.std.proofs.lemmas.List.Elements.{All-head, All-tail}
use Rattle.matchit.specs.Rows.{RowsOf, param_token, catch_all_token}
use Rattle.matchit.specs.Seek.{own, step, or_else, seek, param_step, has_slash}
use Rattle.local_replies.specs.Paths.{behind}
use Rattle.local_replies.specs.Router.{IsByte}
use Rattle.local_replies.proofs.BehindLemmas.{apart_test, same_or_apart, behind_same, behind_apart, behind_nothing, behind_all}

module _ {K : Type 0} where
  -- what the rest gives, if there is one, and else the other answer
  abbrev pub on_rest : Option (List ℕ) → (List ℕ → Option K) → Option K → Option K
  on_rest None go other = other
  on_rest (Some text) go other = go text

  -- nothing follows
  abbrev pub at_end : K → List ℕ → Option K
  at_end key [] = Some key
  at_end key (b ∷ text) = None

  -- one part follows, which is not empty
  abbrev pub at_part : K → List ℕ → Option K
  at_part key [] = None
  at_part key (b ∷ text) = cond (has_slash (b ∷ text)) None (Some key)

  -- something follows
  abbrev pub at_more : K → List ℕ → Option K
  at_more key [] = None
  at_more key (b ∷ text) = Some key

  -- each row with this token in front, and with these tokens
  abbrev pub fronted : ℕ → RowsOf K → RowsOf K
  fronted x [] = []
  fronted x ((t, k) ∷ rest) = (x ∷ t, k) ∷ fronted x rest

  abbrev pub fronted_by : List ℕ → RowsOf K → RowsOf K
  fronted_by [] rs = rs
  fronted_by (x ∷ front) rs = fronted x (fronted_by front rs)

  -- no row starts with a parameter
  pub record IsStatic (rs : RowsOf K) : Type 0 where
    pub no_param : step param_token rs ≡ []
    pub no_catch_all : step catch_all_token rs ≡ []

  or_none : (o : Option K) → or_else o None ≡ o
  or_none None = refl
  or_none (Some k) = refl

  none_of_pair : (t : Bool) (m n : ℕ) → (cond {A = ℕ × RowsOf K} t (m, []) (n, [])).1 ≡ []
  none_of_pair true m n = refl
  none_of_pair false m n = refl

  param_step-nil : (path : List ℕ) → (param_step {K = K} [] path).1 ≡ []
  unfolding param_step
  param_step-nil path = none_of_pair (has_slash path) 0 (length path)

  -- no rows, no route
  pub seek-nil : (skip : ℕ) (path : List ℕ) → seek {K = K} skip [] path ≡ None
  unfolding seek
  seek-nil skip [] = refl
  seek-nil (suc skip) (b ∷ path) = seek-nil skip path
  seek-nil zero (b ∷ path) =
      rw (seek-nil 0 path, param_step-nil (b ∷ path)) (rw (seek-nil _ path) refl)

  by_param : (rs : RowsOf K) (path rest : List ℕ) → rs ≡ [] → seek ((param_step rs path).0 - 1) (param_step rs path).1 rest ≡ None
  by_param rs path rest e =
      ap (λ r. seek ((param_step r path).0 - 1) (param_step r path).1 rest) e
      ∙ ap (λ r. seek ((param_step {K = K} [] path).0 - 1) r rest) (param_step-nil path) ∙ seek-nil _ rest

  -- one byte of the path, where no row starts with a parameter
  pub seek_static : (rs : RowsOf K) (b : ℕ) (path : List ℕ) → IsStatic rs → seek 0 rs (b ∷ path) ≡ seek 0 (step b rs) path
  unfolding seek
  seek_static rs b path static =
      rw (by_param (step param_token rs) (b ∷ path) path static.no_param, static.no_catch_all) (or_none (seek 0 (step b rs) path))

  step_same : (x b : ℕ) (rs : RowsOf K) → x ≡ b → step b (fronted x rs) ≡ rs
  step_same x b [] e = refl
  step_same x b ((t, k) ∷ rest) e = cond-true _ _ _ (eq-eqb x b e) ∙ ap (λ r. (t, k) ∷ r) (step_same x b rest e)

  step_apart : (x b : ℕ) (rs : RowsOf K) → (x ≡ b → ⊥) → step b (fronted x rs) ≡ []
  step_apart x b [] apart = refl
  step_apart x b ((t, k) ∷ rest) apart = cond-false _ _ _ (apart_test x b apart) ∙ step_apart x b rest apart

  choice-append : (here : Bool) (row : List ℕ × K) (all rs ss : RowsOf K) → all ≡ rs ++ ss → cond here (row ∷ all) all ≡ cond here (row ∷ rs) rs ++ ss
  choice-append true row all rs ss e = ap (λ r. row ∷ r) e
  choice-append false row all rs ss e = e

  step-append : (b : ℕ) (rs ss : RowsOf K) → step b (rs ++ ss) ≡ step b rs ++ step b ss
  step-append b [] ss = refl
  step-append b (([], k) ∷ rest) ss = step-append b rest ss
  step-append b ((x ∷ t, k) ∷ rest) ss = choice-append (nat_eq x b) (t, k) _ (step b rest) (step b ss) (step-append b rest ss)

  own-fronted : (x : ℕ) (rs : RowsOf K) → own (fronted x rs) ≡ None
  own-fronted x [] = refl
  own-fronted x ((t, k) ∷ rest) = own-fronted x rest

  own-append : (rs ss : RowsOf K) → own (rs ++ ss) ≡ or_else (own rs) (own ss)
  own-append [] ss = refl
  own-append (([], k) ∷ rest) ss = refl
  own-append ((x ∷ t, k) ∷ rest) ss = own-append rest ss

  pub front_is_static : (x : ℕ) (rs : RowsOf K) → x < 256 → IsStatic (fronted x rs)
  front_is_static x rs small = record {
    no_param = step_apart x 256 rs (λ e. omega (arith, e));
    no_catch_all = step_apart x 257 rs (λ e. omega (arith, e));
  }

  nil_both : (a b : RowsOf K) → a ≡ [] → b ≡ [] → a ++ b ≡ []
  nil_both a b p q = rw (p, q) refl

  pub append_is_static : (rs ss : RowsOf K) → IsStatic rs → IsStatic ss → IsStatic (rs ++ ss)
  append_is_static rs ss a b = record {
    no_param = step-append 256 rs ss ∙ nil_both _ _ a.no_param b.no_param;
    no_catch_all = step-append 257 rs ss ∙ nil_both _ _ a.no_catch_all b.no_catch_all;
  }

  seek_empty : (rs : RowsOf K) → seek 0 rs [] ≡ own rs
  unfolding seek
  seek_empty rs = refl

  -- rows behind a front alone
  pub seek-fronted_by : (front : List ℕ) (rs : RowsOf K) (text : List ℕ) → All IsByte front → seek 0 (fronted_by front rs) text ≡ on_rest (behind front text) (seek 0 rs) None
  seek-fronted_by [] rs text small = ap (λ o. on_rest o (seek 0 rs) None) (sym (behind_all text))
  seek-fronted_by (x ∷ front) rs [] small =
      seek_empty (fronted x (fronted_by front rs)) ∙ own-fronted x (fronted_by front rs) ∙ ap (λ o. on_rest o (seek 0 rs) None) (sym (behind_nothing x front))
  seek-fronted_by (x ∷ front) rs (b ∷ text) small =
      seek_static _ b text (front_is_static x (fronted_by front rs) (All-head IsByte x front small))
      ∙ ⊎_elim
      (λ (e : x ≡ b). ap (λ r. seek 0 r text) (step_same x b (fronted_by front rs) e)
      ∙ seek-fronted_by front rs text (All-tail IsByte x front small)
      ∙ ap (λ o. on_rest o (seek 0 rs) None) (sym (behind_same x b front text e)))
      (λ (apart : x ≡ b → ⊥). ap (λ r. seek 0 r text) (step_apart x b (fronted_by front rs) apart)
      ∙ seek-nil 0 text
      ∙ ap (λ o. on_rest o (seek 0 rs) None) (sym (behind_apart x b front text apart)))
      (same_or_apart x b)

  -- rows behind a front, and others that start otherwise
  pub seek_split : (x : ℕ) (front : List ℕ) (rs others : RowsOf K) (text : List ℕ) → All IsByte (x ∷ front) → IsStatic others → step x others ≡ [] → seek 0 (fronted x (fronted_by front rs) ++ others) text ≡ on_rest (behind (x ∷ front) text) (seek 0 rs) (seek 0 others text)
  seek_split x front rs others [] small static none =
      seek_empty (fronted x (fronted_by front rs) ++ others) ∙ own-append (fronted x (fronted_by front rs)) others
      ∙ ap (λ o. or_else o (own others)) (own-fronted x (fronted_by front rs))
      ∙ sym (seek_empty others)
      ∙ ap (λ o. on_rest o (seek 0 rs) (seek 0 others [])) (sym (behind_nothing x front))
  seek_split x front rs others (b ∷ text) small static none =
      let here = fronted_by front rs in
      seek_static _ b text (append_is_static (fronted x here) others (front_is_static x here (All-head IsByte x front small)) static)
      ∙ ap (λ r. seek 0 r text) (step-append b (fronted x here) others)
      ∙ ⊎_elim
      (λ (e : x ≡ b).
      let gone : step b others ≡ [] = ap (λ z. step z others) (sym e) ∙ none in
      let rest : seek 0 others (b ∷ text) ≡ None = seek_static others b text static ∙ ap (λ r. seek 0 r text) gone ∙ seek-nil 0 text in
      let rows : step b (fronted x here) ++ step b others ≡ here = ap (λ r. r ++ step b others) (step_same x b here e) ∙ ap (λ r. here ++ r) gone ∙ append-nil here in
      ap (λ r. seek 0 r text) rows
      ∙ seek-fronted_by front rs text (All-tail IsByte x front small)
      ∙ ap (λ o. on_rest o (seek 0 rs) None) (sym (behind_same x b front text e))
      ∙ ap (λ o. on_rest (behind (x ∷ front) (b ∷ text)) (seek 0 rs) o) (sym rest))
      (λ (apart : x ≡ b → ⊥).
      let rows : step b (fronted x here) ++ step b others ≡ step b others = ap (λ r. r ++ step b others) (step_apart x b here apart) in
      ap (λ r. seek 0 r text) rows
      ∙ sym (seek_static others b text static)
      ∙ ap (λ o. on_rest o (seek 0 rs) (seek 0 others (b ∷ text))) (sym (behind_apart x b front text apart)))
      (same_or_apart x b)

  -- a route that ends here
  pub seek_end : (k : K) (text : List ℕ) → seek 0 (([], k) ∷ []) text ≡ at_end k text
  seek_end k [] = seek_empty (([], k) ∷ [])
  seek_end k (b ∷ text) =
      seek_static (([], k) ∷ []) b text (record { no_param = refl; no_catch_all = refl }) ∙ seek-nil 0 text

  seek_all : (rs : RowsOf K) (text : List ℕ) → seek (length text) rs text ≡ own rs
  unfolding seek
  seek_all rs [] = refl
  seek_all rs (b ∷ text) = seek_all rs text

  pick_param : (slash : Bool) (rs : RowsOf K) (k : K) (b : ℕ) (text : List ℕ) → own rs ≡ Some k → seek ((cond {A = ℕ × RowsOf K} slash (0, []) (length (b ∷ text), rs)).0 - 1) (cond {A = ℕ × RowsOf K} slash (0, []) (length (b ∷ text), rs)).1 text ≡ cond slash None (Some k)
  pick_param true rs k b text e = seek-nil _ text
  pick_param false rs k b text e =
      let n : length (b ∷ text) - 1 ≡ length text = omega arith in
      ap (λ m. seek m rs text) n ∙ seek_all rs text ∙ e

  by_one : (k : K) (b : ℕ) (text : List ℕ) → seek ((param_step (([], k) ∷ []) (b ∷ text)).0 - 1) (param_step (([], k) ∷ []) (b ∷ text)).1 text ≡ cond (has_slash (b ∷ text)) None (Some k)
  unfolding param_step
  by_one k b text = pick_param (has_slash (b ∷ text)) (([], k) ∷ []) k b text refl

  wild_step : (w b : ℕ) (k : K) → b < w → step b ((w ∷ [], k) ∷ []) ≡ []
  wild_step w b k h = cond-false _ _ _ (apart_test w b (λ e. omega (arith, e, h)))

  seek_step : (rs : RowsOf K) (b : ℕ) (text : List ℕ) → seek 0 rs (b ∷ text) ≡ or_else (seek 0 (step b rs) text) (or_else (seek ((param_step (step param_token rs) (b ∷ text)).0 - 1) (param_step (step param_token rs) (b ∷ text)).1 text) (own (step catch_all_token rs)))
  unfolding seek
  seek_step rs b text = refl

  merge : (a o : Option K) → or_else a (or_else o None) ≡ or_else a o
  merge None o = or_none o
  merge (Some k) o = refl

  -- a parameter after other rows
  pub seek_part : (rs : RowsOf K) (k : K) (text : List ℕ) → All IsByte text → IsStatic rs → seek 0 (rs ++ ((param_token ∷ [], k) ∷ [])) text ≡ or_else (seek 0 rs text) (at_part k text)
  seek_part rs k [] small static =
      seek_empty (rs ++ ((param_token ∷ [], k) ∷ [])) ∙ own-append rs ((param_token ∷ [], k) ∷ []) ∙ ap (λ o. or_else o None) (sym (seek_empty rs))
  seek_part rs k (b ∷ text) small static =
      let last : RowsOf K = (param_token ∷ [], k) ∷ [] in
      let params : step param_token (rs ++ last) ≡ ([], k) ∷ [] = step-append param_token rs last ∙ ap (λ r. r ++ (([], k) ∷ [])) static.no_param in
      let ends : step catch_all_token (rs ++ last) ≡ [] = step-append catch_all_token rs last ∙ ap (λ r. r ++ []) static.no_catch_all in
      let byte : step b (rs ++ last) ≡ step b rs = step-append b rs last ∙ ap (λ r. step b rs ++ r) (wild_step 256 b k (All-head IsByte b text small)) ∙ append-nil (step b rs) in
      seek_step (rs ++ last) b text
      ∙ rw (byte, params, ends, by_one k b text, seek_static rs b text static) (merge (seek 0 (step b rs) text) (at_part k (b ∷ text)))

  -- a catch-all after other rows
  pub seek_more : (rs : RowsOf K) (k : K) (text : List ℕ) → All IsByte text → IsStatic rs → seek 0 (rs ++ ((catch_all_token ∷ [], k) ∷ [])) text ≡ or_else (seek 0 rs text) (at_more k text)
  seek_more rs k [] small static =
      seek_empty (rs ++ ((catch_all_token ∷ [], k) ∷ [])) ∙ own-append rs ((catch_all_token ∷ [], k) ∷ []) ∙ ap (λ o. or_else o None) (sym (seek_empty rs))
  seek_more rs k (b ∷ text) small static =
      let last : RowsOf K = (catch_all_token ∷ [], k) ∷ [] in
      let params : step param_token (rs ++ last) ≡ [] = step-append param_token rs last ∙ ap (λ r. r ++ []) static.no_param in
      let ends : step catch_all_token (rs ++ last) ≡ ([], k) ∷ [] = step-append catch_all_token rs last ∙ ap (λ r. r ++ (([], k) ∷ [])) static.no_catch_all in
      let low : b < 256 = All-head IsByte b text small in
      let byte : step b (rs ++ last) ≡ step b rs = step-append b rs last ∙ ap (λ r. step b rs ++ r) (wild_step 257 b k (omega arith)) ∙ append-nil (step b rs) in
      seek_step (rs ++ last) b text
      ∙ rw (byte, by_param (step param_token (rs ++ last)) (b ∷ text) text params, ends, seek_static rs b text static) refl

-- two ways to go on that agree on bytes
pub on_rest_same : {K : Type 0} → (front text : List ℕ) (f g : List ℕ → Option K) (other : Option K) → All IsByte text → ((rest : List ℕ) → All IsByte rest → f rest ≡ g rest) → on_rest (behind front text) f other ≡ on_rest (behind front text) g other
on_rest_same [] text f g other small same =
    ap (λ o. on_rest o f other) (behind_all text) ∙ same text small ∙ ap (λ o. on_rest o g other) (sym (behind_all text))
on_rest_same (x ∷ front) [] f g other small same =
    ap (λ o. on_rest o f other) (behind_nothing x front) ∙ ap (λ o. on_rest o g other) (sym (behind_nothing x front))
on_rest_same (x ∷ front) (b ∷ text) f g other small same =
    ⊎_elim
    (λ (e : x ≡ b). ap (λ o. on_rest o f other) (behind_same x b front text e)
    ∙ on_rest_same front text f g other (All-tail IsByte b text small) same
    ∙ ap (λ o. on_rest o g other) (sym (behind_same x b front text e)))
    (λ (apart : x ≡ b → ⊥). ap (λ o. on_rest o f other) (behind_apart x b front text apart) ∙ ap (λ o. on_rest o g other) (sym (behind_apart x b front text apart)))
    (same_or_apart x b)
