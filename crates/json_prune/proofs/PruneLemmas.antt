-- What two paths leave of a value, and what they leave alone.
use Rattle.std.proofs.Common.{◌≡◌, ℕ, ◌+◌, ◌≤◌, ◌∷◌, [], ◌++◌, List, length, Bool, true, false, cond, Option, Some, None, refl, sym, ap, ◌∙◌, subst, arith, max, length-append}
use Rattle.std.specs.Prelude.{bytes_eq}
use Rattle.json_span.specs.Strings.{IsString}
use Rattle.json_span.specs.Value.{Value, token, array, object, Items, no_items, item, Members, no_members, member, flat, flat_items, flat_members, comma_if, depth, depth_items, depth_members}
use Rattle.json_span.specs.Member.{in_quotes}
use Rattle.json_prune.specs.Prune.{Path, dropped, at_name, at_each, star, prune}
use Rattle.json_prune.specs.Tokens.{HasTokens, ItemsHaveTokens, MembersHaveTokens}
use Rattle.json_prune.specs.Walk.{into_member, into_items, if_both, prune_both, member_if, members_left, items_left}

-- ---- one path

abbrev pub keep_one : Option Path → List ℕ → Value → Members → Members
keep_one None n v ms = ms
keep_one (Some p) n v ms = member n (prune p v) ms

-- the members that one path leaves
abbrev pub left : Path → Members → Members
left p no_members = no_members
left p (member n v ms) = keep_one (into_member p n) n v (left p ms)

left_none : (ms : Members) → ms ≡ left [] ms
left_none no_members = refl
left_none (member n v ms) = ap (member n v) (left_none ms)

left_last : (name : List ℕ) (ms : Members) → dropped name ms ≡ left (name ∷ []) ms
left_last name no_members = refl
left_last name (member n v ms) = by_name (bytes_eq n (in_quotes name)) (left_last name ms)
  where
    by_name : (c : Bool) → dropped name ms ≡ left (name ∷ []) ms → cond c (dropped name ms) (member n v (dropped name ms)) ≡ keep_one (cond c None (Some [])) n v (left (name ∷ []) ms)
    by_name true h = h
    by_name false h = ap (member n v) h

left_next : (name next : List ℕ) (path : Path) (ms : Members) → at_name (prune (next ∷ path)) name ms ≡ left (name ∷ next ∷ path) ms
left_next name next path no_members = refl
left_next name next path (member n v ms) = by_name (bytes_eq n (in_quotes name)) (left_next name next path ms)
  where
    by_name : (c : Bool) → at_name (prune (next ∷ path)) name ms ≡ left (name ∷ next ∷ path) ms → member n (cond c (prune (next ∷ path) v) v) (at_name (prune (next ∷ path)) name ms) ≡ keep_one (cond c (Some (next ∷ path)) (Some [])) n v (left (name ∷ next ∷ path) ms)
    by_name true h = ap (member n (prune (next ∷ path) v)) h
    by_name false h = ap (member n v) h

pub prune-object : (p : Path) (ms : Members) → prune p (object ms) ≡ object (left p ms)
prune-object [] ms = ap object (left_none ms)
prune-object (name ∷ []) ms = ap object (left_last name ms)
prune-object (name ∷ next ∷ path) ms = ap object (left_next name next path ms)

each_none : (vs : Items) → vs ≡ at_each (prune []) vs
each_none no_items = refl
each_none (item v vs) = ap (item v) (each_none vs)

pub prune-array : (p : Path) (vs : Items) → prune p (array vs) ≡ array (at_each (prune (into_items p)) vs)
prune-array [] vs = ap array (each_none vs)
prune-array (name ∷ []) vs = ap array (each_none vs)
prune-array (name ∷ next ∷ path) vs = by_name (bytes_eq star name)
  where
    by_name : (c : Bool) → cond c (array (at_each (prune (next ∷ path)) vs)) (array vs) ≡ array (at_each (prune (cond c (next ∷ path) [])) vs)
    by_name true = refl
    by_name false = ap array (each_none vs)

pub prune-token : (p : Path) (t : List ℕ) → prune p (token t) ≡ token t
prune-token [] t = refl
prune-token (name ∷ []) t = refl
prune-token (name ∷ next ∷ path) t = refl

-- ---- two paths

left-left : (p q : Path) (ms : Members) → left q (left p ms) ≡ members_left p q ms
left-left p q no_members = refl
left-left p q (member n v ms) = by_first (into_member p n) (left-left p q ms)
  where
    by_second : (r : Path) (o : Option Path) → left q (left p ms) ≡ members_left p q ms → keep_one o n (prune r v) (left q (left p ms)) ≡ member_if (if_both (Some r) o) n v (members_left p q ms)
    by_second r None h = h
    by_second r (Some s) h = ap (member n (prune s (prune r v))) h

    by_first : (o : Option Path) → left q (left p ms) ≡ members_left p q ms → left q (keep_one o n v (left p ms)) ≡ member_if (if_both o (into_member q n)) n v (members_left p q ms)
    by_first None h = h
    by_first (Some r) h = by_second r (into_member q n) h

pub both-object : (p q : Path) (ms : Members) → prune_both p q (object ms) ≡ object (members_left p q ms)
both-object p q ms = ap (prune q) (prune-object p ms) ∙ (prune-object q (left p ms) ∙ ap object (left-left p q ms))

each-each : (f g : Value → Value) (vs : Items) → at_each g (at_each f vs) ≡ at_each (λ v. g (f v)) vs
each-each f g no_items = refl
each-each f g (item v vs) = ap (item (g (f v))) (each-each f g vs)

pub both-array : (p q : Path) (vs : Items) → prune_both p q (array vs) ≡ array (items_left p q vs)
both-array p q vs =
    ap (prune q) (prune-array p vs)
    ∙ (prune-array q (at_each (prune (into_items p)) vs) ∙ ap array (each-each (prune (into_items p)) (prune (into_items q)) vs))

pub both-token : (p q : Path) (t : List ℕ) → prune_both p q (token t) ≡ token t
both-token p q t = ap (prune q) (prune-token p t) ∙ prune-token q t

-- ---- the order of two paths, and one path twice

either_order : (o u : Option Path) (n : List ℕ) (v : Value) (ms ns : Members) → ((r s : Path) → prune_both r s v ≡ prune_both s r v) → ms ≡ ns → member_if (if_both o u) n v ms ≡ member_if (if_both u o) n v ns
either_order None None n v ms ns h e = e
either_order None (Some s) n v ms ns h e = e
either_order (Some r) None n v ms ns h e = e
either_order (Some r) (Some s) n v ms ns h e = ap (λ w. member n w ms) (h r s) ∙ ap (member n (prune_both s r v)) e

mutual
  pub prune_comm : (p q : Path) (v : Value) → prune_both p q v ≡ prune_both q p v
  prune_comm p q (token t) = both-token p q t ∙ sym (both-token q p t)
  prune_comm p q (array vs) = both-array p q vs ∙ (ap array (items_comm (into_items p) (into_items q) vs) ∙ sym (both-array q p vs))
  prune_comm p q (object ms) = both-object p q ms ∙ (ap object (members_comm p q ms) ∙ sym (both-object q p ms))

  items_comm : (p q : Path) (vs : Items) → at_each (prune_both p q) vs ≡ at_each (prune_both q p) vs
  items_comm p q no_items = refl
  items_comm p q (item v vs) = ap (λ w. item w (at_each (prune_both p q) vs)) (prune_comm p q v) ∙ ap (item (prune_both q p v)) (items_comm p q vs)

  members_comm : (p q : Path) (ms : Members) → members_left p q ms ≡ members_left q p ms
  members_comm p q no_members = refl
  members_comm p q (member n v ms) = either_order (into_member p n) (into_member q n) n v (members_left p q ms) (members_left q p ms) (λ r s. prune_comm r s v) (members_comm p q ms)

same_option : (o : Option Path) (n : List ℕ) (v : Value) (ms ns : Members) → ((r : Path) → prune r (prune r v) ≡ prune r v) → ms ≡ ns → member_if (if_both o o) n v ms ≡ keep_one o n v ns
same_option None n v ms ns h e = e
same_option (Some r) n v ms ns h e = ap (λ w. member n w ms) (h r) ∙ ap (member n (prune r v)) e

mutual
  pub prune_once : (p : Path) (v : Value) → prune p (prune p v) ≡ prune p v
  prune_once p (token t) = both-token p p t ∙ sym (prune-token p t)
  prune_once p (array vs) = both-array p p vs ∙ (ap array (items_once (into_items p) vs) ∙ sym (prune-array p vs))
  prune_once p (object ms) = both-object p p ms ∙ (ap object (members_once p ms) ∙ sym (prune-object p ms))

  items_once : (p : Path) (vs : Items) → at_each (prune_both p p) vs ≡ at_each (prune p) vs
  items_once p no_items = refl
  items_once p (item v vs) = ap (λ w. item w (at_each (prune_both p p) vs)) (prune_once p v) ∙ ap (item (prune p v)) (items_once p vs)

  members_once : (p : Path) (ms : Members) → members_left p p ms ≡ left p ms
  members_once p no_members = refl
  members_once p (member n v ms) = same_option (into_member p n) n v (members_left p p ms) (left p ms) (λ r. prune_once r v) (members_once p ms)

-- ---- what is left is a value of JSON, and no deeper or longer

one_tokens : (o : Option Path) (n : List ℕ) (v : Value) (ms : Members) → IsString n → ((r : Path) → HasTokens (prune r v)) → MembersHaveTokens ms → MembersHaveTokens (keep_one o n v ms)
one_tokens None n v ms s h k = k
one_tokens (Some r) n v ms s h k = (s, h r, k)

mutual
  pub prune_tokens : (p : Path) (v : Value) → HasTokens v → HasTokens (prune p v)
  prune_tokens p (token t) h = subst HasTokens (sym (prune-token p t)) h
  prune_tokens p (array vs) h = subst HasTokens (sym (prune-array p vs)) (items_tokens (into_items p) vs h)
  prune_tokens p (object ms) h = subst HasTokens (sym (prune-object p ms)) (members_tokens p ms h)

  items_tokens : (p : Path) (vs : Items) → ItemsHaveTokens vs → ItemsHaveTokens (at_each (prune p) vs)
  items_tokens p no_items h = tt
  items_tokens p (item v vs) h = (prune_tokens p v h.0, items_tokens p vs h.1)

  members_tokens : (p : Path) (ms : Members) → MembersHaveTokens ms → MembersHaveTokens (left p ms)
  members_tokens p no_members h = tt
  members_tokens p (member n v ms) h = one_tokens (into_member p n) n v (left p ms) h.0 (λ r. prune_tokens r v h.1) (members_tokens p ms h.2)

one_depth : (o : Option Path) (n : List ℕ) (v : Value) (ms ns : Members) → ((r : Path) → depth (prune r v) ≤ depth v) → depth_members ms ≤ depth_members ns → depth_members (keep_one o n v ms) ≤ max (depth v) (depth_members ns)
one_depth None n v ms ns h k = omega arith
one_depth (Some r) n v ms ns h k = let one = h r in omega arith

mutual
  pub prune_depth : (p : Path) (v : Value) → depth (prune p v) ≤ depth v
  prune_depth p (token t) = rw prune-token (omega arith)
  prune_depth p (array vs) = let h = items_depth (into_items p) vs in rw prune-array (omega arith)
  prune_depth p (object ms) = let h = members_depth p ms in rw prune-object (omega arith)

  items_depth : (p : Path) (vs : Items) → depth_items (at_each (prune p) vs) ≤ depth_items vs
  items_depth p no_items = omega arith
  items_depth p (item v vs) = let h = prune_depth p v in let k = items_depth p vs in omega arith

  members_depth : (p : Path) (ms : Members) → depth_members (left p ms) ≤ depth_members ms
  members_depth p no_members = omega arith
  members_depth p (member n v ms) = one_depth (into_member p n) n v (left p ms) ms (λ r. prune_depth r v) (members_depth p ms)

-- the first of the members has no comma
first_shorter : (ms : Members) → length (flat_members false ms) ≤ length (flat_members true ms)
first_shorter no_members = omega arith
first_shorter (member n v ms) = omega arith

either_comma : (later : Bool) (ms : Members) → length (flat_members later ms) ≤ length (comma_if later) + length (flat_members true ms)
either_comma true ms = omega arith
either_comma false ms = let h = first_shorter ms in omega arith

one_shorter : (o : Option Path) (later : Bool) (n : List ℕ) (v : Value) (ms ns : Members) → ((r : Path) → length (flat (prune r v)) ≤ length (flat v))
    → ((l : Bool) → length (flat_members l ms) ≤ length (flat_members l ns)) → length (flat_members later (keep_one o n v ms)) ≤ length (flat_members later (member n v ns))
one_shorter (Some r) later n v ms ns h k =
    let one = h r in
    let more = k true in
    omega (arith, length-append (comma_if later) (n ++ (58 ∷ (flat (prune r v) ++ flat_members true ms))), length-append n (58 ∷ (flat (prune r v) ++ flat_members true ms)), length-append (flat (prune r v)) (flat_members true ms), length-append (comma_if later) (n ++ (58 ∷ (flat v ++ flat_members true ns))), length-append n (58 ∷ (flat v ++ flat_members true ns)), length-append (flat v) (flat_members true ns))
one_shorter None later n v ms ns h k =
    let more = k true in
    let first = first_shorter ms in
    let here = k later in
    omega (arith, either_comma later ms, length-append (comma_if later) (n ++ (58 ∷ (flat v ++ flat_members true ns))), length-append n (58 ∷ (flat v ++ flat_members true ns)), length-append (flat v) (flat_members true ns))

mutual
  pub prune_shorter : (p : Path) (v : Value) → length (flat (prune p v)) ≤ length (flat v)
  prune_shorter p (token t) = rw prune-token (omega arith)
  prune_shorter p (array vs) = let h = items_shorter (into_items p) false vs in rw prune-array (omega arith)
  prune_shorter p (object ms) = let h = members_shorter p false ms in rw prune-object (omega arith)

  items_shorter : (p : Path) (later : Bool) (vs : Items) → length (flat_items later (at_each (prune p) vs)) ≤ length (flat_items later vs)
  items_shorter p later no_items = omega arith
  items_shorter p later (item v vs) =
      let h = prune_shorter p v in
      let k = items_shorter p true vs in
      omega (arith, length-append (comma_if later) (flat v ++ flat_items true vs), length-append (flat v) (flat_items true vs), length-append (comma_if later) (flat (prune p v) ++ flat_items true (at_each (prune p) vs)), length-append (flat (prune p v)) (flat_items true (at_each (prune p) vs)))

  members_shorter : (p : Path) (later : Bool) (ms : Members) → length (flat_members later (left p ms)) ≤ length (flat_members later ms)
  members_shorter p later no_members = omega arith
  members_shorter p later (member n v ms) = one_shorter (into_member p n) later n v (left p ms) ms (λ r. prune_shorter r v) (λ l. members_shorter p l ms)
