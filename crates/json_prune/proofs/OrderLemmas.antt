-- Strings may be mended before members are left out, or after.
use Rattle.std.proofs.Common.{◌≡◌, ℕ, ◌∷◌, [], List, Bool, true, false, cond, Option, Some, None, refl, sym, ap, ◌∙◌, arith}
use Rattle.std.specs.Prelude.{◌==◌, ◌&&◌, not, bytes_eq, nat_eq, MatchOption}
use Rattle.std.proofs.lemmas.Bool.Decides.{nat_tests}
use Rattle.json_span.specs.Value.{Value, token, array, object, Items, no_items, item, Members, no_members, member}
use Rattle.json_span.specs.Member.{in_quotes}
use Rattle.json_prune.specs.Mend.{instead, mend_behind, mend, mended, mended_items, mended_members}
use Rattle.json_prune.specs.Prune.{Path, at_each, star, prune, own_fields, fields_of_items, fields_of_rows, is_token, says_table, is_table, rows_pruned, managed}
use Rattle.json_prune.specs.Walk.{into_member, into_items}
use Rattle.json_prune.proofs.HalfLemmas.{both_true}
use Rattle.json_prune.proofs.PruneLemmas.{keep_one, left, prune-object, prune-array, prune-token}
use Rattle.json_prune.proofs.TableLemmas.{both_pruned, kind, table}

-- no backslash
abbrev is_bare : List ℕ → Bool
is_bare [] = true
is_bare (b ∷ bs) = not (b == 92) && is_bare bs

abbrev are_bare : Path → Bool
are_bare [] = true
are_bare (name ∷ names) = is_bare (in_quotes name) && are_bare names

other_byte : (b c : ℕ) → (b == 92) ≡ true → not (c == 92) ≡ true → nat_eq b c ≡ false
other_byte b c h k = grind (arith, nat_tests)

-- what was mended says a bare name where it did before
bare_name : (n m : List ℕ) → is_bare m ≡ true → bytes_eq (mend n) m ≡ bytes_eq n m
bare_name [] m h = refl
bare_name (b ∷ bs) [] h = refl
bare_name (b ∷ bs) (c ∷ cs) h = by_back (b == 92) refl (both_true (not (c == 92)) (is_bare cs) h).0 (bare_name bs cs (both_true (not (c == 92)) (is_bare cs) h).1)
  where
    by_back : (x : Bool) → (b == 92) ≡ x → not (c == 92) ≡ true → bytes_eq (mend bs) cs ≡ bytes_eq bs cs → (nat_eq b c && bytes_eq (mend_behind (cond x (instead bs) []) bs) cs) ≡ (nat_eq b c && bytes_eq bs cs)
    by_back true e k same =
        let no : nat_eq b c ≡ false = other_byte b c e k in
        ap (λ y. y && bytes_eq (mend_behind (instead bs) bs) cs) no ∙ sym (ap (λ y. y && bytes_eq bs cs) no)
    by_back false e k same = ap (λ y. nat_eq b c && y) same

same_member : (p : Path) (n : List ℕ) → are_bare p ≡ true → into_member p (mend n) ≡ into_member p n
same_member [] n h = refl
same_member (name ∷ []) n h = ap (λ c. cond c None (Some [])) (bare_name n (in_quotes name) (both_true (is_bare (in_quotes name)) true h).0)
same_member (name ∷ next ∷ path) n h = ap (λ c. cond c (Some (next ∷ path)) (Some [])) (bare_name n (in_quotes name) (both_true (is_bare (in_quotes name)) (are_bare (next ∷ path)) h).0)

abbrev IsBare : Option Path → Type 0
IsBare o = MatchOption o (Unit {0}) (λ p. are_bare p ≡ true)

next_bare : (p : Path) (n : List ℕ) → are_bare p ≡ true → IsBare (into_member p n)
next_bare [] n h = refl
next_bare (name ∷ []) n h = by_name (bytes_eq n (in_quotes name))
  where
    by_name : (c : Bool) → IsBare (cond c None (Some []))
    by_name true = tt
    by_name false = refl
next_bare (name ∷ next ∷ path) n h = by_name (bytes_eq n (in_quotes name)) (both_true (is_bare (in_quotes name)) (are_bare (next ∷ path)) h).1
  where
    by_name : (c : Bool) → are_bare (next ∷ path) ≡ true → IsBare (cond c (Some (next ∷ path)) (Some []))
    by_name true k = k
    by_name false k = refl

items_bare : (p : Path) → are_bare p ≡ true → are_bare (into_items p) ≡ true
items_bare [] h = refl
items_bare (name ∷ []) h = refl
items_bare (name ∷ next ∷ path) h = by_name (bytes_eq star name) (both_true (is_bare (in_quotes name)) (are_bare (next ∷ path)) h).1
  where
    by_name : (c : Bool) → are_bare (next ∷ path) ≡ true → are_bare (cond c (next ∷ path) []) ≡ true
    by_name true k = k
    by_name false k = refl

one_order : (o : Option Path) (n : List ℕ) (v : Value) (ms ns : Members) → IsBare o → ((p : Path) → are_bare p ≡ true → prune p (mended v) ≡ mended (prune p v)) → ms ≡ mended_members ns →
    keep_one o (mend n) (mended v) ms ≡ mended_members (keep_one o n v ns)
one_order None n v ms ns h f e = e
one_order (Some p) n v ms ns h f e = ap (λ w. member (mend n) w ms) (f p h) ∙ ap (member (mend n) (mended (prune p v))) e

mutual
  prune_mended : (p : Path) (v : Value) → are_bare p ≡ true → prune p (mended v) ≡ mended (prune p v)
  prune_mended p (token t) h = prune-token p (mend t) ∙ sym (ap mended (prune-token p t))
  prune_mended p (array vs) h = prune-array p (mended_items vs) ∙ (ap array (items_mended (into_items p) vs (items_bare p h)) ∙ sym (ap mended (prune-array p vs)))
  prune_mended p (object ms) h = prune-object p (mended_members ms) ∙ (ap object (members_mended p ms h) ∙ sym (ap mended (prune-object p ms)))

  items_mended : (p : Path) (vs : Items) → are_bare p ≡ true → at_each (prune p) (mended_items vs) ≡ mended_items (at_each (prune p) vs)
  items_mended p no_items h = refl
  items_mended p (item v vs) h = ap (λ w. item w (at_each (prune p) (mended_items vs))) (prune_mended p v h) ∙ ap (item (mended (prune p v))) (items_mended p vs h)

  members_mended : (p : Path) (ms : Members) → are_bare p ≡ true → left p (mended_members ms) ≡ mended_members (left p ms)
  members_mended p no_members h = refl
  members_mended p (member n v ms) h =
      ap (λ o. keep_one o (mend n) (mended v) (left p (mended_members ms))) (same_member p n h)
      ∙ one_order (into_member p n) n v (left p (mended_members ms)) (left p ms) (next_bare p n h) (λ q k. prune_mended q v k) (members_mended p ms h)

mended_token : (v : Value) → is_token table (mended v) ≡ is_token table v
mended_token (token t) = bare_name t table refl
mended_token (array vs) = refl
mended_token (object ms) = refl

mended_says : (ms : Members) → says_table (mended_members ms) ≡ says_table ms
mended_says no_members = refl
mended_says (member n v ms) =
    ap (λ c. cond c (is_token table (mended v)) (says_table (mended_members ms))) (bare_name n kind refl)
    ∙ (ap (λ t. cond (bytes_eq n kind) t (says_table (mended_members ms))) (mended_token v)
    ∙ ap (cond (bytes_eq n kind) (is_token table v)) (mended_says ms))

mended_table : (v : Value) → is_table (mended v) ≡ is_table v
mended_table (token t) = refl
mended_table (array vs) = refl
mended_table (object ms) = mended_says ms

rows_mended : (v : Value) → rows_pruned (mended v) ≡ mended (rows_pruned v)
rows_mended v = ap (λ c. cond c (prune fields_of_rows (mended v)) (mended v)) (mended_table v) ∙ by_table (is_table v)
  where
    by_table : (c : Bool) → cond c (prune fields_of_rows (mended v)) (mended v) ≡ mended (cond c (prune fields_of_rows v) v)
    by_table true = prune_mended fields_of_rows v refl
    by_table false = refl

pub managed_mended : (v : Value) → managed (mended v) ≡ mended (managed v)
unfolding managed
managed_mended v =
    ap both_pruned (rows_mended v)
    ∙ (ap (prune fields_of_items) (prune_mended own_fields (rows_pruned v) refl) ∙ prune_mended fields_of_items (prune own_fields (rows_pruned v)) refl)
