-- Which values are Tables, and what becomes of that where members are left out or put in.
use Rattle.std.proofs.Common.{◌≡◌, ℕ, ◌+◌, ◌-◌, ◌≤◌, ◌∷◌, [], ◌++◌, List, length, take, drop, Bool, true, false, cond, Option, Some, None, codes, refl, sym, ap, ◌∙◌, subst, arith, append_assoc, length-append}
use Rattle.std.proofs.lemmas.List.{take_at, drop_at}
use Rattle.std.proofs.lemmas.Slice.Eq.{bytes_eq-Decides}
use Rattle.std.specs.Prelude.{bytes_eq}
use Rattle.json_span.specs.Value.{Value, token, array, object, Members, no_members, member, flat, flat_members, comma_if, depth}
use Rattle.json_span.specs.Member.{in_quotes, span_from, member_span}
use Rattle.json_prune.specs.Prune.{Path, at_name, at_each, star, prune, own_fields, fields_of_items, fields_of_rows, is_token, says_table, is_table, rows_pruned, managed, with_member}
use Rattle.json_prune.specs.Tokens.{HasTokens}
use Rattle.json_prune.proofs.PruneLemmas.{prune-object, prune-array, prune-token, prune_comm, prune_once, prune_tokens, prune_depth, prune_shorter}

abbrev pub kind : List ℕ
kind = in_quotes (codes "kind")

abbrev pub table : List ℕ
table = in_quotes (codes "Table")

-- ---- what is left is a Table where the whole is one

pruned_token : (p : Path) (v : Value) → is_token table (prune p v) ≡ is_token table v
pruned_token p (token t) = ap (is_token table) (prune-token p t)
pruned_token p (array vs) = ap (is_token table) (prune-array p vs)
pruned_token p (object ms) = ap (is_token table) (prune-object p ms)

put_token : (p : Path) (k : ℕ) (x v : Value) → is_token table (with_member p k x v) ≡ is_token table v
put_token [] k x v = refl
put_token (name ∷ []) k x (token t) = refl
put_token (name ∷ []) k x (array vs) = refl
put_token (name ∷ []) k x (object ms) = refl
put_token (name ∷ next ∷ path) k x (token t) = refl
put_token (name ∷ next ∷ path) k x (object ms) = refl
put_token (name ∷ next ∷ path) k x (array vs) = by_star (bytes_eq star name)
  where
    by_star : (c : Bool) → is_token table (cond c (array (at_each (with_member (next ∷ path) k x) vs)) (array vs)) ≡ false
    by_star true = refl
    by_star false = refl

says_still : (f : Value → Value) (name : List ℕ) (ms : Members) → ((v : Value) → is_token table (f v) ≡ is_token table v) → says_table (at_name f name ms) ≡ says_table ms
says_still f name no_members h = refl
says_still f name (member n v ms) h =
    ap (λ t. cond (bytes_eq n kind) t (says_table (at_name f name ms))) (by_name (bytes_eq n (in_quotes name)))
    ∙ ap (cond (bytes_eq n kind) (is_token table v)) (says_still f name ms h)
  where
    by_name : (c : Bool) → is_token table (cond c (f v) v) ≡ is_token table v
    by_name true = h v
    by_name false = refl

pub pruned_table : (name next : List ℕ) (path : Path) (v : Value) → is_table (prune (name ∷ next ∷ path) v) ≡ is_table v
pruned_table name next path (token t) = refl
pruned_table name next path (object ms) = says_still (prune (next ∷ path)) name ms (pruned_token (next ∷ path))
pruned_table name next path (array vs) = by_star (bytes_eq star name)
  where
    by_star : (c : Bool) → is_table (cond c (array (at_each (prune (next ∷ path)) vs)) (array vs)) ≡ false
    by_star true = refl
    by_star false = refl

pub put_table : (name next : List ℕ) (path : Path) (k : ℕ) (x v : Value) → is_table (with_member (name ∷ next ∷ path) k x v) ≡ is_table v
put_table name next path k x (token t) = refl
put_table name next path k x (object ms) = says_still (with_member (next ∷ path) k x) name ms (put_token (next ∷ path) k x)
put_table name next path k x (array vs) = by_star (bytes_eq star name)
  where
    by_star : (c : Bool) → is_table (cond c (array (at_each (with_member (next ∷ path) k x) vs)) (array vs)) ≡ false
    by_star true = refl
    by_star false = refl

-- ---- rows come first or last

rows_left : (name next : List ℕ) (path : Path) (v : Value) → rows_pruned (prune (name ∷ next ∷ path) v) ≡ prune (name ∷ next ∷ path) (rows_pruned v)
rows_left name next path v =
    ap (λ c. cond c (prune fields_of_rows (prune (name ∷ next ∷ path) v)) (prune (name ∷ next ∷ path) v)) (pruned_table name next path v)
    ∙ by_table (is_table v)
  where
    by_table : (c : Bool) → cond c (prune fields_of_rows (prune (name ∷ next ∷ path) v)) (prune (name ∷ next ∷ path) v) ≡ prune (name ∷ next ∷ path) (cond c (prune fields_of_rows v) v)
    by_table true = prune_comm (name ∷ next ∷ path) fields_of_rows v
    by_table false = refl

-- an object's own managed fields and those of its items
abbrev pub both_pruned : Value → Value
both_pruned v = prune fields_of_items (prune own_fields v)

pub rows_last : (v : Value) → rows_pruned (both_pruned v) ≡ both_pruned (rows_pruned v)
rows_last v =
    rows_left (codes "items") star own_fields (prune own_fields v)
    ∙ ap (prune fields_of_items) (rows_left (codes "metadata") (codes "managedFields") [] v)

rows_once : (v : Value) → rows_pruned (rows_pruned v) ≡ rows_pruned v
rows_once v = by_table (is_table v) refl
  where
    by_table : (c : Bool) → is_table v ≡ c → rows_pruned (cond c (prune fields_of_rows v) v) ≡ cond c (prune fields_of_rows v) v
    by_table true e =
        ap (λ t. cond t (prune fields_of_rows (prune fields_of_rows v)) (prune fields_of_rows v)) (pruned_table (codes "rows") star (codes "object" ∷ own_fields) v ∙ e)
        ∙ prune_once fields_of_rows v
    by_table false e = ap (λ t. cond t (prune fields_of_rows v) v) e

both_once : (v : Value) → both_pruned (both_pruned v) ≡ both_pruned v
both_once v =
    ap (prune fields_of_items) (prune_comm fields_of_items own_fields (prune own_fields v))
    ∙ (prune_once fields_of_items (prune own_fields (prune own_fields v)) ∙ ap (prune fields_of_items) (prune_once own_fields v))

pub managed_once : (v : Value) → managed (managed v) ≡ managed v
unfolding managed
managed_once v =
    ap both_pruned (rows_last (rows_pruned v))
    ∙ (ap (λ w. both_pruned (both_pruned w)) (rows_once v) ∙ both_once (rows_pruned v))

-- ---- what is left is a value of JSON, and no deeper or longer

pub rows_tokens : (v : Value) → HasTokens v → HasTokens (rows_pruned v)
rows_tokens v h = by_table (is_table v)
  where
    by_table : (c : Bool) → HasTokens (cond c (prune fields_of_rows v) v)
    by_table true = prune_tokens fields_of_rows v h
    by_table false = h

pub rows_depth : (v : Value) → depth (rows_pruned v) ≤ depth v
rows_depth v = by_table (is_table v)
  where
    by_table : (c : Bool) → depth (cond c (prune fields_of_rows v) v) ≤ depth v
    by_table true = prune_depth fields_of_rows v
    by_table false = omega arith

pub rows_shorter : (v : Value) → length (flat (rows_pruned v)) ≤ length (flat v)
rows_shorter v = by_table (is_table v)
  where
    by_table : (c : Bool) → length (flat (cond c (prune fields_of_rows v) v)) ≤ length (flat v)
    by_table true = prune_shorter fields_of_rows v
    by_table false = omega arith

-- ---- where the kind stands

-- what the bytes of a span say, if there is one
abbrev says : List ℕ → Option (ℕ × ℕ) → Bool
says text None = false
says text (Some span) = bytes_eq (take (span.1 - span.0) (drop span.0 text)) table

flat_token : (v : Value) → bytes_eq (flat v) table ≡ is_token table v
flat_token (token t) = refl
flat_token (array vs) = refl
flat_token (object ms) = refl

-- the value after a name and a colon
value_at : (before n v rest : List ℕ) (at : ℕ) → length before ≡ at
    → take (at + length n + 1 + length v - (at + length n + 1)) (drop (at + length n + 1) (before ++ (n ++ (58 ∷ (v ++ rest))))) ≡ v
value_at before n v rest at e =
    let front : before ++ (n ++ (58 ∷ (v ++ rest))) ≡ (before ++ (n ++ 58 ∷ [])) ++ (v ++ rest) = simp append_assoc in
    let size : length (before ++ (n ++ 58 ∷ [])) ≡ at + length n + 1 = simp length-append (omega arith) in
    let count : at + length n + 1 + length v - (at + length n + 1) ≡ length v = omega arith in
    ap (λ (k : ℕ). take k (drop (at + length n + 1) (before ++ (n ++ (58 ∷ (v ++ rest)))))) count
    ∙ ap (λ (l : List ℕ). take (length v) (drop (at + length n + 1) l)) front
    ∙ ap (λ (l : List ℕ). take (length v) l) (drop_at (before ++ (n ++ 58 ∷ [])) (v ++ rest) (at + length n + 1) size)
    ∙ take_at v rest (length v) refl

-- the first of some members
first_says : (n : List ℕ) (v : Value) (others : Members) (later : Bool) (before : List ℕ) (at : ℕ) → length before + length (comma_if later) ≡ at
    → says (before ++ (comma_if later ++ (n ++ (58 ∷ (flat v ++ flat_members true others))))) (Some (at + length n + 1, at + length n + 1 + length (flat v)))
    ≡ is_token table v
first_says n v others later before at e =
    let size : length (before ++ comma_if later) ≡ at = length-append before (comma_if later) ∙ e in
    let split : (before ++ comma_if later) ++ (n ++ (58 ∷ (flat v ++ flat_members true others)))
    ≡ before ++ (comma_if later ++ (n ++ (58 ∷ (flat v ++ flat_members true others)))) =
    append_assoc before (comma_if later) (n ++ (58 ∷ (flat v ++ flat_members true others))) in
    subst (λ (text : List ℕ). says text (Some (at + length n + 1, at + length n + 1 + length (flat v))) ≡ is_token table v) split
    (ap (λ (l : List ℕ). bytes_eq l table) (value_at (before ++ comma_if later) n (flat v) (flat_members true others) at size) ∙ flat_token v)

-- what stands before the others
abbrev before_others : List ℕ → Bool → List ℕ → Value → List ℕ
before_others before later n v = (before ++ comma_if later) ++ (n ++ (58 ∷ flat v))

others_at : (n : List ℕ) (v : Value) (later : Bool) (before : List ℕ) (at : ℕ) → length before + length (comma_if later) ≡ at
    → length (before_others before later n v) + 1 ≡ at + length n + 1 + length (flat v) + 1
others_at n v later before at e = simp length-append (omega (arith, e))

others_split : (n : List ℕ) (v : Value) (others : Members) (later : Bool) (before : List ℕ)
    → before_others before later n v ++ flat_members true others ≡ before ++ (comma_if later ++ (n ++ (58 ∷ (flat v ++ flat_members true others))))
others_split n v others later before = simp append_assoc

-- the members of a text from one on, the first of which begins at a byte, behind a comma or none
kind_from : (later : Bool) (ms : Members) (before : List ℕ) (at : ℕ) → length before + length (comma_if later) ≡ at
    → says (before ++ flat_members later ms) (span_from at (codes "kind") ms) ≡ says_table ms
kind_from later no_members before at e = refl
kind_from later (member n v others) before at e =
    by_name (bytes_eq n kind)
    (kind_from true others (before_others before later n v) (at + length n + 1 + length (flat v) + 1) (others_at n v later before at e))
  where
    by_name : (c : Bool)
        → says (before_others before later n v ++ flat_members true others) (span_from (at + length n + 1 + length (flat v) + 1) (codes "kind") others) ≡ says_table others
        → says (before ++ (comma_if later ++ (n ++ (58 ∷ (flat v ++ flat_members true others)))))
        (cond c (Some (at + length n + 1, at + length n + 1 + length (flat v))) (span_from (at + length n + 1 + length (flat v) + 1) (codes "kind") others))
        ≡ cond c (is_token table v) (says_table others)
    by_name true more = first_says n v others later before at e
    by_name false more =
        subst (λ (text : List ℕ). says text (span_from (at + length n + 1 + length (flat v) + 1) (codes "kind") others) ≡ says_table others)
        (others_split n v others later before) more

-- the bytes of the first member `kind` say whether a value is a Table
pub kind_says : (v : Value) → says (flat v) (member_span (codes "kind") v) ≡ is_table v
kind_says (token t) = refl
kind_says (array vs) = refl
kind_says (object ms) = kind_from false ms (123 ∷ []) 1 refl

-- ---- the calls

both_ways : (b c : Bool) → (b ≡ true → c ≡ true) → (c ≡ true → b ≡ true) → b ≡ c
both_ways true c f g = sym (f refl)
both_ways false true f g = g refl
both_ways false false f g = refl

pub found_table : (whole slice : List ℕ) (span : ℕ × ℕ) (same : Bool) (v : Value) → Some span ≡ member_span (codes "kind") v → whole ≡ flat v
    → slice ≡ take (span.1 - span.0) (drop span.0 whole) → (same ≡ true → slice ≡ table) → (slice ≡ table → same ≡ true) → same ≡ is_table v
found_table whole slice span same v found is cut when only =
    let test : same ≡ bytes_eq slice table =
    both_ways same (bytes_eq slice table) (λ t. (bytes_eq-Decides slice table).1 (when t)) (λ t. only ((bytes_eq-Decides slice table).0 t)) in
    test
    ∙ ap (λ (l : List ℕ). bytes_eq l table) (cut ∙ ap (λ (l : List ℕ). take (span.1 - span.0) (drop span.0 l)) is)
    ∙ ap (says (flat v)) found
    ∙ kind_says v

pub no_table : (v : Value) → None ≡ member_span (codes "kind") v → false ≡ is_table v
no_table v found = ap (says (flat v)) found ∙ kind_says v
