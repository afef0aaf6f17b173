-- What a place says of the rows, and that changes keep them in order.
use Rattle.std.proofs.Common.{◌≡◌, ℕ, zero, suc, ◌+◌, ◌<◌, ◌≤◌, Bool, true, false, List, [], ◌∷◌, length, Some, None, Result, Ok, Err, refl, sym, ap, subst, ◌∙◌, arith}
use Rattle.std.specs.Prelude.{is_some, is_ok, MatchResult}
use Rattle.std.specs.Cmp.Lexicographic.{slice_cmp}
use Rattle.std.specs.List.{insert, remove, slice_get}
use Rattle.std.specs.Str.{bytes_eq}
use Rattle.std.specs.Ordering.{nat_cmp, is_eq}
use Rattle.std.specs.declared.cmp.Ordering.{Ordering}
use Rattle.std.specs.declared.cmp.Ordering.TheVariants.{Less, Equal, Greater}
use Rattle.std.proofs.Math.ListN.{set, get_or}
use Rattle.std.proofs.lemmas.Cmp.{nat_list_cmp_total}
use Rattle.std.proofs.lemmas.List.{length-set}
use Rattle.std.proofs.lemmas.Map.Text.{is_eq-slice_cmp}
use Rattle.std.proofs.lemmas.Slice.Eq.{bytes_eq-Decides}
use Rattle.apiservice_rows.specs.Row.{Row, IsRowName}
use Rattle.apiservice_table.specs.Order.{AllAfter, AllNamed, IsInOrder, place_of, further}
use Rattle.apiservice_table.specs.Table.{row_named, with_row, without_row, HasDistinctNames}

further_ok : (x : Result ℕ ℕ) (i : ℕ) → further x ≡ Ok i → (j : ℕ) × (x ≡ Ok j) × (i ≡ suc j)
further_ok (Ok k) i e = (k, refl, cc e)
further_ok (Err k) i e = absurd (cc e)

further_err : (x : Result ℕ ℕ) (i : ℕ) → further x ≡ Err i → (j : ℕ) × (x ≡ Err j) × (i ≡ suc j)
further_err (Ok k) i e = absurd (cc e)
further_err (Err k) i e = (k, refl, cc e)

-- the comparison of two texts tells whether they are equal
pub tells : (a b : List ℕ) (o : Ordering) → slice_cmp nat_cmp a b ≡ o → bytes_eq a b ≡ is_eq o
tells a b o e = sym (is_eq-slice_cmp a b) ∙ ap is_eq e

pub same : (a b : List ℕ) → slice_cmp nat_cmp a b ≡ Equal → a ≡ b
same a b e = (bytes_eq-Decides a b).0 (tells a b Equal e)

flipped : (a b : List ℕ) → slice_cmp nat_cmp a b ≡ Greater → slice_cmp nat_cmp b a ≡ Less
flipped a b e = nat_list_cmp_total.antisymm b a ∙ rw e refl

-- ---- by the place of a row that is there

pub with_row-ok : (new : Row) (rows : List Row) (i : ℕ) → place_of new.name rows ≡ Ok i → with_row new rows ≡ set rows i new
with_row-ok new [] i e = absurd (cc e)
with_row-ok new (r ∷ rows) i e = by_cases (with_row-ok new rows) (slice_cmp nat_cmp r.name new.name) refl
  where
    by_cases : ((j : ℕ) → place_of new.name rows ≡ Ok j → with_row new rows ≡ set rows j new) → (o : Ordering) → slice_cmp nat_cmp r.name new.name ≡ o → with_row new (r ∷ rows) ≡ set (r ∷ rows) i new
    by_cases ih Less h =
        let k = further_ok (place_of new.name rows) i (rw h at e) in
        rw (h, k.2) (ap (λ y. r ∷ y) (ih k.0 k.1))
    by_cases ih Equal h = let k : 0 ≡ i = cc (rw h at e) in rw (h, sym k) refl
    by_cases ih Greater h = absurd (cc (rw h at e))

pub without_row-ok : (name : List ℕ) (rows : List Row) (i : ℕ) → place_of name rows ≡ Ok i
    → without_row name rows ≡ remove rows i
without_row-ok name [] i e = absurd (cc e)
without_row-ok name (r ∷ rows) i e = by_cases (without_row-ok name rows) (slice_cmp nat_cmp r.name name) refl
  where
    by_cases : ((j : ℕ) → place_of name rows ≡ Ok j → without_row name rows ≡ remove rows j) → (o : Ordering) → slice_cmp nat_cmp r.name name ≡ o → without_row name (r ∷ rows) ≡ remove (r ∷ rows) i
    by_cases ih Less h =
        let k = further_ok (place_of name rows) i (rw h at e) in
        let differs : bytes_eq r.name name ≡ false = tells r.name name Less h in
        rw (differs, k.2) (ap (λ y. r ∷ y) (ih k.0 k.1))
    by_cases ih Equal h =
        let k : 0 ≡ i = cc (rw h at e) in
        let equal : bytes_eq r.name name ≡ true = tells r.name name Equal h in
        rw (equal, sym k) refl
    by_cases ih Greater h = absurd (cc (rw h at e))

pub row_named-ok : (name : List ℕ) (rows : List Row) (i : ℕ) → place_of name rows ≡ Ok i
    → row_named name rows ≡ slice_get rows i
row_named-ok name [] i e = absurd (cc e)
row_named-ok name (r ∷ rows) i e = by_cases (row_named-ok name rows) (slice_cmp nat_cmp r.name name) refl
  where
    by_cases : ((j : ℕ) → place_of name rows ≡ Ok j → row_named name rows ≡ slice_get rows j) → (o : Ordering) → slice_cmp nat_cmp r.name name ≡ o → row_named name (r ∷ rows) ≡ slice_get (r ∷ rows) i
    by_cases ih Less h =
        let k = further_ok (place_of name rows) i (rw h at e) in
        let differs : bytes_eq r.name name ≡ false = tells r.name name Less h in
        rw (differs, k.2) (ih k.0 k.1)
    by_cases ih Equal h =
        let k : 0 ≡ i = cc (rw h at e) in
        let equal : bytes_eq r.name name ≡ true = tells r.name name Equal h in
        rw (equal, sym k) refl
    by_cases ih Greater h = absurd (cc (rw h at e))

-- ---- by the place where a row would stand

pub with_row-err : (new : Row) (rows : List Row) (i : ℕ) → place_of new.name rows ≡ Err i
    → with_row new rows ≡ insert rows i new
with_row-err new [] zero e = refl
with_row-err new [] (suc i) e = absurd (cc e)
with_row-err new (r ∷ rows) i e = by_cases (with_row-err new rows) (slice_cmp nat_cmp r.name new.name) refl
  where
    by_cases : ((j : ℕ) → place_of new.name rows ≡ Err j → with_row new rows ≡ insert rows j new) → (o : Ordering) → slice_cmp nat_cmp r.name new.name ≡ o → with_row new (r ∷ rows) ≡ insert (r ∷ rows) i new
    by_cases ih Less h =
        let k = further_err (place_of new.name rows) i (rw h at e) in
        rw (h, k.2) (ap (λ y. r ∷ y) (ih k.0 k.1))
    by_cases ih Equal h = absurd (cc (rw h at e))
    by_cases ih Greater h = let k : 0 ≡ i = cc (rw h at e) in rw (h, sym k) refl

-- a name before all others is none of them
before_all : (name : List ℕ) (rows : List Row) → AllAfter name rows → row_named name rows ≡ None
before_all name [] h = refl
before_all name (r ∷ rows) h =
    let greater : slice_cmp nat_cmp r.name name ≡ Greater = nat_list_cmp_total.antisymm r.name name ∙ rw h.0 refl in
    let differs : bytes_eq r.name name ≡ false = tells r.name name Greater greater in
    rw differs (before_all name rows h.1)

-- so no two names of rows in order are one
pub distinct_in_order : (rows : List Row) → IsInOrder rows → HasDistinctNames rows
distinct_in_order [] h = tt
distinct_in_order (r ∷ rows) h = (before_all r.name rows h.0, distinct_in_order rows h.1)

after_less : (a b : List ℕ) (rows : List Row) → slice_cmp nat_cmp a b ≡ Less → AllAfter b rows → AllAfter a rows
after_less a b [] e h = tt
after_less a b (r ∷ rows) e h = (nat_list_cmp_total.trans a b r.name e h.0, after_less a b rows e h.1)

pub row_named-err : (name : List ℕ) (rows : List Row) (i : ℕ) → IsInOrder rows → place_of name rows ≡ Err i
    → row_named name rows ≡ None
row_named-err name [] i h e = refl
row_named-err name (r ∷ rows) i h e = by_cases (λ j e. row_named-err name rows j h.1 e) (slice_cmp nat_cmp r.name name) refl
  where
    by_cases : ((j : ℕ) → place_of name rows ≡ Err j → row_named name rows ≡ None) → (o : Ordering) → slice_cmp nat_cmp r.name name ≡ o → row_named name (r ∷ rows) ≡ None
    by_cases ih Less k =
        let x = further_err (place_of name rows) i (rw k at e) in
        let differs : bytes_eq r.name name ≡ false = tells r.name name Less k in
        rw differs (ih x.0 x.1)
    by_cases ih Equal k = absurd (cc (rw k at e))
    by_cases ih Greater k =
        let differs : bytes_eq r.name name ≡ false = tells r.name name Greater k in
        rw differs (before_all name rows (after_less name r.name rows (flipped r.name name k) h.0))

without_all : (name : List ℕ) (rows : List Row) → AllAfter name rows → without_row name rows ≡ rows
without_all name [] h = refl
without_all name (r ∷ rows) h =
    let greater : slice_cmp nat_cmp r.name name ≡ Greater = nat_list_cmp_total.antisymm r.name name ∙ rw h.0 refl in
    let differs : bytes_eq r.name name ≡ false = tells r.name name Greater greater in
    rw differs (ap (λ y. r ∷ y) (without_all name rows h.1))

-- a name that isn't there is taken out of none
pub without_row-err : (name : List ℕ) (rows : List Row) (i : ℕ) → IsInOrder rows → place_of name rows ≡ Err i
    → without_row name rows ≡ rows
without_row-err name [] i h e = refl
without_row-err name (r ∷ rows) i h e = by_cases (λ j e. without_row-err name rows j h.1 e) (slice_cmp nat_cmp r.name name) refl
  where
    by_cases : ((j : ℕ) → place_of name rows ≡ Err j → without_row name rows ≡ rows) → (o : Ordering) → slice_cmp nat_cmp r.name name ≡ o → without_row name (r ∷ rows) ≡ r ∷ rows
    by_cases ih Less k =
        let x = further_err (place_of name rows) i (rw k at e) in
        let differs : bytes_eq r.name name ≡ false = tells r.name name Less k in
        rw differs (ap (λ y. r ∷ y) (ih x.0 x.1))
    by_cases ih Equal k = absurd (cc (rw k at e))
    by_cases ih Greater k =
        let differs : bytes_eq r.name name ≡ false = tells r.name name Greater k in
        rw differs (ap (λ y. r ∷ y) (without_all name rows (after_less name r.name rows (flipped r.name name k) h.0)))

-- ---- what changes keep

after_with : (name : List ℕ) (new : Row) (rows : List Row) → slice_cmp nat_cmp name new.name ≡ Less → AllAfter name rows
    → AllAfter name (with_row new rows)
after_with name new [] e h = (e, tt)
after_with name new (r ∷ rows) e h = by_cases (after_with name new rows e h.1) (slice_cmp nat_cmp r.name new.name) refl
  where
    by_cases : (AllAfter name (with_row new rows)) → (o : Ordering) → slice_cmp nat_cmp r.name new.name ≡ o → AllAfter name (with_row new (r ∷ rows))
    by_cases ih Less k = rw k (h.0, ih)
    by_cases ih Equal k = rw k (e, h.1)
    by_cases ih Greater k = rw k (e, (h.0, h.1))

pub order_with : (new : Row) (rows : List Row) → IsInOrder rows → IsInOrder (with_row new rows)
order_with new [] h = (tt, tt)
order_with new (r ∷ rows) h = by_cases (order_with new rows h.1) (slice_cmp nat_cmp r.name new.name) refl
  where
    by_cases : (IsInOrder (with_row new rows)) → (o : Ordering) → slice_cmp nat_cmp r.name new.name ≡ o → IsInOrder (with_row new (r ∷ rows))
    by_cases ih Less k = rw k (after_with r.name new rows k h.0, ih)
    by_cases ih Equal k = rw k (subst (λ y. AllAfter y rows) (same r.name new.name k) h.0, h.1)
    by_cases ih Greater k =
        let less = flipped r.name new.name k in
        rw k ((less, after_less new.name r.name rows less h.0), (h.0, h.1))

after_without : (name q : List ℕ) (rows : List Row) → AllAfter name rows → AllAfter name (without_row q rows)
after_without name q [] h = tt
after_without name q (r ∷ rows) h = by_cases (after_without name q rows h.1) (bytes_eq r.name q) refl
  where
    by_cases : (AllAfter name (without_row q rows)) → (b : Bool) → bytes_eq r.name q ≡ b → AllAfter name (without_row q (r ∷ rows))
    by_cases ih true k = rw k h.1
    by_cases ih false k = rw k (h.0, ih)

pub order_without : (q : List ℕ) (rows : List Row) → IsInOrder rows → IsInOrder (without_row q rows)
order_without q [] h = tt
order_without q (r ∷ rows) h = by_cases (order_without q rows h.1) (bytes_eq r.name q) refl
  where
    by_cases : (IsInOrder (without_row q rows)) → (b : Bool) → bytes_eq r.name q ≡ b → IsInOrder (without_row q (r ∷ rows))
    by_cases ih true k = rw k h.1
    by_cases ih false k = rw k (after_without r.name q rows h.0, ih)

pub named_with : (new : Row) (rows : List Row) → IsRowName new.name new.version new.group → AllNamed rows
    → AllNamed (with_row new rows)
named_with new [] n h = (n, tt)
named_with new (r ∷ rows) n h = by_cases (named_with new rows n h.1) (slice_cmp nat_cmp r.name new.name) refl
  where
    by_cases : (AllNamed (with_row new rows)) → (o : Ordering) → slice_cmp nat_cmp r.name new.name ≡ o → AllNamed (with_row new (r ∷ rows))
    by_cases ih Less k = rw k (h.0, ih)
    by_cases ih Equal k = rw k (n, h.1)
    by_cases ih Greater k = rw k (n, (h.0, h.1))

pub named_without : (q : List ℕ) (rows : List Row) → AllNamed rows → AllNamed (without_row q rows)
named_without q [] h = tt
named_without q (r ∷ rows) h = by_cases (named_without q rows h.1) (bytes_eq r.name q) refl
  where
    by_cases : (AllNamed (without_row q rows)) → (b : Bool) → bytes_eq r.name q ≡ b → AllNamed (without_row q (r ∷ rows))
    by_cases ih true k = rw k h.1
    by_cases ih false k = rw k (h.0, ih)

-- a row more, or one in the place of another
pub length_with : (new : Row) (rows : List Row) → length (with_row new rows) ≤ length rows + 1
length_with new [] = omega arith
length_with new (r ∷ rows) = by_cases (length_with new rows) (slice_cmp nat_cmp r.name new.name) refl
  where
    by_cases : (length (with_row new rows) ≤ length rows + 1) → (o : Ordering) → slice_cmp nat_cmp r.name new.name ≡ o → length (with_row new (r ∷ rows)) ≤ length (r ∷ rows) + 1
    by_cases ih Less k = rw k (omega (arith, ih))
    by_cases ih Equal k = rw k (omega arith)
    by_cases ih Greater k = rw k (omega arith)

pub length_without : (q : List ℕ) (rows : List Row) → length (without_row q rows) ≤ length rows
length_without q [] = omega arith
length_without q (r ∷ rows) = by_cases (length_without q rows) (bytes_eq r.name q) refl
  where
    by_cases : (length (without_row q rows) ≤ length rows) → (b : Bool) → bytes_eq r.name q ≡ b → length (without_row q (r ∷ rows)) ≤ length (r ∷ rows)
    by_cases ih true k = rw k (omega arith)
    by_cases ih false k = rw k (omega (arith, ih))

-- ---- what a search answers of a name

pub get_some : {X : Type 0} (xs : List X) (i : ℕ) (x : X) → i < length xs → x ≡ get_or xs i x → slice_get xs i ≡ Some x
get_some [] i x lt e = absurd (omega (arith, lt))
get_some (y ∷ xs) zero x lt e = ap Some (sym e)
get_some (y ∷ xs) (suc i) x lt e = get_some xs i x (omega (arith, lt)) e

some_at : {X : Type 0} (xs : List X) (i : ℕ) → i < length xs → is_some (slice_get xs i) ≡ true
some_at [] i lt = absurd (omega (arith, lt))
some_at (y ∷ xs) zero lt = refl
some_at (y ∷ xs) (suc i) lt = some_at xs i (omega (arith, lt))

-- whether a row of that name is there
pub holds_is : (name : List ℕ) (rows : List Row) (r : Result ℕ ℕ) → IsInOrder rows → r ≡ place_of name rows
    → MatchResult r (λ i. i < length rows) (λ i. i ≤ length rows) → is_ok r ≡ is_some (row_named name rows)
holds_is name rows (Ok i) h e within = sym (ap is_some (row_named-ok name rows i (sym e)) ∙ some_at rows i within)
holds_is name rows (Err i) h e within = sym (ap is_some (row_named-err name rows i h (sym e)))

-- a row in the place of another adds none
pub length_over : (new : Row) (rows : List Row) → IsInOrder rows → is_some (row_named new.name rows) ≡ true
    → length (with_row new rows) ≡ length rows
length_over new rows h some = by_cases (place_of new.name rows) refl
  where
    by_cases : (r : Result ℕ ℕ) → place_of new.name rows ≡ r → length (with_row new rows) ≡ length rows
    by_cases (Ok i) e = ap length (with_row-ok new rows i e) ∙ length-set rows i new
    by_cases (Err i) e = absurd (cc (sym some ∙ ap is_some (row_named-err new.name rows i h e)))
