-- The rows of a text are few, each name once.
use Rattle.std.proofs.Common.{◌≡◌, ℕ, ◌≤◌, Bool, true, false, List, [], ◌∷◌, ◌++◌, length, Option, Some, None, Result, Ok, Err, refl, sym, ap, subst, ◌∙◌, arith}
use Rattle.std.specs.Prelude.{nat_lt, if◌then◌else◌, codes}
use Rattle.std.specs.Str.{bytes_eq}
use Rattle.std.proofs.lemmas.Bool.Decides.{nat_tests}
use Rattle.std.proofs.lemmas.Slice.Eq.{bytes_eq-Decides}
use Rattle.json_value.specs.Members.{present}
use Rattle.json_value.specs.Read.{value_of}
use Rattle.json_value.specs.Results.{◌>>=◌, found_or}
use Rattle.apiservice_rows.specs.Object.{row_of}
use Rattle.apiservice_rows.specs.Row.{Row}
use Rattle.apiservice_rows.specs.RowList.{is_among, repeated, names_of, distinct, few, items_in, is_list, one_row, list_rows, read_rows}
use Rattle.apiservice_rows.specs.declared.fault.RowFault.{RowFault}
use Rattle.apiservice_rows.specs.declared.fault.RowFault.TheVariants.{NotJson}
use Rattle.apiservice_rows.specs.declared.row_list.TheConstants.{MOST_ROWS}
use Rattle.apiservice_table.specs.Table.{HasDistinctNames, row_named}
use Rattle.apiservice_table.proofs.FindLemmas.{equal_texts}

-- ---- names

among_last : (q : List ℕ) (names : List (List ℕ)) → is_among q (names ++ q ∷ []) ≡ true
among_last q [] = let e : bytes_eq q q ≡ true = (bytes_eq-Decides q q).1 refl in rw e refl
among_last q (own ∷ names) = by_cases (among_last q names) (bytes_eq own q) refl
  where
    by_cases : is_among q (names ++ q ∷ []) ≡ true → (b : Bool) → bytes_eq own q ≡ b
        → is_among q (own ∷ (names ++ q ∷ [])) ≡ true
    by_cases ih true e = rw e refl
    by_cases ih false e = rw e ih

among_more : (q name : List ℕ) (names : List (List ℕ)) → is_among q names ≡ true
    → is_among q (names ++ name ∷ []) ≡ true
among_more q name [] h = absurd (cc h)
among_more q name (own ∷ names) h = by_cases (among_more q name names) (bytes_eq own q) refl
  where
    by_cases : (is_among q names ≡ true → is_among q (names ++ name ∷ []) ≡ true)
        → (b : Bool) → bytes_eq own q ≡ b → is_among q (own ∷ (names ++ name ∷ [])) ≡ true
    by_cases ih true e = rw e refl
    by_cases ih false e = rw e (ih (rw e at h))

-- where no name stood before, the first didn't, and none of the others did with it
first_is_new : (before : List (List ℕ)) (name : List ℕ) (names : List (List ℕ)) → repeated before (name ∷ names) ≡ None
    → (is_among name before ≡ false) × (repeated (before ++ name ∷ []) names ≡ None)
unfolding repeated
first_is_new before name names h = by_cases (is_among name before) refl
  where
    by_cases : (b : Bool) → is_among name before ≡ b
        → (is_among name before ≡ false) × (repeated (before ++ name ∷ []) names ≡ None)
    by_cases true e = absurd (cc (rw e at h))
    by_cases false e = (e, rw e at h)

-- no row has a name that stood before
none_has : (before : List (List ℕ)) (rows : List Row) (q : List ℕ) → repeated before (names_of rows) ≡ None
    → is_among q before ≡ true → row_named q rows ≡ None
none_has before [] q h among = refl
none_has before (r ∷ rows) q h among =
    let new = first_is_new before r.name (names_of rows) h in
    by_cases new (none_has (before ++ r.name ∷ []) rows q new.1 (among_more q r.name before among)) (bytes_eq r.name q) refl
  where
    by_cases : (is_among r.name before ≡ false) × (repeated (before ++ r.name ∷ []) (names_of rows) ≡ None)
        → row_named q rows ≡ None → (b : Bool) → bytes_eq r.name q ≡ b → row_named q (r ∷ rows) ≡ None
    by_cases new ih true e =
        let same : r.name ≡ q = equal_texts r.name q e in
        absurd (cc (sym among ∙ ap (λ y. is_among y before) (sym same) ∙ new.0))
    by_cases new ih false e = rw e ih

each_once : (before : List (List ℕ)) (rows : List Row) → repeated before (names_of rows) ≡ None → HasDistinctNames rows
each_once before [] h = tt
each_once before (r ∷ rows) h =
    let new = first_is_new before r.name (names_of rows) h in (
      none_has (before ++ r.name ∷ []) rows r.name new.1 (among_last r.name before),
      each_once (before ++ r.name ∷ []) rows new.1,
    )

-- ---- rows

abbrev pub Fit : List Row → Type 0
Fit rows = (length rows ≤ MOST_ROWS) × HasDistinctNames rows

distinct_rows : (rows : List Row) (u : Unit {0}) → distinct (names_of rows) ≡ Ok u → HasDistinctNames rows
unfolding distinct
distinct_rows rows u h = by_cases (repeated [] (names_of rows)) refl
  where
    by_cases : (o : Option RowFault) → repeated [] (names_of rows) ≡ o → HasDistinctNames rows
    by_cases None e = each_once [] rows e
    by_cases (Some name) e = absurd (cc (rw e at h))

not_less : (m n : ℕ) → nat_lt m n ≡ false → n ≤ m
not_less m n e = grind (arith, nat_tests)

few_rows : (read rows : List Row) → few read ≡ Ok rows → (read ≡ rows) × (length read ≤ MOST_ROWS)
unfolding few
few_rows read rows h = by_cases (nat_lt MOST_ROWS (length read)) refl
  where
    by_cases : (b : Bool) → nat_lt MOST_ROWS (length read) ≡ b → (read ≡ rows) × (length read ≤ MOST_ROWS)
    by_cases true e = absurd (cc (rw e at h))
    by_cases false e = (cc (rw e at h), not_less MOST_ROWS (length read) e)

-- the rows of a list
listed : (read : List Row) (rows : List Row) → (distinct (names_of read) >>= (λ each. few read)) ≡ Ok rows → Fit rows
listed read rows h = by_cases (distinct (names_of read)) refl
  where
    by_cases : (d : Result (Unit {0}) RowFault) → distinct (names_of read) ≡ d → Fit rows
    by_cases (Err fault) e = absurd (cc (rw e at h))
    by_cases (Ok u) e =
        let last = few_rows read rows (rw e at h) in
        subst Fit last.0 (last.1, distinct_rows read u e)

one_fits : (r : Row) (rows : List Row) → r ∷ [] ≡ rows → Fit rows
one_fits r rows e = subst Fit e (omega arith, (refl, tt))

-- what is read after a first reading was read of what that gave
after_first : {A B : Type 0} (first : Result A RowFault) (next : A → Result B RowFault) (b : B)
    → (first >>= next) ≡ Ok b → (a : A) × (next a ≡ Ok b)
after_first (Ok a) next b h = (a, h)
after_first (Err fault) next b h = absurd (cc h)

either_way : (is : Bool) (first other : Result (List Row) RowFault) (rows : List Row) → (first ≡ Ok rows → Fit rows)
    → (other ≡ Ok rows → Fit rows) → (if is then first else other) ≡ Ok rows → Fit rows
either_way true first other rows f g h = f h
either_way false first other rows f g h = g h

pub read_fits : (bytes : List ℕ) (rows : List Row) → read_rows bytes ≡ Ok rows → Fit rows
unfolding read_rows list_rows one_row
read_fits bytes rows h =
    let found = after_first (found_or NotJson (value_of bytes)) (λ d. if is_list d then list_rows d else one_row d) rows h in
    either_way
    (is_list found.0)
    (list_rows found.0)
    (one_row found.0)
    rows
    (λ e.
    let read = after_first (items_in (present (codes "items") found.0))
    (λ own. distinct (names_of own) >>= (λ each. few own)) rows e in
    listed read.0 rows read.1)
    (λ e.
    let alone = after_first (row_of None found.0) (λ r. Ok (r ∷ [])) rows e in
    one_fits alone.0 rows (cc alone.1))
    found.1
