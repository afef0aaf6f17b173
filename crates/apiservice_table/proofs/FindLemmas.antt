-- The row of a group and a version, by its name.
use Rattle.std.proofs.Common.{◌≡◌, ℕ, ◌<◌, ◌≤◌, Bool, true, false, List, [], ◌∷◌, ◌++◌, length, get_or, take, drop, Option, Some, None, Ok, Err, refl, sym, ap, subst, ◌∙◌, arith}
use Rattle.std.specs.Prelude.{◌&&◌, if◌then◌else◌}
use Rattle.std.specs.Cmp.Lexicographic.{slice_cmp}
use Rattle.std.specs.Str.{bytes_eq}
use Rattle.std.specs.Ordering.{nat_cmp, ordering_then}
use Rattle.std.specs.declared.cmp.Ordering.{Ordering}
use Rattle.std.specs.declared.cmp.Ordering.TheVariants.{Less, Equal, Greater}
use Rattle.std.proofs.lemmas.Cmp.{nat_list_cmp_total, tied_itself}
use Rattle.std.proofs.lemmas.Slice.Eq.{bytes_eq-Decides}
use Rattle.apiservice_rows.specs.Row.{Row, IsRowName, own_name}
use Rattle.apiservice_table.specs.Order.{AllAfter, AllNamed, IsInOrder, place_of}
use Rattle.apiservice_table.specs.Table.{row_named, row}
use Rattle.apiservice_table.proofs.OrderLemmas.{get_some, row_named-ok, row_named-err}

-- ---- a name and the one of a version and a group

-- a name shorter than the version compares as with the version alone
pub shorter : (name version group : List ℕ) → length name < length version
    → slice_cmp nat_cmp name (version ++ group) ≡ slice_cmp nat_cmp name version
shorter [] [] group lt = absurd (omega (arith, lt))
shorter [] (v ∷ version) group lt = refl
shorter (c ∷ name) [] group lt = absurd (omega (arith, lt))
shorter (c ∷ name) (v ∷ version) group lt =
    ap (λ o. ordering_then (nat_cmp c v) o) (shorter name version group (omega (arith, lt)))

then_assoc : (a b c : Ordering) → ordering_then (ordering_then a b) c ≡ ordering_then a (ordering_then b c)
then_assoc Less b c = refl
then_assoc Equal b c = refl
then_assoc Greater b c = refl

-- a longer one compares by its front, and then by the rest
pub longer : (name version rest : List ℕ) → length version ≤ length name
    → slice_cmp nat_cmp name (version ++ rest)
    ≡ ordering_then (slice_cmp nat_cmp (take (length version) name) version) (slice_cmp nat_cmp (drop (length version) name) rest)
longer name [] rest le = refl
longer [] (v ∷ version) rest le = absurd (omega (arith, le))
longer (c ∷ name) (v ∷ version) rest le =
    ap (λ o. ordering_then (nat_cmp c v) o) (longer name version rest (omega (arith, le)))
    ∙ sym (then_assoc (nat_cmp c v) _ _)

-- the rest compares by its dot, and then by the group
pub rest_some : (rest group : List ℕ) → 0 < length rest
    → slice_cmp nat_cmp rest (46 ∷ group) ≡ ordering_then (nat_cmp (get_or rest 0 0) 46) (slice_cmp nat_cmp (drop 1 rest) group)
rest_some [] group lt = absurd (omega (arith, lt))
rest_some (c ∷ rest) group lt = refl

pub rest_none : (rest group : List ℕ) → length rest ≡ 0 → slice_cmp nat_cmp rest (46 ∷ group) ≡ Less
rest_none [] group e = refl
rest_none (c ∷ rest) group e = absurd (omega (arith, e))

-- ---- the row by its name

pub both : (a b : Bool) → (a && b) ≡ true → (a ≡ true) × (b ≡ true)
both true b e = (refl, e)
both false b e = absurd (cc e)

-- the row, where it is of that group and version
abbrev pub kept : List ℕ → List ℕ → Option Row → Option Row
kept group version None = None
kept group version (Some r) = if bytes_eq r.group group && bytes_eq r.version version then Some r else None

pub equal_texts : (a b : List ℕ) → bytes_eq a b ≡ true → a ≡ b
equal_texts a b e = (bytes_eq-Decides a b).0 e

same_text : (a b : List ℕ) → a ≡ b → bytes_eq a b ≡ true
same_text a b e = (bytes_eq-Decides a b).1 e

-- a row of a group and a version has their name
has_name : (r : Row) (group version : List ℕ) → IsRowName r.name r.version r.group
    → (bytes_eq r.group group && bytes_eq r.version version) ≡ true → r.name ≡ own_name version group
has_name r group version named e =
    let h = both (bytes_eq r.group group) (bytes_eq r.version version) e in
    let g : r.group ≡ group = equal_texts r.group group h.0 in
    let v : r.version ≡ version = equal_texts r.version version h.1 in
    named.1 ∙ ap (λ y. own_name y r.group) v ∙ ap (λ y. own_name version y) g

-- behind a row of that name, no row is of the group and version
none_behind : (group version : List ℕ) (rows : List Row) → AllNamed rows → AllAfter (own_name version group) rows
    → row group version rows ≡ None
none_behind group version [] n h = refl
none_behind group version (r ∷ rows) n h = by_cases (none_behind group version rows n.1 h.1) (bytes_eq r.group group && bytes_eq r.version version) refl
  where
    by_cases : (row group version rows ≡ None) → (b : Bool) → (bytes_eq r.group group && bytes_eq r.version version) ≡ b → row group version (r ∷ rows) ≡ None
    by_cases ih true e =
        let own : r.name ≡ own_name version group = has_name r group version n.0 e in
        absurd (not_itself (own_name version group) (subst (λ y. slice_cmp nat_cmp (own_name version group) y ≡ Less) own h.0))
      where
        not_itself : (a : List ℕ) → slice_cmp nat_cmp a a ≡ Less → ⊥
        not_itself a less = cc (sym less ∙ tied_itself nat_list_cmp_total a)
    by_cases ih false e = rw e (ih)

-- the row of a group and a version is the row of their name, where that is of them
pub row_by_name : (group version : List ℕ) (rows : List Row) → IsInOrder rows → AllNamed rows
    → row group version rows ≡ kept group version (row_named (own_name version group) rows)
row_by_name group version [] h n = refl
row_by_name group version (r ∷ rows) h n = by_cases (row_by_name group version rows h.1 n.1) (bytes_eq r.group group && bytes_eq r.version version) refl
  where
    by_cases : (row group version rows ≡ kept group version (row_named (own_name version group) rows)) → (b : Bool) → (bytes_eq r.group group && bytes_eq r.version version) ≡ b
        → row group version (r ∷ rows) ≡ kept group version (row_named (own_name version group) (r ∷ rows))
    by_cases ih true e =
        let equal : bytes_eq r.name (own_name version group) ≡ true = same_text _ _ (has_name r group version n.0 e) in
        rw (e, equal, e) refl
    by_cases ih false e = by_name (bytes_eq r.name (own_name version group)) refl
      where
        by_name : (b : Bool) → bytes_eq r.name (own_name version group) ≡ b
            → row group version (r ∷ rows) ≡ kept group version (row_named (own_name version group) (r ∷ rows))
        by_name true k =
            let own : r.name ≡ own_name version group = equal_texts _ _ k in
            rw (e, k, e) (none_behind group version rows n.1 (subst (λ y. AllAfter y rows) own h.0))
        by_name false k = rw (e, k) ih

-- a row at the place of a name
pub row_at : (group version : List ℕ) (rows : List Row) (i : ℕ) (x : Row) (b : Bool) → IsInOrder rows → AllNamed rows
    → place_of (own_name version group) rows ≡ Ok i → i < length rows → x ≡ get_or rows i x
    → b ≡ (bytes_eq x.group group && bytes_eq x.version version) → row group version rows ≡ (if b then Some x else None)
row_at group version rows i x b h n place lt is e =
    row_by_name group version rows h n
    ∙ ap (kept group version) (row_named-ok (own_name version group) rows i place ∙ get_some rows i x lt is)
    ∙ ap (λ (y : Bool). if y then Some x else None) (sym e)

-- no row is at it
pub row_none : (group version : List ℕ) (rows : List Row) (i : ℕ) → IsInOrder rows → AllNamed rows
    → place_of (own_name version group) rows ≡ Err i → row group version rows ≡ None
row_none group version rows i h n place =
    row_by_name group version rows h n
    ∙ ap (kept group version) (row_named-err (own_name version group) rows i h place)
