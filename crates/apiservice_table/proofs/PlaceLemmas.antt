-- What a binary search among rows in order finds.
use Rattle.std.proofs.Common.{◌≡◌, ℕ, zero, suc, ◌<◌, ◌≤◌, List, [], ◌∷◌, length, Result, Ok, Err, refl, sym, ap, ◌∙◌, arith}
use Rattle.std.specs.Prelude.{MatchResult}
use Rattle.std.specs.Cmp.Lexicographic.{slice_cmp}
use Rattle.std.specs.List.{HoldsAt, AllWithin, slice_index_or}
use Rattle.std.specs.List.Sorted.{IsBinarySearchResult, IsNonDecreasingBy}
use Rattle.std.specs.Ordering.{nat_cmp, ordering_index}
use Rattle.std.specs.declared.cmp.Ordering.{Ordering}
use Rattle.std.specs.declared.cmp.Ordering.TheVariants.{Less, Equal, Greater}
use Rattle.std.proofs.lemmas.Cmp.{nat_list_cmp_total, alike_right}
use Rattle.apiservice_rows.specs.Row.{Row}
use Rattle.apiservice_table.specs.Order.{AllAfter, IsInOrder, place_of, further}

abbrev pub by_name : List ℕ → Row → Ordering
by_name name r = slice_cmp nat_cmp r.name name

-- a name before another one is no later than it, seen from any name
rises : (a b q : List ℕ) → slice_cmp nat_cmp a b ≡ Less
    → ordering_index (slice_cmp nat_cmp a q) ≤ ordering_index (slice_cmp nat_cmp b q)
rises a b q less = by_cases (slice_cmp nat_cmp b q) refl
  where
    below : (o : Ordering) → ordering_index o ≤ 2
    below Less = omega arith
    below Equal = omega arith
    below Greater = omega arith

    by_cases : (o : Ordering) → slice_cmp nat_cmp b q ≡ o
        → ordering_index (slice_cmp nat_cmp a q) ≤ ordering_index (slice_cmp nat_cmp b q)
    by_cases Less e = let k : slice_cmp nat_cmp a q ≡ Less = nat_list_cmp_total.trans a b q less e in rw (k, e) (omega arith)
    by_cases Equal e =
        let k : slice_cmp nat_cmp a q ≡ Less = sym (alike_right nat_list_cmp_total b q a e) ∙ less in
        rw (k, e) (omega arith)
    by_cases Greater e = rw e (below (slice_cmp nat_cmp a q))

after_at : (name : List ℕ) (rows : List Row) (i : ℕ) (d : Row) → AllAfter name rows → i < length rows
    → slice_cmp nat_cmp name (slice_index_or rows i d).name ≡ Less
after_at name [] i d h lt = absurd (omega (arith, lt))
after_at name (r ∷ rows) zero d h lt = h.0
after_at name (r ∷ rows) (suc i) d h lt = after_at name rows i d h.1 (omega (arith, lt))

-- rows in order rise, seen from any name
pub in_order : (name : List ℕ) (rows : List Row) → IsInOrder rows
    → IsNonDecreasingBy (λ r. ordering_index (by_name name r)) rows
in_order name [] h i j d le lt = absurd (omega (arith, lt))
in_order name (r ∷ rows) h zero zero d le lt = omega arith
in_order name (r ∷ rows) h zero (suc j) d le lt =
    rises r.name (slice_index_or rows j d).name name (after_at r.name rows j d h.0 (omega (arith, lt)))
in_order name (r ∷ rows) h (suc i) zero d le lt = absurd (omega (arith, le))
in_order name (r ∷ rows) h (suc i) (suc j) d le lt = in_order name rows h.1 i j d (omega (arith, le)) (omega (arith, lt))

found_place : (name : List ℕ) (rows : List Row) (i : ℕ) → IsInOrder rows → i < length rows
    → HoldsAt (λ r. by_name name r ≡ Equal) rows i → place_of name rows ≡ Ok i
found_place name [] i h lt same = absurd (omega (arith, lt))
found_place name (r ∷ rows) zero h lt same = let e : slice_cmp nat_cmp r.name name ≡ Equal = same r in rw e refl
found_place name (r ∷ rows) (suc i) h lt same =
    let before : slice_cmp nat_cmp r.name name ≡ Less =
    sym (alike_right nat_list_cmp_total (slice_index_or rows i r).name name r.name (same r))
    ∙ after_at r.name rows i r h.0 (omega (arith, lt)) in
    rw before (ap further (found_place name rows i h.1 (omega (arith, lt)) same))

free_place : (name : List ℕ) (rows : List Row) (i : ℕ) → i ≤ length rows
    → AllWithin (λ r. by_name name r ≡ Less) rows 0 i → AllWithin (λ r. by_name name r ≡ Greater) rows i (length rows)
    → place_of name rows ≡ Err i
free_place name [] zero le less greater = refl
free_place name [] (suc i) le less greater = absurd (omega (arith, le))
free_place name (r ∷ rows) zero le less greater =
    let e : slice_cmp nat_cmp r.name name ≡ Greater = greater 0 r (omega arith) (omega arith) in rw e refl
free_place name (r ∷ rows) (suc i) le less greater =
    let e : slice_cmp nat_cmp r.name name ≡ Less = less 0 r (omega arith) (omega arith) in
    rw e (ap further (free_place name rows i (omega (arith, le))
    (λ k d low high. less (suc k) d (omega arith) (omega (arith, high)))
    (λ k d low high. greater (suc k) d (omega (arith, low)) (omega (arith, high)))))

-- a binary search by names answers the place
pub searched_place : (name : List ℕ) (rows : List Row) (r : Result ℕ ℕ) → IsInOrder rows
    → IsBinarySearchResult (by_name name) rows r → MatchResult r (λ i. i < length rows) (λ i. i ≤ length rows)
    → r ≡ place_of name rows
searched_place name rows (Ok i) h found within = sym (found_place name rows i h within found)
searched_place name rows (Err i) h free within =
    let p = free (in_order name rows h) in sym (free_place name rows i within p.0 p.1)
