-- Rows put in one after another.
use Rattle.std.proofs.Common.{◌≡◌, ℕ, ◌+◌, ◌≤◌, Bool, true, false, List, [], ◌∷◌, length, Option, Some, None, refl, sym, ap, ◌∙◌, arith}
use Rattle.std.specs.Prelude.{if◌then◌else◌}
use Rattle.std.specs.Cmp.Lexicographic.{slice_cmp}
use Rattle.std.specs.Ordering.{nat_cmp}
use Rattle.std.specs.Str.{bytes_eq}
use Rattle.std.specs.declared.cmp.Ordering.{Ordering}
use Rattle.std.specs.declared.cmp.Ordering.TheVariants.{Less, Equal, Greater}
use Rattle.std.proofs.lemmas.Cmp.{nat_list_cmp_total, tied_itself}
use Rattle.std.proofs.lemmas.Slice.Eq.{bytes_eq-Decides}
use Rattle.apiservice_rows.specs.Row.{Row}
use Rattle.apiservice_table.specs.Table.{HasDistinctNames, row_named, with_row, with_rows}
use Rattle.apiservice_table.proofs.OrderLemmas.{length_with, same}

equal_texts : (a b : List ℕ) → bytes_eq a b ≡ true → a ≡ b
equal_texts a b e = (bytes_eq-Decides a b).0 e

-- two texts that a third equals are not in order
clash : (a b q : List ℕ) → slice_cmp nat_cmp a b ≡ Less → bytes_eq a q ≡ true → bytes_eq b q ≡ true → ⊥
clash a b q less x y =
    let e : a ≡ b = equal_texts a q x ∙ sym (equal_texts b q y) in
    cc (sym less ∙ ap (λ z. slice_cmp nat_cmp z b) e ∙ tied_itself nat_list_cmp_total b)

-- the row of a name, once another was put in
pub named_q : (q : List ℕ) (new : Row) (rows : List Row)
    → row_named q (with_row new rows) ≡ (if bytes_eq new.name q then Some new else row_named q rows)
named_q q new [] = refl
named_q q new (r ∷ rows) = by_cases (named_q q new rows) (slice_cmp nat_cmp r.name new.name) refl (bytes_eq r.name q) refl (bytes_eq new.name q) refl
  where
    by_cases : row_named q (with_row new rows) ≡ (if bytes_eq new.name q then Some new else row_named q rows)
        → (o : Ordering) → slice_cmp nat_cmp r.name new.name ≡ o → (x : Bool) → bytes_eq r.name q ≡ x
        → (y : Bool) → bytes_eq new.name q ≡ y
        → row_named q (with_row new (r ∷ rows)) ≡ (if bytes_eq new.name q then Some new else row_named q (r ∷ rows))
    by_cases ih Less k true x true y = absurd (clash r.name new.name q k x y)
    by_cases ih Less k true x false y = rw (k, x, y) refl
    by_cases ih Less k false x b y = rw (k, x) ih
    by_cases ih Equal k x e true y = rw (k, y) refl
    by_cases ih Equal k x e false y =
        let z : bytes_eq r.name q ≡ false = ap (λ t. bytes_eq t q) (same r.name new.name k) ∙ y in
        rw (k, y, z) refl
    by_cases ih Greater k x e b y = rw k refl

abbrev pub first_of : Option Row → Option Row → Option Row
first_of None other = other
first_of (Some r) other = Some r

-- the row of a name, once others were put in
pub named_many : (q : List ℕ) (news rows : List Row) → HasDistinctNames news
    → row_named q (with_rows news rows) ≡ first_of (row_named q news) (row_named q rows)
named_many q [] rows d = refl
named_many q (n ∷ news) rows d =
    named_many q news (with_row n rows) d.1
    ∙ ap (first_of (row_named q news)) (named_q q n rows)
    ∙ by_cases (bytes_eq n.name q) refl
  where
    by_cases : (b : Bool) → bytes_eq n.name q ≡ b
        → first_of (row_named q news) (if bytes_eq n.name q then Some n else row_named q rows)
        ≡ first_of (row_named q (n ∷ news)) (row_named q rows)
    by_cases true e =
        let none : row_named q news ≡ None = ap (λ y. row_named y news) (sym (equal_texts n.name q e)) ∙ d.0 in
        rw (e, none) refl
    by_cases false e = rw e refl

pub named_all : (q : List ℕ) (rows : List Row) → HasDistinctNames rows
    → row_named q (with_rows rows []) ≡ row_named q rows
named_all q rows d = named_many q rows [] d ∙ alone (row_named q rows)
  where
    alone : (o : Option Row) → first_of o None ≡ o
    alone None = refl
    alone (Some r) = refl

pub length_many : (news rows : List Row) → length (with_rows news rows) ≤ length news + length rows
length_many [] rows = omega arith
length_many (n ∷ news) rows =
    let more = length_many news (with_row n rows) in
    let one = length_with n rows in
    omega (arith, more, one)
