-- The rows after one change more, and a table made anew from the rows of another.
use Rattle.std.proofs.Common.{◌≡◌, ℕ, ◌+◌, ◌-◌, ◌<◌, List, [], ◌∷◌, ◌++◌, length, Some, slice_get, refl, ap, sym, ◌∙◌, arith, append_assoc, append-nil, length-append}
use Rattle.std.proofs.lemmas.List.{map-append}
use mathlib.Core.List.{IsPrefix}
use Rattle.std.specs.Cmp.Lexicographic.{slice_cmp}
use Rattle.std.specs.Ordering.{nat_cmp}
use Rattle.std.specs.declared.cmp.Ordering.TheVariants.{Less}
use Rattle.apiservice_rows.specs.Row.{Row}
use Rattle.apiservice_table.specs.Changes.{after, changed}
use Rattle.apiservice_table.specs.Order.{AllAfter, IsInOrder}
use Rattle.apiservice_table.specs.Table.{with_row, with_rows}
use Rattle.apiservice_table.specs.declared.change.Change.{Change}
use Rattle.route_history.specs.History.{changes_of}
use Rattle.route_history.specs.declared.entry.Entry.{Entry}

one_only : {A : Type 0} (zs : List A) (c : A) → length zs ≡ 1 → slice_get zs 0 ≡ Some c → zs ≡ c ∷ []
one_only [] c len at = absurd (omega arith)
one_only {A} (z ∷ []) c len at = let e : z ≡ c = cc in ap (λ (y : A). y ∷ []) e
one_only (z ∷ y ∷ ys) c len at = absurd (omega arith)

past : {A : Type 0} (xs zs : List A) → slice_get (xs ++ zs) (length xs) ≡ slice_get zs 0
past [] zs = refl
past (x ∷ xs) zs = past xs zs

-- a list with one element more ends with its last
pub extends : (xs ys : List Entry) (c : Entry) → IsPrefix xs ys → length ys ≡ length xs + 1 → slice_get ys (length ys - 1) ≡ Some c → ys ≡ xs ++ c ∷ []
extends xs ys c p len at =
    let n : length ys - 1 ≡ length xs = omega arith in
    let one : length p.0 ≡ 1 = omega (arith, ap length p.1, length-append xs p.0, len) in
    let first : slice_get p.0 0 ≡ Some c = sym (past xs p.0) ∙ (ap (λ l. slice_get l (length xs)) p.1 ∙ (ap (λ k. slice_get ys k) (sym n) ∙ at)) in
    sym p.1 ∙ ap (λ l. xs ++ l) (one_only p.0 c one first)

-- the last of a list that ends so
pub last_of : (xs ys : List Entry) (c : Entry) → ys ≡ xs ++ c ∷ [] → (0 < length ys) × (slice_get ys (length ys - 1) ≡ Some c)
last_of xs ys c e =
    let len : length ys ≡ length xs + 1 = omega (arith, ap length e, length-append xs (c ∷ [])) in
    let n : length ys - 1 ≡ length xs = omega arith in
    (omega arith, ap (λ k. slice_get ys k) n ∙ (ap (λ l. slice_get l (length xs)) e ∙ past xs (c ∷ [])))

pub after_push : (rows : List Row) (changes : List Change) (change : Change) → after rows (changes ++ change ∷ []) ≡ changed (after rows changes) change
after_push rows [] change = refl
after_push rows (first ∷ changes) change = after_push (changed rows first) changes change

-- the rows after one entry more
pub after_entry : (rows : List Row) (entries : List Entry) (entry : Entry)
    → after rows (changes_of (entries ++ entry ∷ [])) ≡ changed (after rows (changes_of entries)) entry.change
after_entry rows entries entry =
    ap (after rows) (map-append (λ (e : Entry). e.change) entries (entry ∷ [])) ∙ after_push rows (changes_of entries) entry.change

-- ---- rows in order, put in one after another, stay in their order

abbrev AllBefore : List ℕ → List Row → Type 0
AllBefore name [] = Unit {0}
AllBefore name (r ∷ rows) = (slice_cmp nat_cmp r.name name ≡ Less) × AllBefore name rows

among_after : (name : List ℕ) (xs : List Row) (y : Row) (ys : List Row) → AllAfter name (xs ++ y ∷ ys) → slice_cmp nat_cmp name y.name ≡ Less
among_after name [] y ys h = h.0
among_after name (x ∷ xs) y ys h = among_after name xs y ys h.1

all_before : (xs : List Row) (y : Row) (ys : List Row) → IsInOrder (xs ++ y ∷ ys) → AllBefore y.name xs
all_before [] y ys h = tt
all_before (x ∷ xs) y ys h = (among_after x.name xs y ys h.0, all_before xs y ys h.1)

put_last : (xs : List Row) (y : Row) → AllBefore y.name xs → with_row y xs ≡ xs ++ y ∷ []
put_last [] y h = refl
put_last (x ∷ xs) y h = rw h.0 (ap (λ l. x ∷ l) (put_last xs y h.1))

pub stay_ordered : (ys xs : List Row) → IsInOrder (xs ++ ys) → with_rows ys xs ≡ xs ++ ys
stay_ordered [] xs h = sym (append-nil xs)
stay_ordered (y ∷ ys) xs h =
    let e = append_assoc xs (y ∷ []) ys in
    ap (λ l. with_rows ys l) (put_last xs y (all_before xs y ys h))
    ∙ stay_ordered ys (xs ++ y ∷ []) (rw e h)
    ∙ e
