-- The rows after one change more, and its place among the own ones.
use Rattle.std.proofs.Common.{◌≡◌, ℕ, ◌+◌, List, [], ◌∷◌, ◌++◌, length, None, refl, sym, ap, subst, ◌∙◌, append-nil, length-append, arith}
use Rattle.apiservice_rows.specs.Row.{Row}
use Rattle.apiservice_table.specs.Changes.{after, changed, placed, refusal, rows_of, IsLater, Story, Took}
use Rattle.apiservice_table.specs.declared.change.Change.{Change}

pub after_push : (rows : List Row) (changes : List Change) (change : Change)
    → after rows (changes ++ change ∷ []) ≡ changed (after rows changes) change
after_push rows [] change = refl
after_push rows (first ∷ changes) change = after_push (changed rows first) changes change

pub placed_push : (at : ℕ) (changes : List Change) (change : Change)
    → placed at (changes ++ change ∷ []) ≡ placed at changes ++ (at + length changes, change) ∷ []
placed_push at [] change = let n : at ≡ at + 0 = omega arith in ap (λ y. (y, change) ∷ []) n
placed_push at (first ∷ changes) change =
    let n : at + 1 + length changes ≡ at + length (first ∷ changes) = omega arith in
    ap (λ ys. (at, first) ∷ ys)
    (placed_push (at + 1) changes change ∙ ap (λ y. placed (at + 1) changes ++ (y, change) ∷ []) n)

-- ---- where all changes are own ones

placed_length : (at : ℕ) (changes : List Change) → length (placed at changes) ≡ length changes
placed_length at [] = refl
placed_length at (change ∷ changes) = let ih = placed_length (at + 1) changes in omega (arith, ih)

empty_by_length : (changes : List Change) → length changes ≡ 0 → changes ≡ []
empty_by_length [] e = refl
empty_by_length (change ∷ changes) e = absurd (omega (arith, e))

later_by_length : (old new : List Change) → IsLater old new → length new ≡ length old → new ≡ old
later_by_length old new later e =
    let more = later.0 in
    let lengths : length new ≡ length old + length more = ap (λ l. length l) later.1 ∙ length-append old more in
    let none : more ≡ [] = empty_by_length more (omega (arith, lengths, e)) in
    later.1 ∙ ap (λ l. old ++ l) none ∙ append-nil old

-- where no own change is added, none is seen
later_same : (old new : List Change) → IsLater old new → placed 0 new ≡ placed 0 old → new ≡ old
later_same old new later e =
    let lengths : length new ≡ length old = sym (placed_length 0 new) ∙ ap (λ l. length l) e ∙ placed_length 0 old in
    later_by_length old new later lengths

-- then the rows stand
pub rows_stand : (old new : Story) → IsLater old.seen new.seen → new.opening ≡ old.opening
    → placed 0 new.seen ≡ placed 0 old.seen → rows_of new ≡ rows_of old
rows_stand old new later fixed own =
    ap (λ opening. after opening new.seen) fixed ∙ ap (after old.opening) (later_same old.seen new.seen later own)

-- where one is added, it is the only one seen
before_same : (old before new : List Change) (change : Change) → IsLater old before → new ≡ before ++ change ∷ []
    → placed 0 new ≡ placed 0 old ++ (length before, change) ∷ [] → before ≡ old
before_same old before new change later e own =
    let one : length new ≡ length before + 1 = ap (λ l. length l) e ∙ length-append before (change ∷ []) in
    let owned : length (placed 0 new) ≡ length (placed 0 old) + 1 =
    ap (λ l. length l) own ∙ length-append (placed 0 old) ((length before, change) ∷ []) in
    let new_length = placed_length 0 new in
    let old_length = placed_length 0 old in
    later_by_length old before later (omega (arith, one, owned, new_length, old_length))

-- then the rows take it
pub rows_take : (old new : Story) (change : Change) → new.opening ≡ old.opening
    → Took old.opening old.seen (placed 0 old.seen) change new.seen (placed 0 new.seen)
    → (refusal (rows_of old) change ≡ None) × (rows_of new ≡ changed (rows_of old) change)
rows_take old new change fixed took =
    let before = took.0 in
    let same : before ≡ old.seen = before_same old.seen before new.seen change took.1 took.2 took.4 in (
      subst (λ l. refusal (after old.opening l) change ≡ None) same took.3,
      ap (λ opening. after opening new.seen) fixed ∙ ap (after old.opening) took.2
          ∙ after_push old.opening before change
          ∙ ap (λ l. changed (after old.opening l) change) same,
    )
