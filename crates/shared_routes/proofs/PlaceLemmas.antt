-- Own changes keep their places while more is seen.
use Rattle.std.proofs.Common.{◌≡◌, ℕ, zero, suc, ◌+◌, ◌-◌, ◌<◌, ◌≤◌, ◌&&◌, nat_lt, Bool, true, false, List, [], ◌∷◌, ◌++◌, length, Option, Some, None, slice_get, refl, ap, ◌∙◌, arith, append_assoc, length-append}
use Rattle.std.proofs.lemmas.Bool.Decides.{nat_tests}
use Rattle.apiservice_table.specs.Changes.{IsLater}
use Rattle.apiservice_table.specs.declared.change.Change.{Change}
use Rattle.shared_routes.specs.Places.{are_below, changes_at, with_change}

both : (a b : Bool) → (a && b) ≡ true → (a ≡ true) × (b ≡ true)
both true b e = (refl, e)
both false b e = absurd (cc e)

pub joined : (a b : Bool) → a ≡ true → b ≡ true → (a && b) ≡ true
joined true b p q = q
joined false b p q = absurd (cc p)

less : (a b : ℕ) → nat_lt a b ≡ true → a < b
less a b e = grind (arith, nat_tests)

pub is_less : (a b : ℕ) → a < b → nat_lt a b ≡ true
is_less a b h = grind (arith, nat_tests)

get_within : (xs ys : List Change) (k : ℕ) → k < length xs → slice_get (xs ++ ys) k ≡ slice_get xs k
get_within [] ys k lt = absurd (omega arith)
get_within (x ∷ xs) ys zero lt = refl
get_within (x ∷ xs) ys (suc k) lt = get_within xs ys k (omega arith)

get_past : (xs : List Change) (y : Change) → slice_get (xs ++ y ∷ []) (length xs) ≡ Some y
get_past [] y = refl
get_past (x ∷ xs) y = get_past xs y

pub places_stay : (places : List ℕ) (seen more : List Change) → are_below (length seen) places ≡ true
    → changes_at places (seen ++ more) ≡ changes_at places seen
places_stay [] seen more h = refl
places_stay (place ∷ places) seen more h =
    let parts = both (nat_lt place (length seen)) (are_below (length seen) places) h in
    let here = get_within seen more place (less place (length seen) parts.0) in
    ap (λ found. with_change place found (changes_at places (seen ++ more))) here
    ∙ ap (λ others. with_change place (slice_get seen place) others) (places_stay places seen more parts.1)

places_last : (places : List ℕ) (seen : List Change) (change : Change)
    → changes_at (places ++ length seen ∷ []) (seen ++ change ∷ [])
    ≡ changes_at places (seen ++ change ∷ []) ++ (length seen, change) ∷ []
places_last [] seen change = ap (λ found. with_change (length seen) found []) (get_past seen change)
places_last (place ∷ places) seen change =
    ap (λ others. with_change place (slice_get (seen ++ change ∷ []) place) others) (places_last places seen change)
    ∙ shifted (slice_get (seen ++ change ∷ []) place)
  where
    shifted : (found : Option Change) → with_change place found (changes_at places (seen ++ change ∷ []) ++ (length seen, change) ∷ [])
        ≡ with_change place found (changes_at places (seen ++ change ∷ [])) ++ (length seen, change) ∷ []
    shifted None = refl
    shifted (Some found) = refl

-- what was seen more leaves the own changes
pub own_stay : (places : List ℕ) (old new : List Change) → IsLater old new → are_below (length old) places ≡ true
    → changes_at places new ≡ changes_at places old
own_stay places old new later h = ap (λ l. changes_at places l) later.1 ∙ places_stay places old later.0 h

-- an own change joins them at its place
pub own_push : (places : List ℕ) (old before new : List Change) (change : Change) (place : ℕ) → IsLater old before → new ≡ before ++ change ∷ []
    → place ≡ length new - 1 → are_below (length old) places ≡ true
    → changes_at (places ++ place ∷ []) new ≡ changes_at places old ++ (length before, change) ∷ []
own_push places old before new change place later last at h =
    let one : length new ≡ length before + 1 = ap (λ l. length l) last ∙ length-append before (change ∷ []) in
    let here : place ≡ length before = omega (arith, at, one) in
    let all : before ++ change ∷ [] ≡ old ++ (later.0 ++ change ∷ []) = ap (λ l. l ++ change ∷ []) later.1 ∙ append_assoc old later.0 (change ∷ []) in
    ap (λ n. changes_at (places ++ n ∷ []) new) here
    ∙ ap (λ l. changes_at (places ++ length before ∷ []) l) last
    ∙ places_last places before change
    ∙ ap (λ l. l ++ (length before, change) ∷ []) (ap (λ l. changes_at places l) all ∙ places_stay places old (later.0 ++ change ∷ []) h)
