-- The keys that come again, one row before the others.
use Rattle.std.proofs.Common.{◌≡◌, ℕ, ◌+◌, ◌-◌, ◌<◌, ◌≤◌, Bool, true, false, cond, if◌then◌else◌, List, [], ◌∷◌, ◌++◌, length, get_or, drop, reverse, refl, sym, ap, ◌∙◌, subst, arith}
use Rattle.std.specs.Prelude.{not, ◌||◌}
use Rattle.std.specs.Str.{bytes_eq}
use Rattle.std.proofs.lemmas.List.{drop_more, reverse-append}
use Rattle.apiservice_rows.specs.RowList.{is_among}
use Rattle.warned_files.specs.Endpoints.{overridden}
use Rattle.warned_files.specs.Places.{record_place}

-- the keys from a row on are its own and those of the rows after it
pub key_here : (keys : List (List ℕ)) (i : ℕ) (key : List ℕ) → 0 < i → i ≤ length keys → key ≡ get_or keys (i - 1) key
    → drop (i - 1) keys ≡ key ∷ drop i keys
key_here keys i key some within is =
    let next : (i - 1) + 1 ≡ i = omega (arith, some) in
    subst (λ k. drop (i - 1) keys ≡ key ∷ drop k keys) next
    (drop_more keys (i - 1) key (omega (arith, some, within)) ∙ ap (λ y. y ∷ drop ((i - 1) + 1) keys) (sym is))

or_cases : (a b : Bool) → (a || b) ≡ cond a true b
or_cases true b = refl
or_cases false b = refl

pub among_cons : (q key : List ℕ) (keys : List (List ℕ)) → is_among q (key ∷ keys) ≡ cond (bytes_eq key q) true (is_among q keys)
among_cons q key keys = or_cases (bytes_eq key q) (is_among q keys)

abbrev place_if : Bool → ℕ → List (List ℕ)
place_if b row = if b then record_place row ∷ [] else []

-- a key that comes again
pub again : (i : ℕ) (key : List ℕ) (rest : List (List ℕ)) → 0 < i → is_among key rest ≡ true
    → reverse (overridden (i - 1) (key ∷ rest)) ≡ reverse (overridden i rest) ++ record_place (i - 1) ∷ []
again i key rest some e =
    let next : (i - 1) + 1 ≡ i = omega (arith, some) in
    ap (λ b. reverse (place_if b (i - 1) ++ overridden ((i - 1) + 1) rest)) e
    ∙ reverse-append (record_place (i - 1) ∷ []) (overridden ((i - 1) + 1) rest)
    ∙ ap (λ k. reverse (overridden k rest) ++ record_place (i - 1) ∷ []) next

-- one that doesn't
pub once : (i : ℕ) (key : List ℕ) (rest : List (List ℕ)) → 0 < i → is_among key rest ≡ false
    → reverse (overridden (i - 1) (key ∷ rest)) ≡ reverse (overridden i rest)
once i key rest some e =
    let next : (i - 1) + 1 ≡ i = omega (arith, some) in
    ap (λ b. reverse (place_if b (i - 1) ++ overridden ((i - 1) + 1) rest)) e ∙ ap (λ k. reverse (overridden k rest)) next

pub from_not : (b : Bool) → not b ≡ false → b ≡ true
from_not true e = refl
from_not false e = absurd (cc e)

pub to_not : (b : Bool) → not b ≡ true → b ≡ false
to_not true e = absurd (cc e)
to_not false e = refl
