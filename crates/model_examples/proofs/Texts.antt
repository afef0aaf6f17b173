-- Texts that stand in others.
use Rattle.std.proofs.Common.{◌≡◌, ℕ, ◌&&◌, ◌||◌, Bool, true, false, List, [], ◌∷◌, ◌++◌, refl, ap, ◌∙◌, eqb-true}
use Rattle.std.specs.Prelude.{◌==◌}
use Rattle.std.specs.Str.Iter.{HasSubslice}

-- one text begins another
unfoldable pub begins_with : List ℕ → List ℕ → Bool
begins_with [] bytes = true
begins_with (x ∷ xs) [] = false
begins_with (x ∷ xs) (b ∷ bytes) = (b == x) && begins_with xs bytes

-- one text stands in another
unfoldable pub has_text : List ℕ → List ℕ → Bool
has_text text [] = begins_with text []
has_text text (b ∷ bytes) = begins_with text (b ∷ bytes) || has_text text bytes

both_true : (a b : Bool) → (a && b) ≡ true → (a ≡ true) × (b ≡ true)
both_true true b h = (refl, h)
both_true false b h = absurd (cc h)

begins : (text bytes : List ℕ) → begins_with text bytes ≡ true → (rest : List ℕ) × (bytes ≡ text ++ rest)
unfolding begins_with
begins [] bytes h = (bytes, refl)
begins (x ∷ xs) [] h = absurd (cc h)
begins (x ∷ xs) (b ∷ bytes) h =
    let parts = both_true (b == x) (begins_with xs bytes) h in
    let more = begins xs bytes parts.1 in
    (more.0, ap (λ y. y ∷ bytes) (eqb-true b x parts.0) ∙ ap (λ ys. x ∷ ys) more.1)

stands_first : (text bytes : List ℕ) → begins_with text bytes ≡ true → HasSubslice bytes text
stands_first text bytes h = let rest = begins text bytes h in ([], rest.0, rest.1)

stands_later : (text bytes : List ℕ) (b : ℕ) → HasSubslice bytes text → HasSubslice (b ∷ bytes) text
stands_later text bytes b (before, rest, e) = (b ∷ before, rest, ap (λ ys. b ∷ ys) e)

pub stands_in : (text bytes : List ℕ) → has_text text bytes ≡ true → HasSubslice bytes text
unfolding has_text
stands_in text [] h = stands_first text [] h
stands_in text (b ∷ bytes) h = by_first (begins_with text (b ∷ bytes)) refl h (stands_in text bytes)
  where
    by_first : (first : Bool) → begins_with text (b ∷ bytes) ≡ first → (first || has_text text bytes) ≡ true
        → (has_text text bytes ≡ true → HasSubslice bytes text) → HasSubslice (b ∷ bytes) text
    by_first true e h later = stands_first text (b ∷ bytes) e
    by_first false e h later = stands_later text bytes b (later h)
