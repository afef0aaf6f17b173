-- Lanes one after another.
use Rattle.std.proofs.Common.{◌≡◌, ◌<◌, ◌≤◌, ◌+◌, ℕ, List, [], ◌∷◌, ◌++◌, length, length-append, append_assoc, Option, Some, None, refl, sym, ap, subst, ◌∙◌, arith}
use Rattle.any_lane.specs.declared.lane.AnyLane.{AnyLane}
use Rattle.any_lane.specs.declared.lane.AnyLane.TheVariants.{Off, Queue, Own}
use Rattle.sink_lanes.specs.Ends.{some_first, queued_part, own_part, queued_parts, own_parts}
use Rattle.sink_lanes.specs.Lanes.{AllOff}

first_join : {A : Type 0} (o : Option A) (xs ys : List A) → some_first o (xs ++ ys) ≡ some_first o xs ++ ys
first_join None xs ys = refl
first_join (Some x) xs ys = refl

few_first : {A : Type 0} (o : Option A) (xs : List A) → length (some_first o xs) ≤ length xs + 1
few_first None xs = omega arith
few_first (Some x) xs = omega arith

-- the next one of a list that is walked by value
pub next_whole : {A : Type 0} (xs ys rest zs : List A) (x : A) → xs ≡ ys ++ rest → rest ≡ x ∷ zs → xs ≡ (ys ++ x ∷ []) ++ zs
next_whole xs ys rest zs x e r = (e ∙ ap (λ l. ys ++ l) r) ∙ sym (append_assoc ys (x ∷ []) zs)

pub next_below : {A : Type 0} (xs ys rest zs : List A) (x : A) → xs ≡ ys ++ rest → rest ≡ x ∷ zs → length ys < length xs
next_below xs ys rest zs x e r = omega (arith, ap length (e ∙ ap (λ l. ys ++ l) r), length-append ys (x ∷ zs))

module _ {S R : Type 0} where
  off_snoc : (xs : List (AnyLane S R)) → AllOff xs → AllOff (xs ++ Off 0 ∷ [])
  off_snoc [] h = (refl, tt)
  off_snoc (x ∷ xs) h = (h.0, off_snoc xs h.1)

  pub off_more : (xs ys : List (AnyLane S R)) → ys ≡ xs ++ Off 0 ∷ [] → AllOff xs → AllOff ys
  off_more xs ys e h = subst AllOff (sym e) (off_snoc xs h)

  pub off_none : (xs : List (AnyLane S R)) → xs ≡ [] → AllOff xs
  off_none xs e = subst AllOff (sym e) tt

  pub queued_snoc : (xs : List (AnyLane S R)) (x : AnyLane S R)
      → queued_parts (xs ++ x ∷ []) ≡ queued_parts xs ++ some_first (queued_part x) []
  queued_snoc [] x = refl
  queued_snoc (y ∷ xs) x =
      ap (some_first (queued_part y)) (queued_snoc xs x)
      ∙ first_join (queued_part y) (queued_parts xs) (some_first (queued_part x) [])

  pub own_snoc : (xs : List (AnyLane S R)) (x : AnyLane S R) → own_parts (xs ++ x ∷ []) ≡ own_parts xs ++ some_first (own_part x) []
  own_snoc [] x = refl
  own_snoc (y ∷ xs) x =
      ap (some_first (own_part y)) (own_snoc xs x) ∙ first_join (own_part y) (own_parts xs) (some_first (own_part x) [])

  pub few_queued : (xs : List (AnyLane S R)) → length (queued_parts xs) ≤ length xs
  few_queued [] = omega arith
  few_queued (x ∷ xs) = let a = few_queued xs in let b = few_first (queued_part x) (queued_parts xs) in omega arith

  pub few_own : (xs : List (AnyLane S R)) → length (own_parts xs) ≤ length xs
  few_own [] = omega arith
  few_own (x ∷ xs) = let a = few_own xs in let b = few_first (own_part x) (own_parts xs) in omega arith
