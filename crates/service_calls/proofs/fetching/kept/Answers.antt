use Rattle.std.proofs.Common.{◌≡◌, ℕ, ◌≤◌, ◌<◌, nat_le, Bool, true, false, if◌then◌else◌, List, length, Option, Some, None, sym, refl, ◌∙◌, arith}
use Rattle.std.proofs.lemmas.Bool.Decides.{nat_tests}
use Rattle.stream_relay.specs.declared.keep.TheConstants.{MOST_KEPT_BYTES}
use Rattle.service_calls.proofs.fetching.kept.Goals as goal

-- a body that isn't kept is too long
too_long : (body : List ℕ) → (if nat_le (length body) MOST_KEPT_BYTES then Some body else None) ≡ None → MOST_KEPT_BYTES < length body
too_long body e = by_test (nat_le (length body) MOST_KEPT_BYTES) refl e
  where
    longer : nat_le (length body) MOST_KEPT_BYTES ≡ false → MOST_KEPT_BYTES < length body
    longer t = grind (arith, nat_tests, t)

    by_test : (b : Bool) → nat_le (length body) MOST_KEPT_BYTES ≡ b → (if b then Some body else None) ≡ None → MOST_KEPT_BYTES < length body
    by_test true t k = absurd (cc k)
    by_test false t k = longer t

-- one that is kept is the one that came
kept_is : (b : Bool) (body text : List ℕ) → Some text ≡ (if b then Some body else None) → text ≡ body
kept_is true body text e = cc
kept_is false body text e = absurd (cc e)

pub returns-in_ok-to_vec-in-Some : goal.returns-in_ok-to_vec-in-Some
returns-in_ok-to_vec-in-Some c = λ body keeps.
    (refl, c.new.ensures ∙ c.in_ok-to_vec-in-Some.ensures.items_if_clones_equal (λ x y e. e) ∙ kept_is (nat_le (length body) MOST_KEPT_BYTES) body c.in-Some.body.now (c.in-Some.ensures ∙ keeps.shown))

pub returns-in-None : goal.returns-in-None
returns-in-None c = λ body keeps. (refl, too_long body (sym (c.in-None.ensures ∙ keeps.shown)))
