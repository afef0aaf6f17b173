-- The wait before a post.
use Rattle.std.proofs.Common.{◌≡◌, ◌<◌, ◌≤◌, ◌+◌, ◌⊎◌, ℕ, zero, suc, List, [], ◌∷◌, ◌++◌, length, refl, sym, ap, ◌∙◌, subst, arith, length-append}
use Rattle.std.proofs.lemmas.List.Elements.{All-push, All-nil}
use Rattle.retry_throttle.specs.Clocks.{ClockTells, Passed}
use Rattle.retry_throttle.specs.Pauses.{Pauses, PausesFor, rests_in}
use Rattle.retry_throttle.specs.Sendings.{Paused, PausesSoFar}
use Rattle.retry_throttle.specs.declared.pause.TheConstants.{MOST_RESTS}
use Rattle.retry_throttle.proofs.ClockLemmas.{passed_none, passed_on}

pub no_pause : (c : ClockTells) → Paused 0 c c
no_pause c = ([], refl, passed_none c)

pub one_pause : (wait : ℕ) (c d : ClockTells) → 0 < wait → (moments : List ℕ) → PausesFor wait moments → Passed c moments (rests_in moments) d → Paused wait c d
one_pause zero c d h moments p q = absurd (omega (arith, h))
one_pause (suc wait) c d h moments p q = (moments, p, q)

pub pause_start : (wait first : ℕ) (c d : ClockTells) → Passed c (first ∷ []) 0 d → PausesSoFar wait first c 0 d
pause_start wait first c d p = record { early = []; before = All-nil (λ m. m < first + wait); count_is = refl; few = omega arith; passed = p }

module _ (wait first : ℕ) (c d e f : ClockTells) (count now : ℕ) (s : PausesSoFar wait first c count d) (r : Passed d [] 1 e) (n : Passed e (now ∷ []) 0 f) where
  later : Passed c (first ∷ (s.early ++ now ∷ [])) (count + 1) f
  later = passed_on c d f (first ∷ s.early) (now ∷ []) count 1 s.passed (passed_on d e f [] (now ∷ []) 1 0 r n)

  pub pause_more : now < first + wait → count + 1 < MOST_RESTS → PausesSoFar wait first c (count + 1) f
  pause_more h few = record {
    early = s.early ++ now ∷ [];
    before = All-push (λ m. m < first + wait) s.early now s.before h;
    count_is = length-append s.early (now ∷ []) ∙ ap (λ k. k + 1) s.count_is;
    few = few;
    passed = later;
  }

  pub pause_ends : 0 < wait → (first + wait ≤ now) ⊎ (count + 1 ≡ MOST_RESTS) → Paused wait c f
  pause_ends some h =
      let k : length (s.early ++ now ∷ []) ≡ count + 1 = length-append s.early (now ∷ []) ∙ ap (λ k. k + 1) s.count_is in
      one_pause wait c f some (first ∷ (s.early ++ now ∷ []))
      (record {
        first = first;
        early = s.early;
        last = now;
        moments_are = refl;
        before = s.before;
        few = subst (λ k. k < MOST_RESTS) (sym s.count_is) s.few;
        ends = subst (λ k. (first + wait ≤ now) ⊎ (k + 1 ≡ MOST_RESTS)) (sym s.count_is) h;
      })
      (subst (λ k. Passed c (first ∷ (s.early ++ now ∷ [])) k f) (sym k) later)
