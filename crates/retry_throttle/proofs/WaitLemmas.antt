-- The askings before one post.
use Rattle.std.proofs.Common.{◌≡◌, ◌<◌, ◌≤◌, ◌+◌, ℕ, Bool, true, false, List, [], ◌∷◌, ◌++◌, length, refl, sym, ap, ◌∙◌, subst, arith, length-append}
use Rattle.retry_throttle.specs.Buckets.{Level, gives, asked}
use Rattle.retry_throttle.specs.Clocks.{ClockTells, Passed}
use Rattle.retry_throttle.specs.Pauses.{rests_in}
use Rattle.retry_throttle.specs.Sendings.{Asked, Paused, Refuses, Waited, Waits}
use Rattle.retry_throttle.specs.declared.pause.TheConstants.{MOST_RESTS}
use Rattle.retry_throttle.proofs.ClockLemmas.{passed_none, passed_on}

-- ---- askings that gave no token

pub refuses_more : (b : Level) (ms : List ℕ) (n : Level) (m : ℕ) → Refuses b ms n → n.last ≤ m → gives n m ≡ false
    → Refuses b (ms ++ m ∷ []) (asked n m)
refuses_more b [] n m r h g =
    (subst (λ z. z.last ≤ m) r h, subst (λ z. gives z m ≡ false) r g, ap (λ z. asked z m) r)
refuses_more b (k ∷ ks) n m r h g = (r.0, r.1, refuses_more (asked b k) ks n m r.2 h g)

module _ (b : Level) (c : ClockTells) where
  pub waits_start : Waits b c 0 b c
  waits_start = record { refused = []; refuses = refl; count_is = refl; few = omega arith; passed = passed_none c }

  module _ (count : ℕ) (n : Level) (d e : ClockTells) (m : ℕ) (w : Waits b c count n d) (h : n.last ≤ m) (p : Passed d (m ∷ []) 0 e) where
    one_more : length (w.refused ++ m ∷ []) ≡ count + 1
    one_more = length-append w.refused (m ∷ []) ∙ ap (λ k. k + 1) w.count_is

    rested_on : (f : ClockTells) → Passed e [] 1 f → Passed c (w.refused ++ m ∷ []) (length (w.refused ++ m ∷ [])) f
    rested_on f r =
        subst (λ k. Passed c (w.refused ++ m ∷ []) k f) (sym (length-append w.refused (m ∷ [])))
        (passed_on c d f w.refused (m ∷ []) (length w.refused) 1 w.passed (passed_on d e f (m ∷ []) [] 0 1 p r))

    pub waits_more : (f : ClockTells) → Passed e [] 1 f → gives n m ≡ false → count + 1 < MOST_RESTS → Waits b c (count + 1) (asked n m) f
    waits_more f r g few = record {
      refused = w.refused ++ m ∷ [];
      refuses = refuses_more b w.refused n m w.refuses h g;
      count_is = one_more;
      few = few;
      passed = rested_on f r;
    }

    pub waits_out : (f : ClockTells) → Passed e [] 1 f → gives n m ≡ false → count + 1 ≡ MOST_RESTS → Asked b c false (asked n m) f
    waits_out f r g all = (
      w.refused ++ m ∷ [],
      record { refuses = refuses_more b w.refused n m w.refuses h g; all = one_more ∙ all },
      rested_on f r,
    )

    pub waits_granted : gives n m ≡ true → Asked b c true (asked n m) e
    waits_granted g = (
      w.refused,
      m,
      record {
        between = n;
        refuses = w.refuses;
        few = subst (λ k. k < MOST_RESTS) (sym w.count_is) w.few;
        later = h;
        given = g;
        asked_is = refl;
      },
      subst (λ k. Passed c (w.refused ++ m ∷ []) k e) (let k : length w.refused + 0 ≡ length w.refused = omega arith in k)
          (passed_on c d e w.refused (m ∷ []) (length w.refused) 0 w.passed p),
    )

-- ---- after a wait

pub after_pause : (wait : ℕ) (b : Level) (c d e : ClockTells) (given : Bool) (n : Level) → Paused wait c d → Asked b d given n e → Waited wait b c given n e
after_pause wait b c d e true n p a =
    (p.0, a.0, a.1, p.1, a.2, passed_on c d e p.0 (a.0 ++ a.1 ∷ []) (rests_in p.0) (length a.0) p.2 a.3)
after_pause wait b c d e false n p a = (p.0, a.0, p.1, a.1, passed_on c d e p.0 a.0 (rests_in p.0) (length a.0) p.2 a.2)
