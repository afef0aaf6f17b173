-- The posts of a batch are as far apart as its waits say.
use Rattle.std.proofs.Common.{◌≡◌, ◌≤◌, ◌+◌, ◌⊎◌, ⊎_elim, inl, inr, ℕ, zero, suc, List, [], ◌∷◌, ◌++◌, length, refl, sym, ap, ◌∙◌, subst, arith, append-nil, append_assoc, length-append}
use Rattle.front_base.specs.Line.{Line}
use Rattle.retry_throttle.specs.Apart.{AreApart, Follow}
use Rattle.retry_throttle.specs.Buckets.{Level}
use Rattle.retry_throttle.specs.Clocks.{IsRising, last_of}
use Rattle.retry_throttle.specs.Pauses.{Pauses, PausesFor, rests_in, wait_after}
use Rattle.retry_throttle.specs.Sendings.{Rules, Post, Delivery, Delivers, Fail, moments_in, moments_of, moments_at}
use Rattle.retry_throttle.specs.declared.pause.TheConstants.{MOST_RESTS}
use Rattle.retry_throttle.specs.declared.sent.Sent.{Sent}
use Rattle.retry_throttle.specs.declared.sent.Sent.TheVariants.{Done, GaveUp, Throttled}
use Rattle.retry_throttle.proofs.ClockLemmas.{rising_last, rising_rest}

-- the last of moments that end with this one
last_is : (a : ℕ) (ms : List ℕ) (m : ℕ) → last_of a (ms ++ m ∷ []) ≡ m
last_is a [] m = refl
last_is a (k ∷ ms) m = last_is k ms m

-- a wait that rises from one moment on, and a later one
module _ (a wait taken : ℕ) (paused : List ℕ) (r : IsRising a paused) (l : last_of a paused ≤ taken) where
  waited_for : PausesFor wait paused → (a + wait ≤ taken) ⊎ (rests_in paused ≡ MOST_RESTS)
  waited_for p =
      let s : IsRising a (p.first ∷ (p.early ++ p.last ∷ [])) = subst (IsRising a) p.moments_are r in
      let e : last_of a paused ≡ p.last = ap (last_of a) p.moments_are ∙ last_is p.first p.early p.last in
      let n : rests_in paused ≡ length p.early + 1 = ap rests_in p.moments_are ∙ length-append p.early (p.last ∷ []) in
      ⊎_elim (λ (h : p.first + wait ≤ p.last). inl (omega (arith, h, s.0, e, l)))
      (λ (h : length p.early + 1 ≡ MOST_RESTS). inr (n ∙ h)) p.ends

pub waited : (a wait taken : ℕ) (paused : List ℕ) → IsRising a paused → last_of a paused ≤ taken → Pauses wait paused
    → (a + wait ≤ taken) ⊎ (rests_in paused ≡ MOST_RESTS)
waited a zero taken paused r l p = inl (let e = ap (last_of a) p in omega (arith, e, l))
waited a (suc wait) taken paused r l p = waited_for a (suc wait) taken paused r l p

rising_first : (a : ℕ) (ms ns : List ℕ) → IsRising a (ms ++ ns) → IsRising a ms
rising_first a [] ns r = tt
rising_first a (m ∷ ms) ns r = (r.0, rising_first m ms ns r.1)

-- the waits of posts after so many others
abbrev Paced : Rules → ℕ → List Post → Type 0
Paced rules earlier [] = Unit {0}
Paced rules earlier (p ∷ ps) = Pauses (wait_after rules.wait earlier) p.paused × Paced rules (earlier + 1) ps

module _ (rules : Rules) where
  -- the token of a post comes after its wait, and those of the next posts after it
  module _ (a earlier : ℕ) (p : Post) (rest : List ℕ) (w : Pauses (wait_after rules.wait earlier) p.paused) (r : IsRising a (moments_in p ++ rest)) where
    first : IsRising a (moments_in p)
    first = rising_first a (moments_in p) rest r

    asked : IsRising (last_of a p.paused) (p.refused ++ p.taken ∷ [])
    asked = rising_rest a p.paused (p.refused ++ p.taken ∷ []) first

    late : last_of a p.paused ≤ p.taken
    late =
        let h = rising_last (last_of a p.paused) (p.refused ++ p.taken ∷ []) [] (subst (IsRising (last_of a p.paused)) (sym (append-nil (p.refused ++ p.taken ∷ []))) asked) in
        let e = last_is (last_of a p.paused) p.refused p.taken in
        omega (arith, h, e)

    pub after_wait : (a + wait_after rules.wait earlier ≤ p.taken) ⊎ (rests_in p.paused ≡ MOST_RESTS)
    after_wait = waited a (wait_after rules.wait earlier) p.taken p.paused (rising_first a p.paused (p.refused ++ p.taken ∷ []) first) late w

    pub further : IsRising p.taken rest
    further =
        subst (λ z. IsRising z rest) (ap (last_of a) (sym (append_assoc p.paused p.refused (p.taken ∷ []))) ∙ last_is a (p.paused ++ p.refused) p.taken)
        (rising_rest a (moments_in p) rest r)

  follow : (a earlier : ℕ) (ps : List Post) (more : List ℕ) → Paced rules earlier ps → IsRising a (moments_of ps ++ more) → Follow rules earlier a ps
  follow a earlier [] more w r = tt
  follow a earlier (p ∷ ps) more w r =
      let s = subst (IsRising a) (append_assoc (moments_in p) (moments_of ps) more) r in (
        after_wait a earlier p (moments_of ps ++ more) w.0 s,
        follow p.taken (earlier + 1) ps more w.1 (further a earlier p (moments_of ps ++ more) w.0 s),
      )

  pub apart : (a : ℕ) (ps : List Post) (more : List ℕ) → Paced rules 0 ps → IsRising a (moments_of ps ++ more) → AreApart rules ps
  apart a [] more w r = tt
  apart a (p ∷ ps) more w r =
      let s = subst (IsRising a) (append_assoc (moments_in p) (moments_of ps) more) r in
      follow p.taken 1 ps more w.1 (further a 0 p (moments_of ps ++ more) w.0 s)

  paced_more : (k : ℕ) (ps : List Post) (p : Post) → Paced rules k ps → Pauses (wait_after rules.wait (k + length ps)) p.paused → Paced rules k (ps ++ p ∷ [])
  paced_more k [] p w v = let e : k + 0 ≡ k = omega arith in (subst (λ j. Pauses (wait_after rules.wait j) p.paused) e v, tt)
  paced_more k (q ∷ ps) p w v =
      let e : k + length (q ∷ ps) ≡ k + 1 + length ps = omega arith in
      (w.0, paced_more (k + 1) ps p w.1 (subst (λ j. Pauses (wait_after rules.wait j) p.paused) e v))

  module _ (text : List Line → List ℕ) (lines : List Line) where
    failed : (k : ℕ) (b : Level) (ps : List Post) (n : Level) → Fail rules text lines k b ps n → Paced rules k ps
    failed k b [] n f = tt
    failed k b (p ∷ ps) n f = (f.1.pauses, failed (k + 1) f.0 ps n f.3)

    paced : (b : Level) (d : Delivery) (end : Sent) (n : Level) → Delivers rules text lines b d end n → Paced rules 0 d.posts
    paced b d (Done k) n f =
        let i = f.1 in
        let e : length i.failed ≡ 0 + length i.failed = omega arith in
        subst (Paced rules 0) (sym i.posts_are)
        (paced_more 0 i.failed i.last (failed 0 b i.failed i.between i.fail)
        (subst (λ j. Pauses (wait_after rules.wait j) i.last.paused) e i.is_post.pauses))
    paced b d (GaveUp k fault) n f = failed 0 b d.posts n f.1.fail
    paced b d (Throttled k) n f = failed 0 b d.posts f.1.between f.1.fail

    pub are_apart : (a : ℕ) (b : Level) (d : Delivery) (end : Sent) (n : Level) → Delivers rules text lines b d end n → IsRising a (moments_at d)
        → AreApart rules d.posts
    are_apart a b d end n f r = apart a d.posts (d.paused ++ d.refused) (paced b d end n f) r
