-- Each line of the batches that were sent is counted once.
use Rattle.std.proofs.Common.{◌≡◌, ◌<◌, ◌≤◌, ◌+◌, ◌-◌, ◌^◌, min, ℕ, suc, List, [], ◌∷◌, ◌++◌, length, Option, refl, sym, ap, ◌∙◌, arith}
use Rattle.std.proofs.Math.Nat.{min-eq_left}
use Rattle.std.proofs.lemmas.List.{length-append}
use Rattle.batch_backend.specs.declared.limits.Limits.{Limits}
use Rattle.log_ship.specs.Cuts.{AllWithin, joined, lines_from}
use Rattle.front_base.specs.Line.{Line}
use Rattle.front_base.specs.declared.audit_id.TheConstants.{MOST_REQUESTS}
use Rattle.log_ship.specs.Chains.{Side, Chain, counted, tallied, posted_of, lost_of}
use Rattle.log_ship.specs.Shipped.{Setup, Ships, no_batch}
use Rattle.log_ship.specs.declared.tally.Tally.{Tally}
use Rattle.log_ship.specs.Runs.{AreDone}
use Rattle.retry_throttle.specs.Sendings.{Rules}
use Rattle.retry_throttle.specs.declared.sent.Sent.{Sent}
use Rattle.retry_throttle.specs.declared.sent.Sent.TheVariants.{Done, GaveUp, Throttled}

-- a batch is posted or lost
one_of_both : (lines : List Line) (end : Sent) → posted_of lines end + lost_of lines end ≡ length lines
one_of_both lines (Done posts) = omega arith
one_of_both lines (GaveUp posts last) = omega arith
one_of_both lines (Throttled posts) = omega arith

-- its lines are added where the counts have room
one_more : (lines : List Line) (end : Sent) (t : Tally) → t.posted + t.lost + length lines ≤ 2 ^ 64 - 1
    → (counted lines end t).posted + (counted lines end t).lost ≡ t.posted + t.lost + length lines
one_more lines end t h =
    let n = posted_of lines end in
    let k = lost_of lines end in
    let both : n + k ≡ length lines = one_of_both lines end in
    let p : min (t.posted + n) (2 ^ 64 - 1) ≡ t.posted + n = min-eq_left (omega (arith, h, both)) in
    let l : min (t.lost + k) (2 ^ 64 - 1) ≡ t.lost + k = min-eq_left (omega (arith, h, both)) in
    omega (arith, p, l, both)

module _ (rules : Rules) where
  all_counted : (p : Side) (batches : List (List Line)) (ends : List Sent) (q : Side) (t : Tally) → Chain rules p batches ends q
      → t.posted + t.lost + length (joined batches) ≤ 2 ^ 64 - 1
      → (tallied t batches ends).posted + (tallied t batches ends).lost ≡ t.posted + t.lost + length (joined batches)
  all_counted p [] [] q t c h = omega arith
  all_counted p [] (e ∷ ends) q t c h = absurd c
  all_counted p (b ∷ batches) [] q t c h = absurd c
  all_counted p (b ∷ batches) (e ∷ ends) q t c h =
      let len : length (b ++ joined batches) ≡ length b + length (joined batches) = length-append b (joined batches) in
      let u : Tally = counted b e t in
      let more : u.posted + u.lost ≡ t.posted + t.lost + length b = one_more b e t (omega (arith, h, len)) in
      let rest : (tallied u batches ends).posted + (tallied u batches ends).lost ≡ u.posted + u.lost + length (joined batches) =
      all_counted c.0 batches ends q u c.2 (omega (arith, h, len, more)) in
      omega (arith, rest, more, len)

lines_count : (n : ℕ) (texts : List (List ℕ)) → length (lines_from n texts) ≡ length texts
lines_count n [] = refl
lines_count n (text ∷ texts) = ap suc (lines_count (n + 1) texts)

pub each_counted : (setup : Setup) (p q : Side) (left0 left : Option (List ℕ)) (first lines : ℕ) (rest : List ℕ) (tally : Tally)
    → Ships setup p left0 left first lines rest tally q → tally.posted + tally.lost ≡ lines
each_counted setup p q left0 left first lines rest tally s =
    let few : length s.texts ≤ MOST_REQUESTS = s.read.few in
    let len : length (joined s.batches) ≡ length s.texts = ap length s.cut.all ∙ lines_count first s.texts in
    let all : (tallied no_batch s.batches s.ends).posted + (tallied no_batch s.batches s.ends).lost ≡ 0 + 0 + length (joined s.batches) =
    all_counted setup.rules p s.batches s.ends q no_batch s.chain (omega (arith, few, len)) in
    let count : length s.texts ≡ lines = s.count_is in
    rw s.tally_is (omega (arith, all, len, count))

-- ---- no line is lost

-- a count of lost lines doesn't fall to none
still_lost : (batches : List (List Line)) (ends : List Sent) (t : Tally) → 0 < t.lost → 0 < (tallied t batches ends).lost
still_lost [] ends t h = h
still_lost (b ∷ batches) [] t h = h
still_lost (b ∷ batches) (e ∷ ends) t h = still_lost batches ends (counted b e t) (omega (arith, h))

none_left : (n : ℕ) → 0 < n → n ≡ 0 → ⊥
none_left n h e = omega (arith, h, e)

module _ (limits : Limits) (rules : Rules) where
  pub all_done : (p : Side) (batches : List (List Line)) (ends : List Sent) (q : Side) (t : Tally) → Chain rules p batches ends q → AllWithin limits batches
      → (tallied t batches ends).lost ≡ 0 → AreDone ends
  all_done p [] [] q t c w h = tt
  all_done p [] (e ∷ ends) q t c w h = absurd c
  all_done p (b ∷ batches) [] q t c w h = tt
  all_done p (b ∷ batches) (Done posts ∷ ends) q t c w h = all_done c.0 batches ends q (counted b (Done posts) t) c.2 w.1 h
  all_done p (b ∷ batches) (GaveUp posts last ∷ ends) q t c w h =
      absurd (none_left _ (still_lost batches ends (counted b (GaveUp posts last) t) (let s = w.0.some in omega (arith, s))) h)
  all_done p (b ∷ batches) (Throttled posts ∷ ends) q t c w h =
      absurd (none_left _ (still_lost batches ends (counted b (Throttled posts) t) (let s = w.0.some in omega (arith, s))) h)

pub none_lost : (setup : Setup) (p q : Side) (left0 left : Option (List ℕ)) (first lines : ℕ) (rest : List ℕ) (tally : Tally)
    → (ships : Ships setup p left0 left first lines rest tally q) → tally.lost ≡ 0 → AreDone ships.ends
none_lost setup p q left0 left first lines rest tally s h =
    all_done setup.limits setup.rules p s.batches s.ends q no_batch s.chain s.cut.within (ap (λ (t : Tally). t.lost) (sym s.tally_is) ∙ h)
