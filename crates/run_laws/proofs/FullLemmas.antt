-- How many offers were Full, over all bays.
use Rattle.std.proofs.Common.{◌≡◌, ◌+◌, ◌≤◌, ◌-◌, ◌^◌, min, ℕ, zero, suc, List, [], ◌∷◌, length, slice_get, sum_by, Option, Some, None, IfSome, refl, sym, ap, ◌∙◌, subst, arith}
use Rattle.std.proofs.lemmas.List.Sums.{sum_by-cons}
use Rattle.any_lane.specs.Lanes.{any_tells}
use Rattle.any_lane.specs.declared.lane.AnyLane.{AnyLane}
use Rattle.audit_core.specs.declared.sinks.Sink.{Sink}
use Rattle.connection_laws.specs.Whole.{count_of, is_full, offers_in}
use Rattle.run_laws.specs.Told.{fulls_from}
use Rattle.session_core.specs.declared.exchange.Exchange.{Exchange}
use Rattle.truncate_backend.specs.declared.sink.BatchSink as sinks

none_past : {A : Type 0} (xs : List A) (k : ℕ) → slice_get xs k ≡ None → length xs ≤ k
none_past [] k e = omega arith
none_past (x ∷ xs) zero e = absurd (cc e)
none_past (x ∷ xs) (suc k) e = let h = none_past xs k e in omega (arith, h)

past_none : {A : Type 0} (xs : List A) (k : ℕ) → length xs ≤ k → slice_get xs k ≡ None
past_none [] k h = refl
past_none (x ∷ xs) zero h = absurd (omega (arith, h))
past_none (x ∷ xs) (suc k) h = past_none xs k (omega (arith, h))

-- a list that is as long as another has no element where that has none
pub both_none : {A B : Type 0} (xs : List A) (ys : List B) (k : ℕ) → length ys ≡ length xs → slice_get xs k ≡ None → slice_get ys k ≡ None
both_none xs ys k e none = past_none ys k (let h = none_past xs k none in omega (arith, e, h))

module _ {S R : Type 0} (s : sinks.Ghosts S) (sink : Sink) (xs : ℕ → List Exchange) where
  sum_all : (lanes : List (AnyLane S R)) (bay : ℕ)
      → ((k : ℕ) → IfSome (slice_get lanes k) (λ l. (any_tells s l).fulls ≡ min (count_of is_full sink (offers_in (xs (k + bay)))) (2 ^ 64 - 1)))
      → min (sum_by (λ (l : AnyLane S R). (any_tells s l).fulls) lanes) (2 ^ 64 - 1) ≡ min (fulls_from sink xs bay (length lanes)) (2 ^ 64 - 1)
  sum_all [] bay h = refl
  sum_all (l ∷ lanes) bay h =
      let first : 0 + bay ≡ bay = omega arith in
      let own : (any_tells s l).fulls ≡ min (count_of is_full sink (offers_in (xs bay))) (2 ^ 64 - 1) =
      h 0 ∙ ap (λ n. min (count_of is_full sink (offers_in (xs n))) (2 ^ 64 - 1)) first in
      let rest = sum_all lanes (suc bay) (λ k.
      let e : suc k + bay ≡ k + suc bay = omega arith in
      subst (λ n. IfSome (slice_get lanes k) (λ m. (any_tells s m).fulls ≡ min (count_of is_full sink (offers_in (xs n))) (2 ^ 64 - 1))) e (h (suc k))) in
      let cons = sum_by-cons (λ (l : AnyLane S R). (any_tells s l).fulls) l lanes in
      let step : fulls_from sink xs bay (length (l ∷ lanes)) ≡ count_of is_full sink (offers_in (xs bay)) + fulls_from sink xs (suc bay) (length lanes) = refl in
      omega (arith, own, rest, cons, step)

  pub all_fulls : (lanes : List (AnyLane S R)) (fulls bays : ℕ) → fulls ≡ min (sum_by (λ (l : AnyLane S R). (any_tells s l).fulls) lanes) (2 ^ 64 - 1)
      → length lanes ≡ bays
      → ((k : ℕ) → IfSome (slice_get lanes k) (λ l. (any_tells s l).fulls ≡ min (count_of is_full sink (offers_in (xs k))) (2 ^ 64 - 1)))
      → fulls ≡ min (fulls_from sink xs 0 bays) (2 ^ 64 - 1)
  all_fulls lanes fulls bays e count h =
      e
      ∙ (sum_all lanes 0 (λ k.
      let z : k ≡ k + 0 = omega arith in
      subst (λ n. IfSome (slice_get lanes k) (λ l. (any_tells s l).fulls ≡ min (count_of is_full sink (offers_in (xs n))) (2 ^ 64 - 1))) z (h k))
      ∙ ap (λ n. min (fulls_from sink xs 0 n) (2 ^ 64 - 1)) count)
