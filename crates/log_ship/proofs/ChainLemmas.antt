-- Batches that are sent one after another.
use Rattle.std.proofs.Common.{◌≡◌, ◌+◌, ◌-◌, ◌^◌, min, ℕ, List, [], ◌∷◌, ◌++◌, Option, Some, None, refl, sym, ap, ◌∙◌, subst, append-nil, append_assoc}
use Rattle.front_base.specs.Line.{Line}
use Rattle.front_ports.specs.Told.{Grows}
use Rattle.retry_throttle.specs.Clocks.{ClockTells, Passed}
use Rattle.retry_throttle.specs.Sendings.{Rules}
use Rattle.retry_throttle.specs.Shippings.{Ships}
use Rattle.retry_throttle.specs.declared.sent.Sent.{Sent}
use Rattle.log_ship.specs.Chains.{Side, SendsOne, Chain, Posted, counted, tallied, posted_of, lost_of, posts_of}
use Rattle.log_ship.specs.declared.tally.Tally.{Tally}

grows_on : {T : Type 0} (a b c : Option (List T)) (xs ys : List T) → Grows a b xs → Grows b c ys → Grows a c (xs ++ ys)
grows_on None None c xs ys p q = q
grows_on None (Some b) c xs ys p q = cc p
grows_on (Some a) None None xs ys p q = tt
grows_on (Some a) None (Some c) xs ys p q = cc q
grows_on (Some a) (Some b) None xs ys p q = tt
grows_on (Some a) (Some b) (Some c) xs ys p q = q ∙ (ap (λ l. l ++ ys) p ∙ append_assoc a xs ys)

grows_none : {T : Type 0} (a : Option (List T)) → Grows a a []
grows_none None = refl
grows_none (Some a) = sym (append-nil a)

-- what calls of a clock come to, one after another
pub record ClockLaws : Type 0 where
  pub none : (c : ClockTells) → Passed c [] 0 c
  pub more : (c d e : ClockTells) (ms ns : List ℕ) (i j : ℕ) → Passed c ms i d → Passed d ns j e → Passed c (ms ++ ns) (i + j) e

-- ---- one batch more

module _ (rules : Rules) where
  pub chain_more : (p : Side) (batches : List (List Line)) (ends : List Sent) (q : Side) (lines : List Line) (end : Sent) (r : Side)
      → Chain rules p batches ends q → SendsOne rules q lines end r → Chain rules p (batches ++ lines ∷ []) (ends ++ end ∷ []) r
  chain_more p [] [] q lines end r c s = (r, subst (λ z. SendsOne rules z lines end r) c s, refl)
  chain_more p [] (e ∷ ends) q lines end r c s = absurd c
  chain_more p (b ∷ batches) [] q lines end r c s = absurd c
  chain_more p (b ∷ batches) (e ∷ ends) q lines end r c s = (c.0, c.1, chain_more c.0 batches ends q lines end r c.2 s)

  tallied_more : (p : Side) (batches : List (List Line)) (ends : List Sent) (q : Side) (lines : List Line) (end : Sent) (t : Tally)
      → Chain rules p batches ends q → tallied t (batches ++ lines ∷ []) (ends ++ end ∷ []) ≡ counted lines end (tallied t batches ends)
  tallied_more p [] [] q lines end t c = refl
  tallied_more p [] (e ∷ ends) q lines end t c = absurd c
  tallied_more p (b ∷ batches) [] q lines end t c = absurd c
  tallied_more p (b ∷ batches) (e ∷ ends) q lines end t c = tallied_more c.0 batches ends q lines end (counted b e t) c.2

  pub tally_more : (p : Side) (batches : List (List Line)) (ends : List Sent) (q : Side) (lines : List Line) (end : Sent) (t u v : Tally)
      → Chain rules p batches ends q → u ≡ tallied t batches ends → v ≡ counted lines end u → v ≡ tallied t (batches ++ lines ∷ []) (ends ++ end ∷ [])
  tally_more p batches ends q lines end t u v c e f = f ∙ (ap (counted lines end) e ∙ sym (tallied_more p batches ends q lines end t c))

  -- ---- all posts of a chain

  pub posted : ClockLaws → (p : Side) (batches : List (List Line)) (ends : List Sent) (q : Side) → Chain rules p batches ends q → Posted rules p batches ends q
  posted laws p [] [] q c = record {
    outcomes = [];
    ends_are = refl;
    ships = ap (λ (z : Side). z.bucket) c;
    tries = record { grows = subst (λ (z : Side). Grows p.sink.tries z.sink.tries []) (sym c) (grows_none p.sink.tries) };
    clock = subst (λ (z : Side). Passed p.clock [] 0 z.clock) (sym c) (laws.none p.clock);
  }
  posted laws p [] (e ∷ ends) q c = absurd c
  posted laws p (b ∷ batches) [] q c = absurd c
  posted laws p (b ∷ batches) (e ∷ ends) q c =
      let m = c.0 in
      let s : SendsOne rules p b e m = c.1 in
      let r = posted laws m batches ends q c.2 in
      record {
        outcomes = (s.delivery, e) ∷ r.outcomes;
        ends_are = ap (λ l. e ∷ l) r.ends_are;
        ships = (m.bucket, s.delivers, subst (λ text. Ships rules text m.bucket batches r.outcomes q.bucket) s.text_is r.ships);
        tries = record { grows = grows_on p.sink.tries m.sink.tries q.sink.tries _ _ s.tries.grows r.tries.grows };
        clock = laws.more p.clock m.clock q.clock _ _ _ _ s.clock r.clock;
      }

-- ---- one batch is counted

pub counts : (lines : List Line) (end : Sent) (t : Tally) (posted lost posts : ℕ) → posted ≡ posted_of lines end → lost ≡ lost_of lines end → posts ≡ posts_of end
    → record { posted = min (t.posted + posted) (2 ^ 64 - 1); lost = min (t.lost + lost) (2 ^ 64 - 1); posts = min (t.posts + posts) (2 ^ 64 - 1) } ≡ counted lines end t
counts lines end t posted lost posts a b c = rw (a, b, c) refl
