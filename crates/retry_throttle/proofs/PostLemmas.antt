-- The posts of a batch.
use Rattle.std.proofs.Common.{◌≡◌, ◌≢◌, ◌<◌, ◌≤◌, ◌+◌, ◌-◌, ◌^◌, min, ℕ, List, [], ◌∷◌, ◌++◌, length, Option, Result, Ok, Err, true, false, refl, sym, ap, ◌∙◌, subst, arith, append-nil, append_assoc, length-append}
use Rattle.std.specs.Prelude.{⊤}
use Rattle.std.proofs.lemmas.List.Elements.{All-append, All-cons, All-nil}
use Rattle.front_base.specs.Line.{Line}
use Rattle.truncate_backend.specs.Told.{Joined, Rises, RisesByOne}
use Rattle.truncate_backend.specs.Tries.{SinkTells, Tried, Counted, IsNoted, answer_of, try_of}
use Rattle.truncate_backend.specs.declared.tries.SinkFault.{SinkFault}
use Rattle.truncate_backend.specs.declared.tries.SinkFault.TheVariants as faults
use Rattle.truncate_backend.specs.declared.tries.TryAnswer.{TryAnswer}
use Rattle.truncate_backend.specs.declared.tries.TryAnswer.TheVariants as answers
use Rattle.retry_throttle.specs.Buckets.{Level}
use Rattle.retry_throttle.specs.Clocks.{ClockTells, Passed}
use Rattle.retry_throttle.specs.Pauses.{Pauses, rests_in, wait_after}
use Rattle.retry_throttle.specs.Sendings.{Rules, Post, IsPost, Fail, Delivery, Delivers, Sends, RoseFor, CountsPosts, Posts, Waited, tries_of, moments_in, moments_of, rests_of}
use Rattle.retry_throttle.specs.declared.sent.Sent.{Sent}
use Rattle.retry_throttle.specs.declared.sent.Sent.TheVariants.{Done, GaveUp, Throttled}
use Rattle.retry_throttle.proofs.ClockLemmas.{joined_on, joined_none, passed_none, passed_on}

-- ---- what posts add

tries_more : (ps : List Post) (p : Post) → tries_of (ps ++ p ∷ []) ≡ tries_of ps ++ p.try ∷ []
tries_more [] p = refl
tries_more (q ∷ ps) p = ap (λ l. q.try ∷ l) (tries_more ps p)

moments_more : (ps : List Post) (p : Post) → moments_of (ps ++ p ∷ []) ≡ moments_of ps ++ moments_in p
moments_more [] p = append-nil (moments_in p)
moments_more (q ∷ ps) p = ap (λ l. moments_in q ++ l) (moments_more ps p) ∙ sym (append_assoc (moments_in q) (moments_of ps) (moments_in p))

rests_more : (ps : List Post) (p : Post) → rests_of (ps ++ p ∷ []) ≡ rests_of ps + (rests_in p.paused + length p.refused)
rests_more [] p = omega arith
rests_more (q ∷ ps) p = let h = rests_more ps p in omega (arith, h)

fail_more : (rules : Rules) (text : List Line → List ℕ) (lines : List Line) (k : ℕ) (b : Level) (ps : List Post) (m : Level) (p : Post) (n : Level)
    → Fail rules text lines k b ps m → IsPost rules text lines (k + length ps) m p n → p.try.note.answer ≢ answers.Done
    → Fail rules text lines k b (ps ++ p ∷ []) n
fail_more rules text lines k b [] m p n f i d =
    let e : k + 0 ≡ k = omega arith in
    (n, subst (λ j. IsPost rules text lines j b p n) e (subst (λ z. IsPost rules text lines (k + 0) z p n) f i), d, refl)
fail_more rules text lines k b (q ∷ ps) m p n f i d =
    let e : k + length (q ∷ ps) ≡ k + 1 + length ps = omega arith in
    (f.0, f.1, f.2, fail_more rules text lines (k + 1) f.0 ps m p n f.3 (subst (λ j. IsPost rules text lines j m p n) e i) d)

-- ---- counts

not_done : (fault : SinkFault) → answer_of (Err fault) ≢ answers.Done
not_done faults.Port e = cc e
not_done (faults.Refused code) e = cc e
not_done faults.BadAnswer e = cc e

counted_later : (s t : SinkTells) (r : Result ⊤ SinkFault) → Counted s r t → (s.faults ≤ t.faults) × (s.refusals ≤ t.refusals)
counted_later s t (Ok u) c = (omega (arith, c.0), omega (arith, c.1))
counted_later s t (Err faults.Port) c = (c.0.later, omega (arith, c.1))
counted_later s t (Err (faults.Refused code)) c = (omega (arith, c.0), c.1.later)
counted_later s t (Err faults.BadAnswer) c = (omega (arith, c.0), c.1.later)

rises_on : (a b c d : ℕ) → a ≤ b → Rises b c → c ≤ d → Rises a d
rises_on a b c d h r k = record {
  later = let l = r.later in omega (arith, h, k, l);
  rose = let l : min (b + 1) (2 ^ 64 - 1) ≤ c = r.rose in omega (arith, h, k, l);
}

one_rise : (a b : ℕ) → RisesByOne a b → Rises a b
one_rise a b r = record { later = r.later; rose = let e = r.is in omega (arith, e) }

counted_rose : (s t u : SinkTells) (r : Result ⊤ SinkFault) → s.faults ≤ t.faults → s.refusals ≤ t.refusals → Counted t r u
    → RoseFor s u (answer_of r)
counted_rose s t u (Ok x) f g c = tt
counted_rose s t u (Err faults.Port) f g c = rises_on s.faults t.faults u.faults u.faults f (one_rise t.faults u.faults c.0) (omega arith)
counted_rose s t u (Err (faults.Refused code)) f g c = rises_on s.refusals t.refusals u.refusals u.refusals g (one_rise t.refusals u.refusals c.1) (omega arith)
counted_rose s t u (Err faults.BadAnswer) f g c = rises_on s.refusals t.refusals u.refusals u.refusals g (one_rise t.refusals u.refusals c.1) (omega arith)

rose_later : (s t u : SinkTells) (a : TryAnswer) → RoseFor s t a → t.faults ≤ u.faults → t.refusals ≤ u.refusals → RoseFor s u a
rose_later s t u answers.Done r f g = tt
rose_later s t u answers.Port r f g = rises_on s.faults s.faults t.faults u.faults (omega arith) r f
rose_later s t u (answers.Refused code) r f g = rises_on s.refusals s.refusals t.refusals u.refusals (omega arith) r g
rose_later s t u answers.BadAnswer r f g = rises_on s.refusals s.refusals t.refusals u.refusals (omega arith) r g

counts_start : (s : SinkTells) → CountsPosts s s []
counts_start s = record { faults = omega arith; refusals = omega arith; each = All-nil (λ (p : Post). RoseFor s s p.try.note.answer) }

counts_more : (s t u : SinkTells) (ps : List Post) (p : Post) (r : Result ⊤ SinkFault) → p.try.note.answer ≡ answer_of r → CountsPosts s t ps → Counted t r u
    → CountsPosts s u (ps ++ p ∷ [])
counts_more s t u ps p r e c k =
    let later = counted_later t u r k in
    let q : CountsPosts s t ps = c in record {
      faults = let f = q.faults in omega (arith, f, later.0);
      refusals = let f = q.refusals in omega (arith, f, later.1);
      each = All-append (λ (o : Post). RoseFor s u o.try.note.answer) ps (p ∷ [])
          (λ i d h. rose_later s t u _ (q.each i d h) later.0 later.1)
          (All-cons (λ (o : Post). RoseFor s u o.try.note.answer) p []
          (subst (λ a. RoseFor s u a) (sym e) (counted_rose s t u r q.faults q.refusals k))
          (All-nil (λ (o : Post). RoseFor s u o.try.note.answer)));
    }

-- ---- one post more

-- the post that a try makes after a token
abbrev pub post_of : List Line → List ℕ → List ℕ → ℕ → ℕ → Result ⊤ SinkFault → Post
post_of lines paused refused taken sent r =
    record { paused = paused; refused = refused; taken = taken; try = try_of lines sent (answer_of r) }

module _ (rules : Rules) (lines : List Line) (b : Level) (s : SinkTells) (c : ClockTells) where
  pub posts_start : 0 < rules.tries → Posts rules lines b s c 0 b s c
  posts_start h = record {
    posts = [];
    fail = refl;
    count_is = refl;
    few = h;
    tries = joined_none s.tries;
    clock = passed_none c;
    counts = counts_start s;
    text_is = refl;
  }

  module _ (count : ℕ) (m : Level) (t : SinkTells) (d : ClockTells) (o : Posts rules lines b s c count m t d) (n : Level) (e : ClockTells) where
    pub throttled : Waited (wait_after rules.wait count) m d false n e → Sends rules lines b s c (Throttled count) n t e
    throttled w = record {
      delivery = record { posts = o.posts; paused = w.0; refused = w.1 };
      delivers = (
        sym o.count_is,
        record {
          between = m;
          fail = o.fail;
          pauses = subst (λ k. Pauses (wait_after rules.wait k) w.0) (sym o.count_is) w.2;
          throttles = w.3;
          few = subst (λ k. k < rules.tries) (sym o.count_is) o.few;
        },
      );
      tries = o.tries;
      clock = passed_on c d e (moments_of o.posts) (w.0 ++ w.1) (rests_of o.posts) (rests_in w.0 + length w.1) o.clock w.4;
      counts = o.counts;
      text_is = o.text_is;
    }

    module _ (w : Waited (wait_after rules.wait count) m d true n e) (u : SinkTells) (r : Result ⊤ SinkFault) (tried : Tried t lines r u) where
      abbrev post : Post
      post = post_of lines w.0 w.1 w.2 tried.sent r

      is_post : IsPost rules s.text lines (length o.posts) m post n
      is_post = record {
        pauses = subst (λ k. Pauses (wait_after rules.wait k) w.0) (sym o.count_is) w.3;
        grants = w.4;
        lines_are = refl;
        noted = subst (λ z. IsNoted z post.try) o.text_is (record { lines = refl; sent = tried.is.whole });
      }

      posts_tries : Joined s.tries (tries_of (o.posts ++ post ∷ [])) u.tries
      posts_tries = subst (λ z. Joined s.tries z u.tries) (sym (tries_more o.posts post))
          (joined_on s.tries t.tries u.tries (tries_of o.posts) (post.try ∷ []) o.tries tried.is.tries)

      posts_clock : Passed c (moments_of (o.posts ++ post ∷ [])) (rests_of (o.posts ++ post ∷ [])) e
      posts_clock =
          subst (λ z. Passed c z (rests_of (o.posts ++ post ∷ [])) e) (sym (moments_more o.posts post))
          (subst (λ k. Passed c (moments_of o.posts ++ moments_in post) k e) (sym (rests_more o.posts post))
          (passed_on c d e (moments_of o.posts) (moments_in post) (rests_of o.posts) (rests_in w.0 + length w.1) o.clock w.5))

      -- no wait and no asking after them
      posts_end : Passed c (moments_of (o.posts ++ post ∷ []) ++ []) (rests_of (o.posts ++ post ∷ []) + 0) e
      posts_end =
          subst (λ z. Passed c z (rests_of (o.posts ++ post ∷ []) + 0) e) (sym (append-nil (moments_of (o.posts ++ post ∷ []))))
          (subst (λ k. Passed c (moments_of (o.posts ++ post ∷ [])) k e) (let k : rests_of (o.posts ++ post ∷ []) ≡ rests_of (o.posts ++ post ∷ []) + 0 = omega arith in k)
          posts_clock)

      posts_counts : CountsPosts s u (o.posts ++ post ∷ [])
      posts_counts = counts_more s t u o.posts post r refl o.counts tried.is.counts

      posts_count : length (o.posts ++ post ∷ []) ≡ count + 1
      posts_count = length-append o.posts (post ∷ []) ∙ ap (λ k. k + 1) o.count_is

    pub delivered : (w : Waited (wait_after rules.wait count) m d true n e) (u : SinkTells) → Tried t lines (Ok tt) u
        → Sends rules lines b s c (Done (count + 1)) n u e
    delivered w u tried =
        let p = post w u (Ok tt) tried in
        record {
          delivery = record { posts = o.posts ++ p ∷ []; paused = []; refused = [] };
          delivers = (
            sym (posts_count w u (Ok tt) tried),
            record {
              failed = o.posts;
              last = p;
              between = m;
              posts_are = refl;
              fail = o.fail;
              is_post = is_post w u (Ok tt) tried;
              done = refl;
              no_wait = refl;
              no_more = refl;
              few = let f = o.few in omega (arith, posts_count w u (Ok tt) tried, f);
            },
          );
          tries = posts_tries w u (Ok tt) tried;
          clock = posts_end w u (Ok tt) tried;
          counts = posts_counts w u (Ok tt) tried;
          text_is = tried.is.text_is ∙ o.text_is;
        }

    module _ (w : Waited (wait_after rules.wait count) m d true n e) (u : SinkTells) (fault : SinkFault) (tried : Tried t lines (Err fault) u) where
      failed_on : Fail rules s.text lines 0 b (o.posts ++ post w u (Err fault) tried ∷ []) n
      failed_on =
          let k : length o.posts ≡ 0 + length o.posts = omega arith in
          fail_more rules s.text lines 0 b o.posts m (post w u (Err fault) tried) n o.fail
          (subst (λ j. IsPost rules s.text lines j m (post w u (Err fault) tried) n) k (is_post w u (Err fault) tried)) (not_done fault)

      pub given_up : count + 1 ≡ rules.tries → Sends rules lines b s c (GaveUp (count + 1) fault) n u e
      given_up all =
          let p = post w u (Err fault) tried in
          record {
            delivery = record { posts = o.posts ++ p ∷ []; paused = []; refused = [] };
            delivers = (
              sym (posts_count w u (Err fault) tried),
              record {
                failed = o.posts;
                last = p;
                posts_are = refl;
                fail = failed_on;
                fault_is = refl;
                no_wait = refl;
                no_more = refl;
                all = posts_count w u (Err fault) tried ∙ all;
              },
            );
            tries = posts_tries w u (Err fault) tried;
            clock = posts_end w u (Err fault) tried;
            counts = posts_counts w u (Err fault) tried;
            text_is = tried.is.text_is ∙ o.text_is;
          }

      pub posts_more : count + 1 < rules.tries → Posts rules lines b s c (count + 1) n u e
      posts_more few =
          let p = post w u (Err fault) tried in
          record {
            posts = o.posts ++ p ∷ [];
            fail = failed_on;
            count_is = posts_count w u (Err fault) tried;
            few = few;
            tries = posts_tries w u (Err fault) tried;
            clock = posts_clock w u (Err fault) tried;
            counts = posts_counts w u (Err fault) tried;
            text_is = tried.is.text_is ∙ o.text_is;
          }

-- ---- how many posts

pub most_posts : (rules : Rules) (text : List Line → List ℕ) (lines : List Line) (b : Level) (d : Delivery) (end : Sent) (n : Level)
    → Delivers rules text lines b d end n → length d.posts ≤ rules.tries
most_posts rules text lines b d (Done k) n f = f.1.few
most_posts rules text lines b d (GaveUp k fault) n f = let e = f.1.all in omega (arith, e)
most_posts rules text lines b d (Throttled k) n f = let e = f.1.few in omega (arith, e)
