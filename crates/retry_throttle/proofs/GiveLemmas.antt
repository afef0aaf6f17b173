-- The tokens of posts are those that the bucket gives at all moments at which it is asked.
use Rattle.std.proofs.Common.{◌≡◌, ◌≤◌, ◌+◌, ◌-◌, ◌*◌, ◌/◌, ℕ, true, if◌then◌else◌, List, [], ◌∷◌, ◌++◌, refl, sym, ap, ◌∙◌, subst, append-nil, append_assoc}
use Rattle.front_base.specs.Line.{Line}
use Rattle.retry_throttle.specs.Buckets.{Level, full, gives, asked}
use Rattle.retry_throttle.specs.Clocks.{IsRising}
use Rattle.retry_throttle.specs.Tokens.{tokens, count_between}
use Rattle.retry_throttle.specs.Sendings.{Rules, Refuses, Grants, Post, Delivery, IsPost, Fail, Delivers, asked_of, asked_at}
use Rattle.retry_throttle.specs.Shippings.{Ships, all_asked, taken_at, all_taken}
use Rattle.retry_throttle.specs.declared.bucket.TheConstants.{TOKEN}
use Rattle.retry_throttle.specs.declared.sent.Sent.{Sent}
use Rattle.retry_throttle.specs.declared.sent.Sent.TheVariants.{Done, GaveUp, Throttled}
use Rattle.retry_throttle.proofs.TokenLemmas.{few_between}

-- asked at these moments, one after another, a bucket gave tokens at those
record Gives (b : Level) (moments taken : List ℕ) (n : Level) : Type 0 where
  tokens_are : (ys : List ℕ) → tokens b (moments ++ ys) ≡ taken ++ tokens n ys
  rises : (ys : List ℕ) → IsRising n.last ys → IsRising b.last (moments ++ ys)

none : (b n : Level) → n ≡ b → Gives b [] [] n
none b n e = record {
  tokens_are = λ ys. ap (λ z. tokens z ys) (sym e);
  rises = λ ys r. subst (λ z. IsRising z.last ys) e r;
}

join : (b m n : Level) (xs ys us vs : List ℕ) → Gives b xs us m → Gives m ys vs n → Gives b (xs ++ ys) (us ++ vs) n
join b m n xs ys us vs p q = record {
  tokens_are = λ zs. ap (tokens b) (append_assoc xs ys zs) ∙ (p.tokens_are (ys ++ zs) ∙ (ap (λ l. us ++ l) (q.tokens_are zs) ∙ sym (append_assoc us vs (tokens n zs))));
  rises = λ zs r. subst (IsRising b.last) (sym (append_assoc xs ys zs)) (p.rises (ys ++ zs) (q.rises zs r));
}

refused : (b : Level) (ms : List ℕ) (n : Level) → Refuses b ms n → Gives b ms [] n
refused b [] n r = none b n r
refused b (m ∷ ms) n r =
    let rest = refused (asked b m) ms n r.2 in
    record {
      tokens_are = λ ys. ap (λ g. if g then m ∷ tokens (asked b m) (ms ++ ys) else tokens (asked b m) (ms ++ ys)) r.1 ∙ rest.tokens_are ys;
      rises = λ ys h. (r.0, rest.rises ys h);
    }

given : (b : Level) (m : ℕ) (n : Level) → b.last ≤ m → gives b m ≡ true → n ≡ asked b m → Gives b (m ∷ []) (m ∷ []) n
given b m n h g e = record {
  tokens_are = λ ys. ap (λ z. if z then m ∷ tokens (asked b m) ys else tokens (asked b m) ys) g ∙ ap (λ z. m ∷ tokens z ys) (sym e);
  rises = λ ys r. (h, subst (λ z. IsRising z.last ys) e r);
}

granted : (b : Level) (ms : List ℕ) (m : ℕ) (n : Level) → Grants b ms m n → Gives b (ms ++ m ∷ []) (m ∷ []) n
granted b ms m n g = join b g.between n ms (m ∷ []) [] (m ∷ []) (refused b ms g.between g.refuses) (given g.between m n g.later g.given g.asked_is)

-- the tokens of posts
abbrev Posted : Level → List Post → Level → Type 0
Posted b [] n = n ≡ b
Posted b (p ∷ ps) n = (m : Level) × Grants b p.refused p.taken m × Posted m ps n

then_posted : (b : Level) (ps : List Post) (m : Level) (p : Post) (n : Level) → Posted b ps m → Grants m p.refused p.taken n → Posted b (ps ++ p ∷ []) n
then_posted b [] m p n f i = (n, subst (λ z. Grants z p.refused p.taken n) f i, refl)
then_posted b (q ∷ ps) m p n f i = (f.0, f.1, then_posted f.0 ps m p n f.2 i)

posted : (b : Level) (ps : List Post) (n : Level) → Posted b ps n → Gives b (asked_of ps) (taken_at ps) n
posted b [] n f = none b n f
posted b (p ∷ ps) n f =
    join b f.0 n (p.refused ++ p.taken ∷ []) (asked_of ps) (p.taken ∷ []) (taken_at ps) (granted b p.refused p.taken f.0 f.1) (posted f.0 ps n f.2)

ended : (b : Level) (d : Delivery) (n : Level) → d.refused ≡ [] → Posted b d.posts n → Gives b (asked_at d) (taken_at d.posts) n
ended b d n e f =
    subst (λ l. Gives b l (taken_at d.posts) n) (sym (append-nil (asked_of d.posts)) ∙ ap (λ l. asked_of d.posts ++ l) (sym e)) (posted b d.posts n f)

module _ (rules : Rules) (text : List Line → List ℕ) (lines : List Line) where
  failed : (k : ℕ) (b : Level) (ps : List Post) (n : Level) → Fail rules text lines k b ps n → Posted b ps n
  failed k b [] n f = f
  failed k b (p ∷ ps) n f = (f.0, f.1.grants, failed (k + 1) f.0 ps n f.3)

  delivered : (b : Level) (d : Delivery) (end : Sent) (n : Level) → Delivers rules text lines b d end n → Gives b (asked_at d) (taken_at d.posts) n
  delivered b d (Done k) n f =
      let i = f.1 in
      ended b d n i.no_more
      (subst (λ ps. Posted b ps n) (sym i.posts_are) (then_posted b i.failed i.between i.last n (failed 0 b i.failed i.between i.fail) i.is_post.grants))
  delivered b d (GaveUp k fault) n f = ended b d n f.1.no_more (failed 0 b d.posts n f.1.fail)
  delivered b d (Throttled k) n f =
      let i = f.1 in
      subst (λ l. Gives b (asked_at d) l n) (append-nil (taken_at d.posts))
      (join b i.between n (asked_of d.posts) d.refused (taken_at d.posts) [] (posted b d.posts i.between (failed 0 b d.posts i.between i.fail))
      (refused i.between d.refused n i.throttles.refuses))

shipped : (rules : Rules) (text : List Line → List ℕ) (b : Level) (batches : List (List Line)) (ds : List (Delivery × Sent)) (n : Level)
    → Ships rules text b batches ds n → Gives b (all_asked ds) (all_taken ds) n
shipped rules text b [] [] n s = none b n s
shipped rules text b [] (d ∷ ds) n s = absurd s
shipped rules text b (lines ∷ batches) [] n s = absurd s
shipped rules text b (lines ∷ batches) (d ∷ ds) n s =
    join b s.0 n (asked_at d.0) (all_asked ds) (taken_at d.0.posts) (all_taken ds) (delivered rules text lines b d.0 d.1 s.0 s.1)
    (shipped rules text s.0 batches ds n s.2)

pub few_posts : (rules : Rules) (text : List Line → List ℕ) (rate burst first : ℕ) (batches : List (List Line)) (ds : List (Delivery × Sent)) (n : Level) (a b : ℕ)
    → Ships rules text (full rate burst first) batches ds n → count_between a b (all_taken ds) ≤ burst + rate * (b - a) / TOKEN
few_posts rules text rate burst first batches ds n a b s =
    let g = shipped rules text (full rate burst first) batches ds n s in
    let e : tokens (full rate burst first) (all_asked ds ++ []) ≡ all_taken ds = g.tokens_are [] ∙ append-nil (all_taken ds) in
    subst (λ l. count_between a b l ≤ burst + rate * (b - a) / TOKEN) e (few_between rate burst first (all_asked ds ++ []) a b (g.rises [] tt))
