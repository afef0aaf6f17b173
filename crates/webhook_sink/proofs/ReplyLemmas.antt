-- What heads say in some bytes they say in more bytes, and what was taken so far.
use Rattle.std.proofs.Common.{◌≡◌, ℕ, zero, suc, ◌<◌, ◌≤◌, inl, inr, List, [], ◌∷◌, ◌++◌, length, Option, None, Some, refl, sym, ap, subst, ◌∙◌, arith, append_assoc, append-nil}
use Rattle.std.proofs.Math.Seq.{drop-append-le, take-append-le}
use Rattle.std.proofs.KnownBytes.{Consumes-nil, Consumes-trans}
use Rattle.std.specs.Io.KnownBytes.{Consumes, IsAtEnd}
use Rattle.http_head.specs.Answer.{AwaitsBlock, IsBlock, IsTooLarge}
use Rattle.http_head.specs.Block.{block_in, line_count, IsSearched}
use Rattle.http_head.specs.Reply.{IsNoReply, IsStatusOf, IsStatusAnswer}
use Rattle.http_head.specs.declared.block.Search.{Search}
use Rattle.http_head.specs.declared.block.TheConstants.{MOST_HEAD_BYTES, MOST_LINES}
use Rattle.http_head.specs.declared.answer.StatusAnswer.{StatusAnswer}
use Rattle.http_head.specs.declared.answer.StatusAnswer.TheVariants as status
use Rattle.webhook_sink.specs.declared.reply.Reply.{Reply}
use Rattle.webhook_sink.specs.declared.reply.Reply.TheVariants.{Bad}
use Rattle.webhook_sink.specs.declared.reply.TheConstants.{MOST_INTERIM}
use Rattle.webhook_sink.specs.Replies.{decided, after_head, SaysIf, Replies, rest_of, Seen, ReadOn, Filled, GotStatus, Passed, Came}

-- what http_head says of blocks
pub record BlockLaws : Type 0 where
  pub found : (bytes more : List ℕ) (len : ℕ) → block_in bytes ≡ Some len → block_in (bytes ++ more) ≡ Some len
  pub none : (bytes more : List ℕ) → MOST_HEAD_BYTES ≤ length bytes → block_in bytes ≡ None → block_in (bytes ++ more) ≡ None
  pub bounded : (bytes : List ℕ) (len : ℕ) → block_in bytes ≡ Some len → (len ≤ length bytes) × (len ≤ MOST_HEAD_BYTES)

-- ---- one head in more bytes

length-more : (xs ys : List ℕ) → length xs ≤ length (xs ++ ys)
length-more [] ys = omega arith
length-more (x ∷ xs) ys = let ih = length-more xs ys in omega (arith, ih)

whole-more : (laws : BlockLaws) (bytes more : List ℕ) (s len : ℕ) → IsStatusAnswer bytes (status.Whole s len) → IsStatusAnswer (bytes ++ more) (status.Whole s len)
whole-more laws bytes more s len p =
    let e = sym (take-append-le len bytes more (laws.bounded bytes len p.0).0) in
    (laws.found bytes more len p.0, subst (λ l. line_count l ≤ MOST_LINES) e p.1, subst (λ l. IsStatusOf l s) e p.2)

bad-more : (laws : BlockLaws) (bytes more : List ℕ) → IsStatusAnswer bytes status.BadHead → IsStatusAnswer (bytes ++ more) status.BadHead
bad-more laws bytes more p =
    let e = sym (take-append-le p.0 bytes more (laws.bounded bytes p.0 p.1).0) in
    (p.0, laws.found bytes more p.0 p.1, subst (λ l. line_count l ≤ MOST_LINES) e p.2, subst IsNoReply e p.3)

large-more : (laws : BlockLaws) (bytes more : List ℕ) → IsTooLarge bytes → IsTooLarge (bytes ++ more)
large-more laws bytes more (inl p) = inl (laws.none bytes more p.1 p.0, omega (arith, p.1, length-more bytes more))
large-more laws bytes more (inr p) =
    inr (p.0, laws.found bytes more p.0 p.1, subst (λ l. MOST_LINES < line_count l) (sym (take-append-le p.0 bytes more (laws.bounded bytes p.0 p.1).0)) p.2)

rest_at_end : (left : Option (List ℕ)) → IsAtEnd left → rest_of left ≡ []
rest_at_end None e = refl
rest_at_end (Some bytes) e = e

-- with all that is left
status_on : (laws : BlockLaws) (bytes : List ℕ) (left : Option (List ℕ)) (a : StatusAnswer) → (AwaitsBlock bytes → IsAtEnd left) → IsStatusAnswer bytes a → IsStatusAnswer (bytes ++ rest_of left) a
status_on laws bytes left (status.Whole s len) f p = whole-more laws bytes (rest_of left) s len p
status_on laws bytes left status.BadHead f p = bad-more laws bytes (rest_of left) p
status_on laws bytes left status.TooLarge f p = large-more laws bytes (rest_of left) p
status_on laws bytes left status.More f p =
    subst AwaitsBlock (sym (ap (λ z. bytes ++ z) (rest_at_end left (f p)) ∙ append-nil bytes)) p

-- with whatever comes, where another head follows
status_more : (laws : BlockLaws) (bytes more : List ℕ) (a : StatusAnswer) → decided a ≡ None → IsStatusAnswer bytes a → IsStatusAnswer (bytes ++ more) a
status_more laws bytes more (status.Whole s len) e p = whole-more laws bytes more s len p
status_more laws bytes more status.BadHead e p = absurd (cc e)
status_more laws bytes more status.TooLarge e p = absurd (cc e)
status_more laws bytes more status.More e p = absurd (cc e)

after_more : (laws : BlockLaws) (bytes more : List ℕ) (a : StatusAnswer) → IsStatusAnswer bytes a → after_head a (bytes ++ more) ≡ after_head a bytes ++ more
after_more laws bytes more (status.Whole s len) p = drop-append-le len bytes more (laws.bounded bytes len p.0).0
after_more laws bytes more status.BadHead p = refl
after_more laws bytes more status.TooLarge p = refl
after_more laws bytes more status.More p = refl

-- ---- what all bytes say

settled : (n : ℕ) (bytes : List ℕ) (a : StatusAnswer) (reply : Reply) → IsStatusAnswer bytes a → decided a ≡ Some reply → Replies n bytes reply
unfolding Replies
settled zero bytes a reply p e =
    record { answer = a; is = p; says = subst (λ d. SaysIf d (reply ≡ Bad) reply) (sym e) refl }
settled (suc n) bytes a reply p e =
    record { answer = a; is = p; says = subst (λ d. SaysIf d (Replies n (after_head a bytes) reply) reply) (sym e) refl }

ninth : (n : ℕ) (bytes : List ℕ) (a : StatusAnswer) → n ≡ 0 → IsStatusAnswer bytes a → decided a ≡ None → Replies n bytes Bad
unfolding Replies
ninth zero bytes a z p e = record { answer = a; is = p; says = subst (λ d. SaysIf d (◌≡◌ {A = Reply} Bad Bad) Bad) (sym e) refl }
ninth (suc n) bytes a z p e = absurd (omega (arith, z))

stepped : (n m : ℕ) (bytes after : List ℕ) (a : StatusAnswer) (reply : Reply) → n ≡ suc m → IsStatusAnswer bytes a → decided a ≡ None → after_head a bytes ≡ after → Replies m after reply → Replies n bytes reply
unfolding Replies
stepped n m bytes after a reply e p d f r =
    let s : Replies (suc m) bytes reply = record {
      answer = a;
      is = p;
      says = subst (λ o. SaysIf o (Replies m (after_head a bytes) reply) reply) (sym d) (subst (λ z. Replies m z reply) (sym f) r);
    } in
    subst (λ k. Replies k bytes reply) (sym e) s

-- ---- what was taken so far

pub passed-none : (a : Option (List ℕ)) (held : List ℕ) → held ≡ [] → Passed a a held MOST_INTERIM
passed-none a held e = record {
  taken = [];
  consumed = Consumes-nil a;
  before = λ rest reply r. subst (λ z. Replies MOST_INTERIM (z ++ rest) reply) e r;
}

module _ (laws : BlockLaws) (a b c : Option (List ℕ)) (held0 held : List ℕ) (more : ℕ) (answer : StatusAnswer)
    (p : Passed a b held0 more) (g : GotStatus b c held0 held answer) where
  abbrev taken_all : List ℕ
  taken_all = p.taken ++ g.filled.seen.taken

  consumed : Consumes a c taken_all
  consumed = Consumes-trans a b c p.taken g.filled.seen.taken p.consumed g.filled.seen.consumed

  -- what the bytes say from the head on, they say in all
  from_head : (rest : List ℕ) (reply : Reply) → Replies more (g.bytes ++ rest) reply → Replies MOST_INTERIM (taken_all ++ rest) reply
  from_head rest reply r =
      let t = g.filled.seen.taken in
      let e : held0 ++ (t ++ rest) ≡ g.bytes ++ rest = sym (append_assoc held0 t rest) ∙ ap (λ z. z ++ rest) (sym g.filled.seen.all) in
      subst (λ z. Replies MOST_INTERIM z reply) (sym (append_assoc p.taken t rest))
      (p.before (t ++ rest) reply (subst (λ z. Replies more z reply) (sym e) r))

  came : (reply : Reply) → Replies more (g.bytes ++ rest_of c) reply → Came a c reply
  came reply r = record { taken = taken_all; consumed = consumed; is = from_head (rest_of c) reply r }

  pub came-decided : (reply : Reply) → decided answer ≡ Some reply → Came a c reply
  came-decided reply e = came reply (settled more (g.bytes ++ rest_of c) answer reply (status_on laws g.bytes c answer g.filled.end g.is) e)

  pub came-ninth : more ≡ 0 → decided answer ≡ None → Came a c Bad
  came-ninth z e = came Bad (ninth more (g.bytes ++ rest_of c) answer z (status_on laws g.bytes c answer g.filled.end g.is) e)

  pub passed-more : (m : ℕ) → more ≡ suc m → decided answer ≡ None → Passed a c held m
  passed-more m z e = record {
    taken = taken_all;
    consumed = consumed;
    before = λ rest reply r. from_head rest reply
        (stepped more m (g.bytes ++ rest) (held ++ rest) answer reply z (status_more laws g.bytes rest answer e g.is) e
        (after_more laws g.bytes rest answer g.is ∙ ap (λ l. l ++ rest) (sym g.rest)) r);
  }

-- ---- the bytes of one head

pub seen-none : (a : Option (List ℕ)) (x : List ℕ) → Seen a a x x
seen-none a x = record { taken = []; consumed = Consumes-nil a; all = sym (append-nil x) }

pub seen-join : (a b c : Option (List ℕ)) (x y z : List ℕ) → Seen a b x y → Seen b c y z → Seen a c x z
seen-join a b c x y z p q = record {
  taken = p.taken ++ q.taken;
  consumed = Consumes-trans a b c p.taken q.taken p.consumed q.consumed;
  all = q.all ∙ ap (λ l. l ++ q.taken) p.all ∙ append_assoc x p.taken q.taken;
}

pub filled-whole : (a b : Option (List ℕ)) (x y : List ℕ) (len : ℕ) → Seen a b x y → IsBlock y len → Filled a b x y
filled-whole a b x y len s k = record {
  seen = s;
  end = λ more. (let both : None ≡ Some len = sym more.0 ∙ k.found in absurd (cc both));
}

large-awaits : (y : List ℕ) → AwaitsBlock y → IsTooLarge y → ⊥
large-awaits y more (inl long) = absurd (omega (arith, more.1, long.1))
large-awaits y more (inr lines) = let both : None ≡ Some lines.0 = sym more.0 ∙ lines.1 in absurd (cc both)

pub filled-large : (a b : Option (List ℕ)) (x y : List ℕ) → Seen a b x y → IsTooLarge y → Filled a b x y
filled-large a b x y s k = record { seen = s; end = λ more. absurd (large-awaits y more k) }

pub filled-end : (a b c : Option (List ℕ)) (x y z : List ℕ) → Seen a b x y → ReadOn b c y z 0 → Filled a c x z
filled-end a b c x y z s r = record { seen = seen-join a b c x y z s r.seen; end = λ _. r.end refl }

-- ---- the same bytes in two spellings

pub status_at : (bytes held : List ℕ) (a : StatusAnswer) → bytes ≡ held → IsStatusAnswer bytes a → IsStatusAnswer held a
status_at bytes held a e h = subst (λ l. IsStatusAnswer l a) e h

pub searched_at : (bytes held : List ℕ) (search : Search) → bytes ≡ held → IsSearched bytes search → IsSearched held search
searched_at bytes held search e h = subst (λ l. IsSearched l search) e h
