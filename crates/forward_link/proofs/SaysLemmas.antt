-- What bytes say they say in more bytes, and bytes say one thing.
use Rattle.std.proofs.Common.{◌≡◌, ℕ, zero, suc, ◌<◌, ◌≤◌, inl, inr, Bool, true, false, List, [], ◌∷◌, ◌++◌, length, take, drop, Option, None, Some, refl, sym, ap, subst, ◌∙◌, arith, append_assoc, append-nil}
use Rattle.std.proofs.Math.Seq.{drop-append-le, take-append-le}
use Rattle.std.specs.Io.KnownBytes.{IsAtEnd}
use Rattle.body_frames.specs.declared.frame.Frame.{Frame}
use Rattle.http_head.specs.Answer.{AwaitsBlock, IsTooLarge}
use Rattle.http_head.specs.Block.{block_in, line_count}
use Rattle.http_head.specs.Reply.{IsNoReply, IsReplyOf, IsReplyAnswer}
use Rattle.http_head.specs.declared.block.TheConstants.{MOST_HEAD_BYTES, MOST_LINES}
use Rattle.http_head.specs.declared.answer.HeadAnswer.{HeadAnswer}
use Rattle.http_head.specs.declared.answer.HeadAnswer.TheVariants as head
use Rattle.http_head.specs.declared.reply.ReplyHead.{ReplyHead}
use Rattle.forward_link.specs.declared.kind.HeadKind.{HeadKind}
use Rattle.forward_link.specs.declared.kind.HeadKind.TheVariants.{Interim, Refused, Final}
use Rattle.forward_link.specs.Kinds.{kind_of, whole_size}
use Rattle.forward_link.specs.Reading.{rest_of, is_bad}
use Rattle.forward_link.specs.Says.{Said, bad, cut, said_of, KindSays, AnswerSays, FirstSays, Says}

-- what http_head says of blocks
pub record BlockLaws : Type 0 where
  pub found : (bytes more : List ℕ) (len : ℕ) → block_in bytes ≡ Some len → block_in (bytes ++ more) ≡ Some len
  pub none : (bytes more : List ℕ) → MOST_HEAD_BYTES ≤ length bytes → block_in bytes ≡ None → block_in (bytes ++ more) ≡ None
  pub bounded : (bytes : List ℕ) (len : ℕ) → block_in bytes ≡ Some len → (len ≤ length bytes) × (len ≤ MOST_HEAD_BYTES)

-- ---- one head in more bytes

length-more : (xs ys : List ℕ) → length xs ≤ length (xs ++ ys)
length-more [] ys = omega arith
length-more (x ∷ xs) ys = let ih = length-more xs ys in omega (arith, ih)

pub whole-more : (laws : BlockLaws) (bytes more : List ℕ) (h : ReplyHead) (len : ℕ) → IsReplyAnswer bytes (head.Whole h len)
    → IsReplyAnswer (bytes ++ more) (head.Whole h len)
whole-more laws bytes more h len p =
    let e = sym (take-append-le len bytes more (laws.bounded bytes len p.0).0) in
    (laws.found bytes more len p.0, subst (λ l. line_count l ≤ MOST_LINES) e p.1, subst (λ l. IsReplyOf l h) e p.2)

bad_head-more : (laws : BlockLaws) (bytes more : List ℕ) → IsReplyAnswer bytes head.BadHead → IsReplyAnswer (bytes ++ more) head.BadHead
bad_head-more laws bytes more p =
    let e = sym (take-append-le p.0 bytes more (laws.bounded bytes p.0 p.1).0) in
    (p.0, laws.found bytes more p.0 p.1, subst (λ l. line_count l ≤ MOST_LINES) e p.2, subst IsNoReply e p.3)

large-more : (laws : BlockLaws) (bytes more : List ℕ) → IsTooLarge bytes → IsTooLarge (bytes ++ more)
large-more laws bytes more (inl p) = inl (laws.none bytes more p.1 p.0, omega (arith, p.1, length-more bytes more))
large-more laws bytes more (inr p) =
    inr (p.0, laws.found bytes more p.0 p.1, subst (λ l. MOST_LINES < line_count l) (sym (take-append-le p.0 bytes more (laws.bounded bytes p.0 p.1).0)) p.2)

pub bad-more : (laws : BlockLaws) (bytes more : List ℕ) (a : HeadAnswer ReplyHead) → is_bad a ≡ true → IsReplyAnswer bytes a
    → IsReplyAnswer (bytes ++ more) a
bad-more laws bytes more (head.Whole h len) e p = absurd (cc e)
bad-more laws bytes more head.More e p = absurd (cc e)
bad-more laws bytes more head.BadHead e p = bad_head-more laws bytes more p
bad-more laws bytes more head.TooLarge e p = large-more laws bytes more p

rest_at_end : (left : Option (List ℕ)) → IsAtEnd left → rest_of left ≡ []
rest_at_end None e = refl
rest_at_end (Some bytes) e = e

-- nothing is left at the end
pub all_at_end : (bytes : List ℕ) (left : Option (List ℕ)) → IsAtEnd left → bytes ++ rest_of left ≡ bytes
all_at_end bytes left e = ap (λ l. bytes ++ l) (rest_at_end left e) ∙ append-nil bytes

-- ---- what bytes say, by their first head

-- what the bytes after an interim head say, where so many may stand first
abbrev pub Others : Bool → Bool → ℕ → List ℕ → Said → Type 0
Others is_head streamed zero rest said = said ≡ bad
Others is_head streamed (suc n) rest said = Says is_head streamed n rest said

pub says_by : (is_head streamed : Bool) (n : ℕ) (bytes : List ℕ) (said : Said) → FirstSays is_head streamed (Others is_head streamed n) bytes said
    → Says is_head streamed n bytes said
unfolding Says
says_by is_head streamed zero bytes said f = f
says_by is_head streamed (suc n) bytes said f = f

pub says_of : (is_head streamed : Bool) (n : ℕ) (bytes : List ℕ) (said : Said) → Says is_head streamed n bytes said
    → FirstSays is_head streamed (Others is_head streamed n) bytes said
unfolding Says
says_of is_head streamed zero bytes said f = f
says_of is_head streamed (suc n) bytes said f = f

-- a head of that kind stands first, and more bytes come
pub head_says : (laws : BlockLaws) (is_head streamed : Bool) (n : ℕ) (bytes rest : List ℕ) (h : ReplyHead) (len : ℕ) (kind : HeadKind)
    (said : Said) → IsReplyAnswer bytes (head.Whole h len) → kind_of is_head h ≡ kind
    → KindSays streamed kind h (drop len bytes ++ rest) (Others is_head streamed n (drop len bytes ++ rest)) said
    → Says is_head streamed n (bytes ++ rest) said
head_says laws is_head streamed n bytes rest h len kind said p e s =
    let d : drop len (bytes ++ rest) ≡ drop len bytes ++ rest = drop-append-le len bytes rest (laws.bounded bytes len p.0).0 in
    let k : KindSays streamed kind h (drop len (bytes ++ rest)) (Others is_head streamed n (drop len (bytes ++ rest))) said =
    subst (λ l. KindSays streamed kind h l (Others is_head streamed n l) said) (sym d) s in
    says_by is_head streamed n (bytes ++ rest) said (record {
      answer = head.Whole h len;
      is = whole-more laws bytes rest h len p;
      says = subst (λ z. KindSays streamed z h (drop len (bytes ++ rest)) (Others is_head streamed n (drop len (bytes ++ rest))) said) (sym e) k;
    })

bad_by : (is_head streamed : Bool) (a : HeadAnswer ReplyHead) (bytes : List ℕ) (others : List ℕ → Said → Type 0) → is_bad a ≡ true
    → AnswerSays is_head streamed a bytes others bad
bad_by is_head streamed (head.Whole h len) bytes others e = absurd (cc e)
bad_by is_head streamed head.More bytes others e = absurd (cc e)
bad_by is_head streamed head.BadHead bytes others e = refl
bad_by is_head streamed head.TooLarge bytes others e = refl

-- no head that is taken stands first
pub bad_says : (laws : BlockLaws) (is_head streamed : Bool) (n : ℕ) (bytes rest : List ℕ) (a : HeadAnswer ReplyHead) → is_bad a ≡ true
    → IsReplyAnswer bytes a → Says is_head streamed n (bytes ++ rest) bad
bad_says laws is_head streamed n bytes rest a e p =
    says_by is_head streamed n (bytes ++ rest) bad (record {
      answer = a;
      is = bad-more laws bytes rest a e p;
      says = bad_by is_head streamed a (bytes ++ rest) (Others is_head streamed n) e;
    })

-- the bytes end before a head does
pub cut_says : (is_head streamed : Bool) (n : ℕ) (bytes : List ℕ) → AwaitsBlock bytes → Says is_head streamed n bytes cut
cut_says is_head streamed n bytes p =
    says_by is_head streamed n bytes cut (record { answer = head.More; is = p; says = refl })

-- ---- bytes say one thing

abbrev pub OneReply : Type 0
OneReply = (block : List ℕ) (a b : ReplyHead) → IsReplyOf block a → IsReplyOf block b → a ≡ b

same_len : (bytes : List ℕ) (m n : ℕ) → block_in bytes ≡ Some m → block_in bytes ≡ Some n → m ≡ n
same_len bytes m n e f = let g : Some m ≡ Some n = sym e ∙ f in cc

not_both : (bytes : List ℕ) (n : ℕ) → block_in bytes ≡ None → block_in bytes ≡ Some n → ⊥
not_both bytes n e f = let g : None ≡ Some n = sym e ∙ f in absurd (cc g)

some_reply : (bytes : List ℕ) (m n : ℕ) (h : ReplyHead) → m ≡ n → IsReplyOf (take m bytes) h → IsNoReply (take n bytes) → ⊥
some_reply bytes m n h e r none =
    let s : IsReplyOf (take n bytes) h = subst (λ k. IsReplyOf (take k bytes) h) e r in none s.0 s.1

few_many : (bytes : List ℕ) (m n : ℕ) → m ≡ n → line_count (take m bytes) ≤ MOST_LINES → MOST_LINES < line_count (take n bytes) → ⊥
few_many bytes m n e p q = let r : line_count (take n bytes) ≤ MOST_LINES = subst (λ k. line_count (take k bytes) ≤ MOST_LINES) e p in absurd (omega (arith, r, q))

not_large : (bytes : List ℕ) (n : ℕ) → block_in bytes ≡ Some n → line_count (take n bytes) ≤ MOST_LINES → IsTooLarge bytes → ⊥
not_large bytes n e p (inl q) = not_both bytes n q.0 e
not_large bytes n e p (inr q) = few_many bytes n q.0 (same_len bytes n q.0 e q.1) p q.2

waits_large : (bytes : List ℕ) → AwaitsBlock bytes → IsTooLarge bytes → ⊥
waits_large bytes p (inl q) = absurd (omega (arith, p.1, q.1))
waits_large bytes p (inr q) = not_both bytes q.0 p.0 q.1

pub one_answer : OneReply → (bytes : List ℕ) (a b : HeadAnswer ReplyHead) → IsReplyAnswer bytes a → IsReplyAnswer bytes b → a ≡ b
one_answer one bytes (head.Whole h m) (head.Whole k n) p q =
    let e = same_len bytes m n p.0 q.0 in
    let f : h ≡ k = one (take n bytes) h k (subst (λ z. IsReplyOf (take z bytes) h) e p.2) q.2 in
    ap (λ z. head.Whole z m) f ∙ ap (λ z. head.Whole k z) e
one_answer one bytes (head.Whole h m) head.More p q = absurd (not_both bytes m q.0 p.0)
one_answer one bytes (head.Whole h m) head.BadHead p q = absurd (some_reply bytes m q.0 h (same_len bytes m q.0 p.0 q.1) p.2 q.3)
one_answer one bytes (head.Whole h m) head.TooLarge p q = absurd (not_large bytes m p.0 p.1 q)
one_answer one bytes head.More (head.Whole k n) p q = absurd (not_both bytes n p.0 q.0)
one_answer one bytes head.More head.More p q = refl
one_answer one bytes head.More head.BadHead p q = absurd (not_both bytes q.0 p.0 q.1)
one_answer one bytes head.More head.TooLarge p q = absurd (waits_large bytes p q)
one_answer one bytes head.BadHead (head.Whole k n) p q = absurd (some_reply bytes n p.0 k (same_len bytes n p.0 q.0 p.1) q.2 p.3)
one_answer one bytes head.BadHead head.More p q = absurd (not_both bytes p.0 q.0 p.1)
one_answer one bytes head.BadHead head.BadHead p q = refl
one_answer one bytes head.BadHead head.TooLarge p q = absurd (not_large bytes p.0 p.1 p.2 q)
one_answer one bytes head.TooLarge (head.Whole k n) p q = absurd (not_large bytes n q.0 q.1 p)
one_answer one bytes head.TooLarge head.More p q = absurd (waits_large bytes q p)
one_answer one bytes head.TooLarge head.BadHead p q = absurd (not_large bytes q.0 q.1 q.2 p)
one_answer one bytes head.TooLarge head.TooLarge p q = refl

abbrev OneSaid : (Said → Type 0) → Type 0
OneSaid P = (a b : Said) → P a → P b → a ≡ b

one_kind : (streamed : Bool) (kind : HeadKind) (h : ReplyHead) (after : List ℕ) (others : Said → Type 0) → OneSaid others
    → OneSaid (KindSays streamed kind h after others)
one_kind streamed Interim h after others f a b p q = f a b p q
one_kind streamed Refused h after others f a b p q = p ∙ sym q
one_kind streamed (Final frame) h after others f a b p q = p ∙ sym q

one_by : (is_head streamed : Bool) (answer : HeadAnswer ReplyHead) (bytes : List ℕ) (others : List ℕ → Said → Type 0)
    → ((rest : List ℕ) → OneSaid (others rest)) → OneSaid (AnswerSays is_head streamed answer bytes others)
one_by is_head streamed (head.Whole h len) bytes others f a b p q =
    one_kind streamed (kind_of is_head h) h (drop len bytes) (others (drop len bytes)) (f (drop len bytes)) a b p q
one_by is_head streamed head.More bytes others f a b p q = p ∙ sym q
one_by is_head streamed head.BadHead bytes others f a b p q = p ∙ sym q
one_by is_head streamed head.TooLarge bytes others f a b p q = p ∙ sym q

one_first : OneReply → (is_head streamed : Bool) (bytes : List ℕ) (others : List ℕ → Said → Type 0)
    → ((rest : List ℕ) → OneSaid (others rest)) → OneSaid (FirstSays is_head streamed others bytes)
one_first one is_head streamed bytes others f a b p q =
    one_by is_head streamed q.answer bytes others f a b
    (subst (λ z. AnswerSays is_head streamed z bytes others a) (one_answer one bytes p.answer q.answer p.is q.is) p.says) q.says

pub one_says : OneReply → (is_head streamed : Bool) (n : ℕ) (bytes : List ℕ) → OneSaid (Says is_head streamed n bytes)
one_says one is_head streamed zero bytes a b p q =
    one_first one is_head streamed bytes (Others is_head streamed 0) (λ rest x y s t. s ∙ sym t) a b
    (says_of is_head streamed 0 bytes a p) (says_of is_head streamed 0 bytes b q)
one_says one is_head streamed (suc n) bytes a b p q =
    one_first one is_head streamed bytes (Others is_head streamed (suc n)) (λ rest. one_says one is_head streamed n rest) a b
    (says_of is_head streamed (suc n) bytes a p) (says_of is_head streamed (suc n) bytes b q)
