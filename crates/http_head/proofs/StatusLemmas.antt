-- The status alone is that of the reply's head.
use Rattle.std.proofs.Common.{◌≡◌, ℕ, ◌≤◌, List, take, Some, None, [], refl, sym, ap, subst, ◌∙◌, arith, inl, inr}
use Rattle.httparse.specs.Grammar.{ResponseHead, status_code}
use Rattle.httparse.proofs.GrammarLemmas.{response_unique}
use Rattle.http_head.specs.Answer.{AwaitsBlock, IsTooLarge}
use Rattle.http_head.specs.Block.{block_in, line_count}
use Rattle.http_head.specs.Reply.{IsReply, IsNoReply, IsReplyOf, IsStatusOf, IsReplyAnswer, IsStatusAnswer, status_alone}
use Rattle.http_head.specs.declared.block.TheConstants.{MOST_LINES}
use Rattle.http_head.specs.declared.answer.HeadAnswer.{HeadAnswer}
use Rattle.http_head.specs.declared.answer.HeadAnswer.TheVariants as head
use Rattle.http_head.specs.declared.answer.StatusAnswer.{StatusAnswer}
use Rattle.http_head.specs.declared.answer.StatusAnswer.TheVariants as status
use Rattle.http_head.specs.declared.reply.ReplyHead.{ReplyHead}

-- a block has one length, and none where there is no block
same_len : (bytes : List ℕ) (m n : ℕ) → block_in bytes ≡ Some m → block_in bytes ≡ Some n → m ≡ n
same_len bytes m n e f = let both : Some m ≡ Some n = sym e ∙ f in cc

no_len : (bytes : List ℕ) (n : ℕ) → block_in bytes ≡ None → block_in bytes ≡ Some n → ⊥
no_len bytes n e f = let both : None ≡ Some n = sym e ∙ f in absurd (cc both)

more_or_large : (bytes : List ℕ) → AwaitsBlock bytes → IsTooLarge bytes → ⊥
more_or_large bytes more (inl long) = absurd (omega (arith, more.1, long.1))
more_or_large bytes more (inr lines) = no_len bytes lines.0 more.0 lines.1

large_or_block : (bytes : List ℕ) (len : ℕ) → IsTooLarge bytes → block_in bytes ≡ Some len → line_count (take len bytes) ≤ MOST_LINES → ⊥
large_or_block bytes len (inl long) found few = no_len bytes len long.0 found
large_or_block bytes len (inr lines) found few =
    let same = ap (λ n. line_count (take n bytes)) (same_len bytes lines.0 len lines.1 found) in
    absurd (omega (arith, same, few, lines.2))

bad_or_whole : (bytes : List ℕ) (m n : ℕ) (read : ResponseHead) → block_in bytes ≡ Some m → block_in bytes ≡ Some n
    → IsNoReply (take m bytes) → IsReply (take n bytes) read → ⊥
bad_or_whole bytes m n read e f none is =
    none read (subst (λ k. IsReply (take k bytes) read) (same_len bytes n m f e) is)

same_whole : (s t m n : ℕ) → s ≡ t → m ≡ n → ◌≡◌ {A = StatusAnswer} (status.Whole s m) (status.Whole t n)
same_whole s t m n e f = cc

one_whole : (bytes : List ℕ) (s m n : ℕ) (h : ReplyHead) → block_in bytes ≡ Some m → block_in bytes ≡ Some n
    → IsStatusOf (take m bytes) s → IsReplyOf (take n bytes) h → ◌≡◌ {A = StatusAnswer} (status.Whole s m) (status.Whole h.status n)
one_whole bytes s m n h e f is of =
    let same = same_len bytes n m f e in
    let reads : IsReply (take m bytes) of.0 = subst (λ k. IsReply (take k bytes) of.0) same of.1 in
    let one : is.0 ≡ of.0 = (response_unique (take m bytes) is.0 of.0 [] [] is.1 reads).0 in
    same_whole s h.status m n (is.2 ∙ ap (λ (r : ResponseHead). status_code r) one ∙ sym of.2.status) (sym same)

pub same_status : (bytes : List ℕ) (s : StatusAnswer) (r : HeadAnswer ReplyHead) → IsStatusAnswer bytes s → IsReplyAnswer bytes r → s ≡ status_alone r
same_status bytes status.More head.More p q = refl
same_status bytes status.More head.TooLarge p q = absurd (more_or_large bytes p q)
same_status bytes status.More head.BadHead p q = absurd (no_len bytes q.0 p.0 q.1)
same_status bytes status.More (head.Whole h n) p q = absurd (no_len bytes n p.0 q.0)
same_status bytes status.TooLarge head.More p q = absurd (more_or_large bytes q p)
same_status bytes status.TooLarge head.TooLarge p q = refl
same_status bytes status.TooLarge head.BadHead p q = absurd (large_or_block bytes q.0 p q.1 q.2)
same_status bytes status.TooLarge (head.Whole h n) p q = absurd (large_or_block bytes n p q.0 q.1)
same_status bytes status.BadHead head.More p q = absurd (no_len bytes p.0 q.0 p.1)
same_status bytes status.BadHead head.TooLarge p q = absurd (large_or_block bytes p.0 q p.1 p.2)
same_status bytes status.BadHead head.BadHead p q = refl
same_status bytes status.BadHead (head.Whole h n) p q = absurd (bad_or_whole bytes p.0 n q.2.0 p.1 q.0 p.3 q.2.1)
same_status bytes (status.Whole s m) head.More p q = absurd (no_len bytes m q.0 p.0)
same_status bytes (status.Whole s m) head.TooLarge p q = absurd (large_or_block bytes m q p.0 p.1)
same_status bytes (status.Whole s m) head.BadHead p q = absurd (bad_or_whole bytes q.0 m p.2.0 q.1 p.0 q.3 p.2.1)
same_status bytes (status.Whole s m) (head.Whole h n) p q = one_whole bytes s m n h p.0 q.0 p.2 q.2
