-- What a stream begins with, as far as a head goes: one row of the table stands for it.
use Rattle.std.proofs.Common.{◌≡◌, ℕ, ◌<◌, ◌≤◌, ◌⊎◌, inl, inr, true, false, List, [], ◌∷◌, length, take, map, Option, None, Some, nat_lt, refl, ap, subst, arith}
use Rattle.std.proofs.lemmas.Bool.Decides.{nat_tests}
use Rattle.httparse.specs.Grammar.{Field, RequestHead, ResponseHead, field_value, status_code}
use Rattle.httparse.specs.Spans.{name_and_value}
use Rattle.http_head.specs.Answer.{AwaitsBlock, IsBlock, IsTooLarge, IsAnswer}
use Rattle.http_head.specs.Block.{block_in, line_count}
use Rattle.http_head.specs.Reply.{IsReply, HasReplyParts, IsStatusAnswer}
use Rattle.http_head.specs.Request.{IsRequest, IsHeadOf, HasParts, header_view}
use Rattle.http_head.specs.declared.answer.HeadAnswer.{HeadAnswer}
use Rattle.http_head.specs.declared.answer.HeadAnswer.TheVariants as head
use Rattle.http_head.specs.declared.answer.StatusAnswer.{StatusAnswer}
use Rattle.http_head.specs.declared.answer.StatusAnswer.TheVariants as status
use Rattle.http_head.specs.declared.block.TheConstants.{MOST_HEAD_BYTES, MOST_LINES}
use Rattle.http_head.specs.declared.header.Header.{Header}
use Rattle.http_head.specs.declared.reply.ReplyHead.{ReplyHead}
use Rattle.http_head.specs.declared.request.Head.{Head}
use Rattle.request_lists.proofs.PieceLemmas.{either}

-- what http_head says of blocks
abbrev pub Bounds : Type 0
Bounds = (bytes : List ℕ) (len : ℕ) → block_in bytes ≡ Some len → (len ≤ length bytes) × (len ≤ MOST_HEAD_BYTES)

-- ---- the block

lower : (a b : ℕ) → nat_lt a b ≡ true → a < b
lower a b k = grind (arith, nat_tests)

upper : (a b : ℕ) → nat_lt a b ≡ false → b ≤ a
upper a b k = grind (arith, nat_tests)

option_case : (o : Option ℕ) → (o ≡ None) ⊎ ((n : ℕ) × (o ≡ Some n))
option_case None = inl refl
option_case (Some n) = inr (n, refl)

-- no block has ended, there is a whole one, or it is too large
abbrev pub Blocked : List ℕ → Type 0
Blocked bytes = AwaitsBlock bytes ⊎ (IsTooLarge bytes ⊎ ((len : ℕ) × IsBlock bytes len))

by_size : (bytes : List ℕ) → block_in bytes ≡ None → (m : ℕ) → m ≡ MOST_HEAD_BYTES
    → (nat_lt (length bytes) m ≡ true) ⊎ (nat_lt (length bytes) m ≡ false) → Blocked bytes
by_size bytes e m same (inl k) = inl (e, subst (λ n. length bytes < n) same (lower (length bytes) m k))
by_size bytes e m same (inr k) = inr (inl (inl (e, subst (λ n. n ≤ length bytes) same (upper (length bytes) m k))))

by_lines : Bounds → (bytes : List ℕ) (len : ℕ) → block_in bytes ≡ Some len → (m : ℕ) → m ≡ MOST_LINES
    → (nat_lt m (line_count (take len bytes)) ≡ true) ⊎ (nat_lt m (line_count (take len bytes)) ≡ false) → Blocked bytes
by_lines bounds bytes len e m same (inl k) =
    inr (inl (inr (len, e, subst (λ n. n < line_count (take len bytes)) same (lower m (line_count (take len bytes)) k))))
by_lines bounds bytes len e m same (inr k) =
    inr (inr (
      len,
      record {
        found = e;
        few = subst (λ n. line_count (take len bytes) ≤ n) same (upper m (line_count (take len bytes)) k);
        within = (bounds bytes len e).0;
      },
    ))

by_block : Bounds → (bytes : List ℕ) → (block_in bytes ≡ None) ⊎ ((n : ℕ) × (block_in bytes ≡ Some n)) → Blocked bytes
by_block bounds bytes (inl e) = by_size bytes e MOST_HEAD_BYTES refl (either (nat_lt (length bytes) MOST_HEAD_BYTES))
by_block bounds bytes (inr n) =
    by_lines bounds bytes n.0 n.1 MOST_LINES refl (either (nat_lt MOST_LINES (line_count (take n.0 bytes))))

pub blocked : Bounds → (bytes : List ℕ) → Blocked bytes
blocked bounds bytes = by_block bounds bytes (option_case (block_in bytes))

-- ---- the head of a block

header : Field → Header
header f = record { name = f.name; value = field_value f }

same_headers : (fields : List Field) → map header_view (map header fields) ≡ map name_and_value fields
unfolding header
same_headers [] = refl
same_headers (f ∷ fields) = ap (λ (l : List (List ℕ × List ℕ)). (f.name, field_value f) ∷ l) (same_headers fields)

request_of : RequestHead → Head
request_of read = record { method = read.method; target = read.target; minor = read.minor; headers = map header read.fields }

request_parts : (read : RequestHead) → HasParts (request_of read) read
unfolding request_of
request_parts read = record { method = refl; target = refl; minor = refl; headers = same_headers read.fields }

pub request-head : (block : List ℕ) (read : RequestHead) → IsRequest block read → (h : Head) × IsHeadOf block h
request-head block read is = (request_of read, (read, is, request_parts read))

reply_of : ResponseHead → ReplyHead
reply_of read = record { status = status_code read; minor = read.minor; headers = map header read.fields }

reply_parts : (read : ResponseHead) → HasReplyParts (reply_of read) read
unfolding reply_of
reply_parts read = record { status = refl; minor = refl; headers = same_headers read.fields }

-- ---- the answer

-- a block is a head of the grammar, or none is the block
abbrev pub DecidesBlocks : {R : Type 0} → (List ℕ → R → Type 0) → Type 0
DecidesBlocks {R} Is = (block : List ℕ) → ((read : R) × Is block read) ⊎ ((read : R) → Is block read → ⊥)

module _ {R H : Type 0} (Is : List ℕ → R → Type 0) (Has : H → R → Type 0) (made : R → H) (has : (read : R) → Has (made read) read) where
  by_head : (bytes : List ℕ) (len : ℕ) → IsBlock bytes len → ((read : R) × Is (take len bytes) read) ⊎ ((read : R) → Is (take len bytes) read → ⊥)
      → (answer : HeadAnswer H) × IsAnswer Is Has bytes answer
  by_head bytes len b (inl read) = (head.Whole (made read.0) len, (b.found, b.few, (read.0, read.1, has read.0)))
  by_head bytes len b (inr none) = (head.BadHead, (len, b.found, b.few, none))

  by_blocked : DecidesBlocks Is → (bytes : List ℕ) → Blocked bytes → (answer : HeadAnswer H) × IsAnswer Is Has bytes answer
  by_blocked decides bytes (inl more) = (head.More, more)
  by_blocked decides bytes (inr (inl large)) = (head.TooLarge, large)
  by_blocked decides bytes (inr (inr block)) = by_head bytes block.0 block.1 (decides (take block.0 bytes))

  pub answered : Bounds → DecidesBlocks Is → (bytes : List ℕ) → (answer : HeadAnswer H) × IsAnswer Is Has bytes answer
  answered bounds decides bytes = by_blocked decides bytes (blocked bounds bytes)

pub request-answer : Bounds → DecidesBlocks IsRequest → (bytes : List ℕ) → (answer : HeadAnswer Head) × IsAnswer IsRequest HasParts bytes answer
request-answer = answered IsRequest HasParts request_of request_parts

pub reply-answer : Bounds → DecidesBlocks IsReply → (bytes : List ℕ) → (answer : HeadAnswer ReplyHead) × IsAnswer IsReply HasReplyParts bytes answer
reply-answer = answered IsReply HasReplyParts reply_of reply_parts

abbrev HasStatus : ℕ → ResponseHead → Type 0
HasStatus n read = n ≡ status_code read

as_status : (bytes : List ℕ) (answer : HeadAnswer ℕ) → IsAnswer IsReply HasStatus bytes answer → (s : StatusAnswer) × IsStatusAnswer bytes s
as_status bytes (head.Whole n len) p = (status.Whole n len, p)
as_status bytes head.More p = (status.More, p)
as_status bytes head.BadHead p = (status.BadHead, p)
as_status bytes head.TooLarge p = (status.TooLarge, p)

pub status-answer : Bounds → DecidesBlocks IsReply → (bytes : List ℕ) → (s : StatusAnswer) × IsStatusAnswer bytes s
status-answer bounds decides bytes =
    let a = answered IsReply HasStatus (λ read. status_code read) (λ read. refl) bounds decides bytes in as_status bytes a.0 a.1
