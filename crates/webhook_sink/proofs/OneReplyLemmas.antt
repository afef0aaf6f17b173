-- The bytes of a link say one thing.
use Rattle.std.proofs.Common.{◌≡◌, ℕ, zero, suc, List, Option, None, Some, refl, sym, subst, ◌∙◌}
use Rattle.http_head.specs.Reply.{IsReplyAnswer, IsStatusAnswer, status_alone}
use Rattle.http_head.specs.declared.answer.HeadAnswer.{HeadAnswer}
use Rattle.http_head.specs.declared.answer.StatusAnswer.{StatusAnswer}
use Rattle.http_head.specs.declared.reply.ReplyHead.{ReplyHead}
use Rattle.webhook_sink.specs.declared.reply.Reply.{Reply}
use Rattle.webhook_sink.specs.declared.reply.Reply.TheVariants.{Bad}
use Rattle.webhook_sink.specs.Replies.{decided, after_head, SaysIf, ReadsAs, Replies}

-- what the crates below say: the answers of `read_status` and `read_reply` are the same, and all bytes have both
abbrev pub SameStatus : Type 0
SameStatus =
    (bytes : List ℕ) (s : StatusAnswer) (r : HeadAnswer ReplyHead) → IsStatusAnswer bytes s → IsReplyAnswer bytes r → s ≡ status_alone r

abbrev pub SomeReply : Type 0
SomeReply = (bytes : List ℕ) → (r : HeadAnswer ReplyHead) × IsReplyAnswer bytes r

abbrev pub SomeStatus : Type 0
SomeStatus = (bytes : List ℕ) → (s : StatusAnswer) × IsStatusAnswer bytes s

-- ---- one answer

one_status : SameStatus → SomeReply → (bytes : List ℕ) (s t : StatusAnswer) → IsStatusAnswer bytes s → IsStatusAnswer bytes t → s ≡ t
one_status same some bytes s t p q =
    let r = some bytes in same bytes s r.0 p r.1 ∙ sym (same bytes t r.0 q r.1)

one_says : (d : Option Reply) (P Q : Type 0) (a b : Reply) → (P → Q → a ≡ b) → SaysIf d P a → SaysIf d Q b → a ≡ b
one_says None P Q a b f p q = f p q
one_says (Some first) P Q a b f p q = p ∙ sym q

one_read : SameStatus → SomeReply → (P Q : List ℕ → Type 0) (bytes : List ℕ) (a b : Reply) → ((rest : List ℕ) → P rest → Q rest → a ≡ b)
    → ReadsAs P bytes a → ReadsAs Q bytes b → a ≡ b
one_read same some P Q bytes a b f p q =
    let e = one_status same some bytes q.answer p.answer q.is p.is in
    one_says (decided p.answer) (P (after_head p.answer bytes)) (Q (after_head p.answer bytes)) a b (f (after_head p.answer bytes)) p.says
    (subst (λ (s : StatusAnswer). SaysIf (decided s) (Q (after_head s bytes)) b) e q.says)

pub one-reply : SameStatus → SomeReply → (n : ℕ) (bytes : List ℕ) (a b : Reply) → Replies n bytes a → Replies n bytes b → a ≡ b
unfolding Replies
one-reply same some zero bytes a b p q =
    one_read same some (λ _. a ≡ Bad) (λ _. b ≡ Bad) bytes a b (λ rest x y. x ∙ sym y) p q
one-reply same some (suc n) bytes a b p q =
    one_read same some (λ rest. Replies n rest a) (λ rest. Replies n rest b) bytes a b (λ rest x y. one-reply same some n rest a b x y) p q

-- ---- some answer

some_says : (d : Option Reply) (P : Reply → Type 0) → ((reply : Reply) × P reply) → (reply : Reply) × SaysIf d (P reply) reply
some_says None P after = after
some_says (Some first) P after = (first, refl)

some_read : SomeStatus → (P : List ℕ → Reply → Type 0) (bytes : List ℕ) → ((rest : List ℕ) → (reply : Reply) × P rest reply)
    → (reply : Reply) × ReadsAs (λ rest. P rest reply) bytes reply
some_read some P bytes after =
    let s = some bytes in
    let says = some_says (decided s.0) (P (after_head s.0 bytes)) (after (after_head s.0 bytes)) in
    (says.0, record { answer = s.0; is = s.1; says = says.1 })

pub some-reply : SomeStatus → (n : ℕ) (bytes : List ℕ) → (reply : Reply) × Replies n bytes reply
unfolding Replies
some-reply some zero bytes = some_read some (λ _ reply. reply ≡ Bad) bytes (λ rest. (Bad, refl))
some-reply some (suc n) bytes = some_read some (λ rest reply. Replies n rest reply) bytes (some-reply some n)
