-- The head of a reply (RFC 9112, section 4).
use Rattle.std.specs.Prelude.{◌≡◌, ℕ, List, [], map}
use Rattle.httparse.specs.Grammar.{ResponseHead, ReadsResponse, status_code}
use Rattle.httparse.specs.Spans.{name_and_value}
use Rattle.http_head.specs.Answer.{IsAnswer}
use Rattle.http_head.specs.Request.{header_view}
use Rattle.http_head.specs.declared.answer.HeadAnswer.{HeadAnswer}
use Rattle.http_head.specs.declared.answer.HeadAnswer.TheVariants as head_case
use Rattle.http_head.specs.declared.answer.StatusAnswer.{StatusAnswer}
use Rattle.http_head.specs.declared.answer.StatusAnswer.TheVariants as status_case
use Rattle.http_head.specs.declared.reply.ReplyHead.{ReplyHead}

-- the block is that head, in the grammar of `httparse`
abbrev pub IsReply : List ℕ → ResponseHead → Type 0
IsReply block read = ReadsResponse block read []

-- no head is the block
abbrev pub IsNoReply : List ℕ → Type 0
IsNoReply block = (read : ResponseHead) → IsReply block read → ⊥

-- a head says what was read: the status, the minor version, and the headers without the spaces and tabs at the ends of
-- their values
pub record HasReplyParts (head : ReplyHead) (read : ResponseHead) : Type 0 where
  pub status : head.status ≡ status_code read
  pub minor : head.minor ≡ read.minor
  pub headers : map header_view head.headers ≡ map name_and_value read.fields

-- the block is that head
abbrev pub IsReplyOf : List ℕ → ReplyHead → Type 0
IsReplyOf block head = (read : ResponseHead) × IsReply block read × HasReplyParts head read

-- the block is a head with that status
abbrev pub IsStatusOf : List ℕ → ℕ → Type 0
IsStatusOf block status = (read : ResponseHead) × IsReply block read × (status ≡ status_code read)

-- the table of answers for replies
abbrev pub IsReplyAnswer : List ℕ → HeadAnswer ReplyHead → Type 0
IsReplyAnswer = IsAnswer IsReply HasReplyParts

-- an answer that gives a status, as one that gives a head
abbrev pub as_head_answer : StatusAnswer → HeadAnswer ℕ
as_head_answer (status_case.Whole status len) = head_case.Whole status len
as_head_answer status_case.More = head_case.More
as_head_answer status_case.BadHead = head_case.BadHead
as_head_answer status_case.TooLarge = head_case.TooLarge

-- the same table, with the status alone
abbrev pub IsStatusAnswer : List ℕ → StatusAnswer → Type 0
IsStatusAnswer bytes answer = IsAnswer IsReply (λ status read. status ≡ status_code read) bytes (as_head_answer answer)

-- an answer with the status of its head alone
abbrev pub status_alone : HeadAnswer ReplyHead → StatusAnswer
status_alone (head_case.Whole head len) = status_case.Whole head.status len
status_alone head_case.More = status_case.More
status_alone head_case.BadHead = status_case.BadHead
status_alone head_case.TooLarge = status_case.TooLarge
