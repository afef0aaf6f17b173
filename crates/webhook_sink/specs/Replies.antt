-- What the bytes of a link say to a post (RFC 9110, section 15.2; RFC 9112, section 4).
use Rattle.std.specs.Prelude.{◌≡◌, ℕ, zero, suc, ◌+◌, Bool, true, false, nat_lt, nat_le, ◌&&◌, ◌==◌, not, if◌then◌else◌, List, ◌++◌, [], drop, length, Option, None, Some, Result, Ok, Err, ⊤}
use Rattle.std.specs.Io.KnownBytes.{Consumes, IsAtEnd}
use Rattle.http_head.specs.Reply.{IsStatusAnswer}
use Rattle.http_head.specs.Answer.{AwaitsBlock}
use Rattle.http_head.specs.declared.answer.StatusAnswer.{StatusAnswer}
use Rattle.http_head.specs.declared.answer.StatusAnswer.TheVariants as status_case
use Rattle.truncate_backend.specs.declared.tries.SinkFault.{SinkFault}
use Rattle.truncate_backend.specs.declared.tries.SinkFault.TheVariants as faults
use Rattle.webhook_sink.specs.declared.reply.Reply.{Reply}
use Rattle.webhook_sink.specs.declared.reply.Reply.TheVariants.{Final, Bad}
use Rattle.webhook_sink.specs.declared.reply.TheConstants.{MOST_INTERIM}

-- another head follows one of this status
abbrev pub is_interim : ℕ → Bool
is_interim status = nat_le 100 status && (nat_lt status 200 && not (status == 101))

-- what the first head decides: its status where it is final, and bad where there is none
abbrev pub decided : StatusAnswer → Option Reply
decided (status_case.Whole status len) = if is_interim status then None else Some (Final status)
decided status_case.More = Some Bad
decided status_case.BadHead = Some Bad
decided status_case.TooLarge = Some Bad

-- what is left of the bytes after the first head
abbrev pub after_head : StatusAnswer → List ℕ → List ℕ
after_head (status_case.Whole status len) bytes = drop len bytes
after_head status_case.More bytes = bytes
after_head status_case.BadHead bytes = bytes
after_head status_case.TooLarge bytes = bytes

-- what was decided, and else what is said after
abbrev pub SaysIf : Option Reply → Type 0 → Reply → Type 0
SaysIf None after reply = after
SaysIf (Some first) after reply = reply ≡ first

-- the first head is read, and says this or leaves it to those after it
pub record ReadsAs (after : List ℕ → Type 0) (bytes : List ℕ) (reply : Reply) : Type 0 where
  pub answer : StatusAnswer
  pub is : IsStatusAnswer bytes answer
  pub says : SaysIf (decided answer) (after (after_head answer bytes)) reply

-- all bytes of a link say this, where so many interim heads may still come; one more is bad
unfoldable pub Replies : ℕ → List ℕ → Reply → Type 0
Replies zero bytes reply = ReadsAs (λ _. reply ≡ Bad) bytes reply
Replies (suc n) bytes reply = ReadsAs (λ rest. Replies n rest reply) bytes reply

-- what a sink answers
abbrev pub taken_if : Bool → ℕ → Result ⊤ SinkFault
taken_if true status = Ok tt
taken_if false status = Err (faults.Refused status)

abbrev pub result_of : Reply → Result ⊤ SinkFault
result_of (Final status) = taken_if (nat_le 200 status && nat_lt status 300) status
result_of Bad = Err faults.BadAnswer

-- ---- what a call sees of a link's input

-- what is left to give, or nothing where it isn't told
abbrev pub rest_of : Option (List ℕ) → List ℕ
rest_of None = []
rest_of (Some bytes) = bytes

-- the bytes held, and those that a call took from the input
pub record Seen (left0 left : Option (List ℕ)) (held0 held : List ℕ) : Type 0 where
  pub taken : List ℕ
  pub consumed : Consumes left0 left taken
  pub all : held ≡ held0 ++ taken

-- a read gave so many bytes, and none only at the end
pub record ReadOn (left0 left : Option (List ℕ)) (held0 held : List ℕ) (count : ℕ) : Type 0 where
  pub seen : Seen left0 left held0 held
  pub grew : length held ≡ length held0 + count
  pub end : count ≡ 0 → IsAtEnd left

-- the block of a head stands first in what is held, or none will
pub record Filled (left0 left : Option (List ℕ)) (held0 held : List ℕ) : Type 0 where
  pub seen : Seen left0 left held0 held
  pub end : AwaitsBlock held → IsAtEnd left

-- the first head of what was seen
pub record GotStatus (left0 left : Option (List ℕ)) (held0 held : List ℕ) (answer : StatusAnswer) : Type 0 where
  pub bytes : List ℕ
  pub filled : Filled left0 left held0 bytes
  pub is : IsStatusAnswer bytes answer
  pub rest : held ≡ after_head answer bytes

-- interim heads stood first in what was taken, and so many more may come
pub record Passed (left0 left : Option (List ℕ)) (held : List ℕ) (more : ℕ) : Type 0 where
  pub taken : List ℕ
  pub consumed : Consumes left0 left taken
  pub before : (rest : List ℕ) (reply : Reply) → Replies more (held ++ rest) reply → Replies MOST_INTERIM (taken ++ rest) reply

-- what was taken and all that is left say this
pub record Came (left0 left : Option (List ℕ)) (reply : Reply) : Type 0 where
  pub taken : List ℕ
  pub consumed : Consumes left0 left taken
  pub is : Replies MOST_INTERIM (taken ++ rest_of left) reply
