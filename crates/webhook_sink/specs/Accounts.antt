-- The calls of a webhook's tries: one each, in their order.
use Rattle.std.specs.Prelude.{◌≡◌, ℕ, List, [], ◌∷◌, ◌++◌, length, take, Option, Some, None, ⊤}
use Rattle.front_ports.specs.declared.dial.Call.{Call}
use Rattle.truncate_backend.specs.Tries.{Try, SentFor, answer_of}
use Rattle.truncate_backend.specs.declared.tries.TryAnswer.{TryAnswer}
use Rattle.truncate_backend.specs.declared.tries.TryAnswer.TheVariants.{Port}
use Rattle.webhook_sink.specs.Posts.{post_text}
use Rattle.webhook_sink.specs.Replies.{Replies, result_of}
use Rattle.webhook_sink.specs.declared.hook_url.HookUrl.{HookUrl}
use Rattle.webhook_sink.specs.declared.reply.Reply.{Reply}
use Rattle.webhook_sink.specs.declared.reply.TheConstants.{MOST_INTERIM}

-- where no call failed, the answer is what all bytes of the link say
abbrev pub AnswerFor : TryAnswer → List ℕ → Type 0
AnswerFor Port held = ⊤
AnswerFor answer held = (reply : Reply) × Replies MOST_INTERIM held reply × (answer ≡ answer_of (result_of reply))

-- the bytes of a try's post that its note says were sent
abbrev pub sent_bytes : HookUrl → Try → List ℕ
sent_bytes url t = take t.note.sent (post_text url t.lines)

-- the call of a try: whom it was to, which bytes were sent, and that the link's bytes say what the note says
pub record IsCallOf (url : HookUrl) (t : Try) (call : Call) : Type 0 where
  pub to : call.to ≡ url.address
  pub bytes : call.sent ≡ sent_bytes url t
  pub sent : SentFor t.note.answer t.note.sent (length (post_text url t.lines))
  pub answer : AnswerFor t.note.answer call.held

-- each try has its call
abbrev pub AreCallsOf : HookUrl → List Try → List Call → Type 0
AreCallsOf url [] [] = ⊤
AreCallsOf url (t ∷ ts) (call ∷ calls) = IsCallOf url t call × AreCallsOf url ts calls
AreCallsOf url _ _ = ⊥

-- what tries one after another sent
abbrev pub posted_bytes : HookUrl → List Try → List ℕ
posted_bytes url [] = []
posted_bytes url (t ∷ ts) = sent_bytes url t ++ posted_bytes url ts

-- where calls and tries are both told, the calls after those before are the tries'
abbrev pub Accounts : HookUrl → List Call → Option (List Call) → Option (List Try) → Type 0
Accounts url before None tries = ⊤
Accounts url before (Some calls) None = ⊤
Accounts url before (Some calls) (Some tries) =
    (own : List Call) × (calls ≡ before ++ own) × AreCallsOf url tries own
