-- What a webhook does with a try.
use Rattle.std.specs.Prelude.{◌≡◌, ℕ, List, [], Option, None, Some, option_map, Bool, true, false, Result, Err, ⊤}
use Rattle.std.specs.List.{flat_map}
use Rattle.front_base.specs.Line.{Line}
use Rattle.front_ports.specs.declared.dial.Call.{Call}
use Rattle.truncate_backend.specs.Tries.{Try, SinkTells, TriedAs}
use Rattle.truncate_backend.specs.declared.tries.SinkFault.{SinkFault}
use Rattle.truncate_backend.specs.declared.tries.SinkFault.TheVariants.{Port}
use Rattle.webhook_sink.specs.Exchanges.{ExchangedBy}
use Rattle.webhook_sink.specs.Hooks.{hook_named}
use Rattle.webhook_sink.specs.Posts.{post_text}
use Rattle.webhook_sink.specs.Replies.{result_of}
use Rattle.webhook_sink.specs.declared.hook_url.HookUrl.{HookUrl}
use Rattle.webhook_sink.specs.declared.reply.Reply.{Reply}
use Rattle.webhook_sink.specs.declared.webhook.WebhookSink.{WebhookSink}

-- the tries, as long as none went without a note
abbrev pub kept_tries : Bool → Option (List Try) → Option (List Try)
kept_tries true tries = tries
kept_tries false tries = None

-- its dial, the account of its tries, and its URL
abbrev pub hook_dial : {D N : Type 0} → WebhookSink D N → D
hook_dial hook = hook.dial

abbrev pub hook_notes : {D N : Type 0} → WebhookSink D N → N
hook_notes hook = hook.notes

abbrev pub hook_url : {D N : Type 0} → WebhookSink D N → HookUrl
hook_url hook = hook.head.url

-- what calls sent, joined
abbrev pub calls_sent : List Call → List ℕ
calls_sent calls = flat_map (λ (call : Call). call.sent) calls

-- what it tells, by what its dial and its notes tell
abbrev pub hook_tells : {D N : Type 0} → (D → Option (List Call)) → (N → Option (List Try)) → WebhookSink D N → SinkTells
hook_tells calls tries hook = record {
  tries = kept_tries hook.told (tries hook.notes);
  faults = hook.faults;
  refusals = hook.refusals;
  text = post_text (hook_url hook);
  sent = Some (option_map calls_sent (calls (hook_dial hook)));
}

-- the text of a try for the webhook that a text names, and none where it names no webhook
abbrev pub text_for : Option HookUrl → List Line → List ℕ
text_for None lines = []
text_for (Some url) lines = post_text url lines

abbrev pub hook_text : List ℕ → List Line → List ℕ
hook_text named = text_for (hook_named named)

-- the answer of an exchange: Port where a call failed
abbrev pub answer_by : Option Reply → Result ⊤ SinkFault
answer_by None = Err Port
answer_by (Some reply) = result_of reply

-- one try of these lines: one dial, and what the link said or that a call failed; the note says how many bytes were sent
pub record Posted (m : SinkTells) (calls0 calls : Option (List Call)) (url : HookUrl) (lines : List Line)
    (dial_rose link_rose : Type 0) (result : Result ⊤ SinkFault) (n : SinkTells) : Type 0 where
  pub sent : ℕ
  pub reply : Option Reply
  pub exchanged : ExchangedBy calls0 calls url.address (post_text url lines) dial_rose link_rose sent reply
  pub is : result ≡ answer_by reply
  pub tried : TriedAs m lines sent result n

-- a try for whose note there is no room: nothing was dialed, and the tries are told no longer
abbrev pub NotPosted : Option (List Call) → Option (List Call) → Result ⊤ SinkFault → SinkTells → Type 0
NotPosted calls0 calls result n = (result ≡ Err Port) × (calls ≡ calls0) × (n.tries ≡ None)
