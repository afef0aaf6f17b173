-- Handles that have done nothing yet: what they tell is empty, and their counts are 0.
use Rattle.std.specs.Prelude.{◌≡◌, ℕ, List, [], Option, None, Some, IfSome, All, ⊤}
use Rattle.front_base.specs.Line.{Line}
use Rattle.front_ports.specs.declared.dial.Call.{Call}
use Rattle.front_ports.specs.declared.door.Visit.{Visit}
use Rattle.log_sink.specs.Texts.{log_text}
use Rattle.truncate_backend.specs.Tries.{Try, SinkTells, SentAfter, SentBy, IsNoted}
use Rattle.webhook_sink.specs.Hooked.{hook_text}

-- a door that gave nothing
pub record IsNewDoor (given : Option (List Visit)) (closes faults : ℕ) : Type 0 where
  pub no_visit : IfSome given (λ visits. visits ≡ [])
  pub no_close : closes ≡ 0
  pub no_fault : faults ≡ 0

-- a dial that called nobody
pub record IsNewDial (calls : Option (List Call)) (faults link_faults : ℕ) : Type 0 where
  pub no_call : IfSome calls (λ made. made ≡ [])
  pub no_fault : faults ≡ 0
  pub no_link_fault : link_faults ≡ 0

-- a clock that answered no moment
pub record IsNewClock (given : Option (List ℕ)) (last : ℕ) : Type 0 where
  pub no_moment : IfSome given (λ moments. moments ≡ [])
  pub none_last : last ≡ 0

-- what a new sink tells: the text of a try with given lines, and the bytes that its port was given; and how many lines the lane of
-- a bay is allotted in a queue over it, where that is said of all plants of this kind
pub record SinkOpens : Type 0 where
  pub text : List Line → List ℕ
  pub sent : Option (Option (List ℕ))
  pub allots : ℕ → Option ℕ

-- what the new logs and webhooks of a plant tell of the bytes that their ports were given: `Some (Some [])` where they tell these; and what
-- it allots each bay
pub record Openings : Type 0 where
  pub log : Option (Option (List ℕ))
  pub hook : Option (Option (List ℕ))
  pub allots : ℕ → Option ℕ

abbrev pub log_opens : Openings → SinkOpens
log_opens o = record { text = log_text; sent = o.log; allots = o.allots }

-- the webhook that this text names
abbrev pub hook_opens : Openings → List ℕ → SinkOpens
hook_opens o url = record { text = hook_text url; sent = o.hook; allots = o.allots }

-- a sink that made no try
pub record IsNewSink (opens : SinkOpens) (sink : SinkTells) : Type 0 where
  pub text_is : sink.text ≡ opens.text
  pub sent_is : sink.sent ≡ opens.sent
  pub no_try : IfSome sink.tries (λ tries. tries ≡ [])
  pub no_fault : sink.faults ≡ 0
  pub no_refusal : sink.refusals ≡ 0

-- where bytes and tries are both told, the bytes are those of the tries: the text of each, or the first bytes of it where its port failed
abbrev pub SentTexts : (List Line → List ℕ) → Option (Option (List ℕ)) → Option (List Try) → Type 0
SentTexts text None tries = ⊥
SentTexts text (Some None) tries = ⊤
SentTexts text (Some (Some bytes)) None = ⊤
SentTexts text (Some (Some bytes)) (Some tries) = SentBy text tries bytes

-- what a sink tells that opened so: the text of a try is the same, and where its port told that it was given nothing then, it was
-- given the bytes of the sink's tries, where both are still told, and so their texts. Each try is noted as it was
pub record SentAll (opens : SinkOpens) (sink : SinkTells) : Type 0 where
  pub text_is : sink.text ≡ opens.text
  pub bytes : opens.sent ≡ Some (Some []) → SentAfter [] opens.text sink.sent sink.tries
  pub noted : IfSome sink.tries (All (IsNoted opens.text))
  pub written : opens.sent ≡ Some (Some []) → SentTexts opens.text sink.sent sink.tries
