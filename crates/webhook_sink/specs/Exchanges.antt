-- One exchange over a link of its own: what the dial notes of it, and what is answered.
use Rattle.std.specs.Prelude.{◌≡◌, ◌≤◌, ℕ, ◌⊎◌, List, [], ◌∷◌, length, take, Option, None, Some}
use Rattle.std.specs.Io.KnownBytes.{Appends}
use Rattle.front_base.specs.declared.address.Address.{Address}
use Rattle.front_ports.specs.Dials.{failed_call}
use Rattle.front_ports.specs.Told.{Adds, Grows}
use Rattle.front_ports.specs.declared.dial.Call.{Call}
use Rattle.webhook_sink.specs.Replies.{Replies, Came}
use Rattle.webhook_sink.specs.declared.reply.Reply.{Reply}
use Rattle.webhook_sink.specs.declared.reply.TheConstants.{MOST_INTERIM}
use Rattle.webhook_sink.specs.declared.link_exchange.Outcome.{Outcome}

-- over the link: so many bytes of the text were written, all of them where there is a reply
abbrev pub EndsBy : Option (List ℕ) → Option (List ℕ) → Option (List ℕ) → Option (List ℕ) → List ℕ → Type 0 → ℕ
    → Option Reply → Type 0
EndsBy left0 left written0 written text faulty sent (Some reply) =
    (sent ≡ length text) × Appends written0 written (take sent text) × Came left0 left reply
EndsBy left0 left written0 written text faulty sent None =
    (sent ≤ length text) × Appends written0 written (take sent text) × faulty

abbrev pub Ends : Option (List ℕ) → Option (List ℕ) → Option (List ℕ) → Option (List ℕ) → List ℕ → Type 0 → Outcome → Type 0
Ends left0 left written0 written text faulty outcome = EndsBy left0 left written0 written text faulty outcome.sent outcome.reply

-- one more call is noted, where calls are told
abbrev pub NotesOne : Option (List Call) → Option (List Call) → Address → List ℕ → List ℕ → Type 0
NotesOne calls0 calls to sent held = Adds calls0 calls (record { to = to; sent = sent; held = held } ∷ [])

-- all of the text was sent, and all bytes that the link held say this
pub record Answered (calls0 calls : Option (List Call)) (to : Address) (text : List ℕ) (sent : ℕ) (reply : Reply) : Type 0 where
  pub held : List ℕ
  pub all : sent ≡ length text
  pub noted : NotesOne calls0 calls to text held
  pub replies : Replies MOST_INTERIM held reply

-- the link failed after so many bytes of the text were sent
pub record Broken (calls0 calls : Option (List Call)) (to : Address) (text : List ℕ) (link_rose : Type 0) (sent : ℕ)
    : Type 0 where
  pub held : List ℕ
  pub within : sent ≤ length text
  pub noted : NotesOne calls0 calls to (take sent text) held
  pub rose : link_rose

-- no link was opened
pub record NotDialed (calls0 calls : Option (List Call)) (to : Address) (dial_rose : Type 0) (sent : ℕ) : Type 0 where
  pub none : sent ≡ 0
  pub noted : Grows calls0 calls (failed_call to ∷ [])
  pub rose : dial_rose

abbrev pub ExchangedBy : Option (List Call) → Option (List Call) → Address → List ℕ → Type 0 → Type 0 → ℕ → Option Reply → Type 0
ExchangedBy calls0 calls to text dial_rose link_rose sent (Some reply) = Answered calls0 calls to text sent reply
ExchangedBy calls0 calls to text dial_rose link_rose sent None =
    NotDialed calls0 calls to dial_rose sent ⊎ Broken calls0 calls to text link_rose sent

-- what an exchange leaves, where `dial_rose` says that a dial failed, and `link_rose` that a call on the link did
abbrev pub Exchanged : Option (List Call) → Option (List Call) → Address → List ℕ → Type 0 → Type 0 → Outcome → Type 0
Exchanged calls0 calls to text dial_rose link_rose outcome = ExchangedBy calls0 calls to text dial_rose link_rose outcome.sent outcome.reply
