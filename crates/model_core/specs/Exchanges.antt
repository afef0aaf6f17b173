-- What is true of an exchange that is over, and of one as far as it has come, after every list of steps.
use Rattle.std.specs.Prelude.{◌≡◌, ◌≢◌, ℕ, ◌≤◌, true, false, ◌||◌, List, [], ◌∷◌, ◌++◌, length, take, is_some, Option, Some, None, slice_get}
use Rattle.apiservice_table.specs.declared.change.Change.{Change}
use Rattle.apiservice_table.specs.declared.change.ChangeFault.{ChangeFault}
use Rattle.audit_core.specs.Answer.{status_of}
use Rattle.audit_core.specs.Offers.{Due, AreNotes, has_refused, is_first}
use Rattle.audit_core.specs.declared.link_note.LinkNote.TheVariants.{NotUsed}
use Rattle.audit_core.specs.declared.routed.Handling.{Handling}
use Rattle.model_core.specs.Offered.{dues_of, dues_so_far}
use Rattle.front_base.specs.Info.{is_long_running}
use Rattle.front_base.specs.declared.level.Level.TheVariants as level
use Rattle.policy_rules.specs.Policy.{first}
use Rattle.stage_event.specs.Due.{reply_due}
use Rattle.stage_event.specs.declared.facts.Kept.{Kept}
use Rattle.model_worlds.specs.Requests.{kept_if}
use Rattle.model_worlds.specs.Setup.{Setup}
use Rattle.model_worlds.specs.Steps.{handling_at, change_refusal, is_proxied, own_reply, is_decided}
use Rattle.model_worlds.specs.declared.state.Exchange.{Exchange}
use Rattle.model_worlds.specs.declared.state.Open.{Open}

-- ---- how it is recorded

-- at the level that the policy's first matching rule gives
abbrev pub HasLevel : Setup → Exchange → Type 0
HasLevel setup x = x.level ≡ (first setup.set.policy x.facts.user x.facts.info).level

-- ---- the answer

-- how an exchange is handled: by the rows that it saw, and with 500 where a strict sink could not write its arrival
abbrev pub handled : Setup → List Change → Exchange → Handling
handled setup changes x = handling_at setup changes (has_refused setup.set x.notes) x.seen x.errand

-- what is kept of an answer of this server
abbrev pub own_kept : Setup → Handling → Exchange → Kept
own_kept setup handling x = kept_if (reply_due x.level x.facts.info) (own_reply setup handling x.managed x.is_head)

-- it was answered as it was handled
pub record HasReply (setup : Setup) (handling : Handling) (x : Exchange) : Type 0 where
  pub status : x.facts.status ≡ status_of handling x.link
  -- no link is used where it isn't sent on
  pub link : is_proxied handling ≡ false → x.link ≡ NotUsed
  -- and then the answer is this server's
  pub reply : is_proxied handling ≡ false → x.facts.reply ≡ own_kept setup handling x

-- ---- the change that it asks for

-- it stands at that place, unless it was refused
abbrev pub StandsUnless : Option ChangeFault → Option Change → Change → Type 0
StandsUnless None at change = at ≡ Some change
StandsUnless (Some fault) at change = Unit {0}

-- it was decided by the rows after the first so many changes: it is the next one, unless these rows refuse it
abbrev pub IsDecided : Setup → List Change → ℕ → Change → Type 0
IsDecided setup changes seen change =
    StandsUnless (change_refusal setup (take seen changes) change) (slice_get changes seen) change

-- ---- an exchange that is over

pub record Settled (setup : Setup) (changes : List Change) (x : Exchange) : Type 0 where
  pub recorded : HasLevel setup x
  pub seen : x.seen ≤ length changes
  pub reply : HasReply setup (handled setup changes x) x
  -- each event that it owes was offered to each sink that is on, in order, and what could become of it did
  pub offers : AreNotes setup.set (dues_of setup x) x.notes
  -- the change that it asks for was decided, unless a strict sink failed
  pub decided : has_refused setup.set x.notes ≡ false → (change : Change) → x.asked ≡ Some change
      → IsDecided setup changes x.seen change
  -- its moments don't fall
  pub started : x.facts.received ≤ x.facts.started
  pub complete : x.facts.started ≤ x.facts.complete

abbrev pub AreSettled : Setup → List Change → List Exchange → Type 0
AreSettled setup changes [] = Unit {0}
AreSettled setup changes (x ∷ xs) = Settled setup changes x × AreSettled setup changes xs

-- ---- an exchange that is not over

-- what was due so far and was offered is noted, and the rest waits
pub record HasOffered (setup : Setup) (o : Open) : Type 0 where
  pub made : List Due
  pub noted : AreNotes setup.set made o.exchange.notes
  pub all : made ++ o.waiting ≡ dues_so_far setup o

-- none of these is of the arrival
abbrev pub AreLater : List Due → Type 0
AreLater [] = Unit {0}
AreLater (w ∷ ws) = (is_first w.stage ≡ false) × AreLater ws

-- it was answered as it was handled, and all that it owes is due
pub record IsFinished (setup : Setup) (changes : List Change) (o : Open) : Type 0 where
  pub reply : HasReply setup (handled setup changes o.exchange) o.exchange
  pub decided : is_decided o ≡ true
  pub due : dues_so_far setup o ≡ dues_of setup o.exchange
  pub complete : o.exchange.facts.complete ≡ o.phase.last

pub record SettledSoFar (setup : Setup) (changes : List Change) (o : Open) : Type 0 where
  pub recorded : HasLevel setup o.exchange
  pub seen : o.exchange.seen ≤ length changes
  -- it is noted whether a strict sink failed
  pub failed : o.phase.failed ≡ has_refused setup.set o.exchange.notes
  pub offers : HasOffered setup o
  -- only a long-running request starts, and its status is then the one that was noted
  pub long : is_some o.phase.started ≡ true → is_long_running o.exchange.facts.info ≡ true
  pub begun : o.exchange.level ≢ level.None → (status : ℕ) → o.phase.started ≡ Some status
      → o.exchange.facts.status ≡ status
  -- once the table was looked at, or it was answered, no offer of its arrival waits
  pub later : (o.phase.found || o.phase.finished) ≡ true → AreLater o.waiting
  -- a change is decided after the table was looked at, and only where no strict sink failed
  pub looked : o.phase.decided ≡ true → o.phase.found ≡ true
  pub kept : o.phase.decided ≡ true → o.phase.failed ≡ false
  pub decided : o.phase.decided ≡ true → (change : Change) → o.exchange.asked ≡ Some change
      → IsDecided setup changes o.exchange.seen change
  -- its moments don't fall
  pub started : o.exchange.facts.received ≤ o.exchange.facts.started
  pub last : o.exchange.facts.started ≤ o.phase.last
  pub finished : o.phase.finished ≡ true → IsFinished setup changes o
