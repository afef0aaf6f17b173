-- What levels hide, and what that leaves of states, steps and answers.
use Rattle.std.specs.Prelude.{◌≡◌, ℕ, Bool, true, false, ◌&&◌, List, [], ◌∷◌, Option, Some, None, map, option_map, flat_map, take, slice_get}
use Rattle.apiservice_rows.specs.Row.{Row}
use Rattle.audit_core.specs.Answer.{link_status}
use Rattle.audit_core.specs.declared.errand.Errand.{Errand}
use Rattle.audit_core.specs.declared.errand.Errand.TheVariants as errand
use Rattle.audit_core.specs.declared.link_note.LinkNote.{LinkNote}
use Rattle.audit_core.specs.declared.link_note.LinkNote.TheVariants.{NotUsed, Whole}
use Rattle.front_base.specs.Line.{Line}
use Rattle.front_base.specs.declared.info.Info.{Info}
use Rattle.front_base.specs.declared.level.Level.{Level}
use Rattle.front_base.specs.declared.level.Level.TheVariants as level
use Rattle.stage_event.specs.Due.{reply_due}
use Rattle.stage_event.specs.Views.{view, shown_if, no_info, no_user}
use Rattle.stage_event.specs.declared.facts.Kept.{Kept}
use Rattle.stage_event.specs.declared.facts.Kept.TheVariants.{NotAsked}
use Rattle.truncate_backend.specs.Tries.{Try}
use Rattle.truncate_backend.specs.declared.tries.TryAnswer.{TryAnswer}
use Rattle.truncate_backend.specs.declared.tries.TryAnswer.TheVariants as answers
use Rattle.model_worlds.specs.Requests.{Wish}
use Rattle.model_worlds.specs.Setup.{Setup}
use Rattle.model_worlds.specs.Steps.{Move, BeginMove, FindMove, OfferMove, StartedMove, FinishMove, ChangeMove, TakeMove, CutMove, move_of, step}
use Rattle.model_worlds.specs.declared.state.Bay.{Bay}
use Rattle.model_worlds.specs.declared.state.Exchange.{Exchange}
use Rattle.model_worlds.specs.declared.state.Open.{Open}
use Rattle.model_worlds.specs.declared.state.SinkState.{SinkState}
use Rattle.model_worlds.specs.declared.state.State.{State}
use Rattle.model_worlds.specs.declared.step.Step.{Step}
use Rattle.model_worlds.specs.declared.step.StepAnswer.{StepAnswer}
use Rattle.model_worlds.specs.declared.step.StepAnswer.TheVariants.{Begun, Found, Offered, Noted, Changed, Took, Wrote, Lost, Idle}

-- ---- states: the same state, with all that levels hide left empty

-- of an exchange that is over, the level and what it records are left
abbrev pub low_closed : Exchange → Exchange
low_closed x =
    record {
      level = x.level;
      facts = view x.level x.facts;
      errand = errand.Refuse 0;
      asked = None;
      is_head = false;
      managed = false;
      seen = 0;
      link = NotUsed;
      notes = [];
    }

abbrev pub low_errand : Level → Errand → Errand
low_errand level.None own = errand.Refuse 0
low_errand level.Metadata own = own
low_errand level.Request own = own
low_errand level.RequestResponse own = own

-- whether a request is HEAD is left where it decides the body that is recorded
abbrev pub low_head : Level → Info → Bool → Bool
low_head level.None info is_head = false
low_head level.Metadata info is_head = false
low_head level.Request info is_head = false
low_head level.RequestResponse info is_head = info.resource_request && is_head

-- whether managed fields are omitted is left where anything is
abbrev pub low_managed : Level → Bool → Bool
low_managed level.None managed = false
low_managed level.Metadata managed = managed
low_managed level.Request managed = managed
low_managed level.RequestResponse managed = managed

-- of an exchange that is not over: what the later steps need, too. The change that it asks for is left at every level,
-- because it decides how later requests are routed
abbrev pub low_exchange : Exchange → Exchange
low_exchange x =
    record {
      level = x.level;
      facts = view x.level x.facts;
      errand = low_errand x.level x.errand;
      asked = x.asked;
      is_head = low_head x.level x.facts.info x.is_head;
      managed = low_managed x.level x.managed;
      seen = x.seen;
      link = NotUsed;
      notes = [];
    }

-- how far it has come, and each line that waits, are left
abbrev pub low_open : Open → Open
low_open o = record { exchange = low_exchange o.exchange; phase = o.phase; waiting = o.waiting }

abbrev pub low_bay : Bay → Bay
low_bay b =
    record {
      number = b.number;
      seen = b.seen;
      closed = map low_closed b.closed;
      current = option_map low_open b.current;
    }

-- the table's changes and every sink are left whole
unfoldable pub low : State → State
low s = record { shared = s.shared; bays = map low_bay s.bays }

-- ---- steps: the same step, with all that the level hides left empty

abbrev pub low_wish : Level → Wish → Wish
low_wish level.None w =
    record {
      level = w.level;
      target = [];
      info = no_info;
      user = no_user;
      acting = None;
      peer = [];
      agent = [];
      errand = errand.Refuse 0;
      asked = w.asked;
      is_head = false;
      managed = false;
      body = NotAsked;
    }
low_wish level.Metadata w = record w { is_head = false; body = NotAsked }
low_wish level.Request w = record w { is_head = false; body = shown_if w.info.resource_request w.body }
low_wish level.RequestResponse w =
    record w {
      is_head = w.info.resource_request && w.is_head;
      body = shown_if w.info.resource_request w.body;
    }

-- of a link the status is left that the client is sent
abbrev pub low_link : Level → LinkNote → LinkNote
low_link level.None link = NotUsed
low_link level.Metadata link = Whole (link_status link)
low_link level.Request link = Whole (link_status link)
low_link level.RequestResponse link = Whole (link_status link)

-- of a reply's body what an event shows is left
abbrev pub low_reply : Level → Info → Kept → Kept
low_reply own info reply = shown_if (reply_due own info) reply

-- by the exchange that the bay has; what a Finish without one says is hidden
abbrev pub low_finish : ℕ → LinkNote → Kept → ℕ → Option Open → Move
low_finish bay link reply moment None = FinishMove bay NotUsed NotAsked moment
low_finish bay link reply moment (Some o) =
    FinishMove bay (low_link o.exchange.level link) (low_reply o.exchange.level o.exchange.facts.info reply) moment

abbrev pub current_of : Option Bay → Option Open
current_of None = None
current_of (Some b) = b.current

abbrev pub current_at : State → ℕ → Option Open
current_at s bay = current_of (slice_get s.bays bay)

abbrev pub low_move : State → Move → Move
low_move s (BeginMove bay w moment) = BeginMove bay (low_wish w.level w) moment
low_move s (FindMove bay seen) = FindMove bay seen
low_move s (OfferMove bay sink works) = OfferMove bay sink works
low_move s (StartedMove bay status moment) = StartedMove bay status moment
low_move s (FinishMove bay link reply moment) = low_finish bay link reply moment (current_at s bay)
low_move s (ChangeMove bay) = ChangeMove bay
low_move s (TakeMove sink) = TakeMove sink
low_move s (CutMove sink works) = CutMove sink works

-- what can be seen of a step that is taken at a state
unfoldable pub shown_step : Setup → State → Step → Move
shown_step setup s own = low_move s (move_of setup own)

-- ---- alike schedules: as many steps, and each looks the same as its partner where it is taken

abbrev pub Alike : Setup → State → State → List Step → List Step → Type 0
Alike setup s t [] [] = Unit {0}
Alike setup s t (this ∷ these) (that ∷ those) =
    (shown_step setup s this ≡ shown_step setup t that)
    × Alike setup (step setup s this).state (step setup t that).state these those
Alike setup s t [] (that ∷ those) = ⊥
Alike setup s t (this ∷ these) [] = ⊥

-- ---- answers: a row that was found at level None is hidden, and nothing else

abbrev pub low_found : Level → Option Row → Option Row
low_found level.None row = None
low_found level.Metadata row = row
low_found level.Request row = row
low_found level.RequestResponse row = row

abbrev pub low_row : Option Open → Option Row → Option Row
low_row None row = None
low_row (Some o) row = low_found o.exchange.level row

abbrev pub low_answer : Option Open → StepAnswer → StepAnswer
low_answer o (Found row) = Found (low_row o row)
low_answer o Begun = Begun
low_answer o (Offered outcome) = Offered outcome
low_answer o Noted = Noted
low_answer o (Changed fault) = Changed fault
low_answer o (Took line) = Took line
low_answer o (Wrote n) = Wrote n
low_answer o (Lost n) = Lost n
low_answer o Idle = Idle

-- the bay whose exchange a step is about
abbrev pub bay_of : Move → ℕ
bay_of (BeginMove bay w moment) = bay
bay_of (FindMove bay seen) = bay
bay_of (OfferMove bay sink works) = bay
bay_of (StartedMove bay status moment) = bay
bay_of (FinishMove bay link reply moment) = bay
bay_of (ChangeMove bay) = bay
bay_of (TakeMove sink) = 0
bay_of (CutMove sink works) = 0

unfoldable pub shown_answer : Setup → State → Step → StepAnswer
shown_answer setup s own = low_answer (current_at s (bay_of (move_of setup own))) (step setup s own).answer

abbrev pub shown_answers : Setup → State → List Step → List StepAnswer
shown_answers setup s [] = []
shown_answers setup s (own ∷ more) = shown_answer setup s own ∷ shown_answers setup (step setup s own).state more

-- the step was taken
abbrev pub is_taken : StepAnswer → Bool
is_taken (Found row) = true
is_taken Begun = true
is_taken (Offered outcome) = true
is_taken Noted = true
is_taken (Changed fault) = true
is_taken (Took line) = true
is_taken (Wrote n) = true
is_taken (Lost n) = true
is_taken Idle = false

-- ---- what a sink was sent

-- all of a try's text where it was written, and else so many bytes of it
abbrev pub sent_text : TryAnswer → ℕ → List ℕ → List ℕ
sent_text answers.Done sent text = text
sent_text answers.Port sent text = take sent text
sent_text (answers.Refused code) sent text = take sent text
sent_text answers.BadAnswer sent text = take sent text

abbrev pub try_bytes : (List Line → List ℕ) → Try → List ℕ
try_bytes text t = sent_text t.note.answer t.note.sent (text t.lines)

-- the bytes of tries one after another, where the text of lines is that: each line with a line feed for a log, and a post
-- for a webhook
abbrev pub tried_bytes : (List Line → List ℕ) → List Try → List ℕ
tried_bytes text tries = flat_map (try_bytes text) tries

-- those of a sink with a buffer, and those that each bay wrote at once, bay after bay
abbrev pub sink_bytes : (List Line → List ℕ) → SinkState → List (List ℕ)
sink_bytes text s = tried_bytes text s.tries ∷ map (tried_bytes text) s.own_tries
