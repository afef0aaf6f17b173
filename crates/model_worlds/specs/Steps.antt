-- The steps of the bays and the sinks, and lists of them.
use Rattle.std.specs.Prelude.{ℕ, ◌+◌, ◌-◌, Bool, true, false, not, ◌&&◌, ◌||◌, List, [], ◌∷◌, ◌++◌, length, take, drop, replicate, nat_lt, nat_le, ◌==◌, Option, Some, None, is_none, if◌then◌else◌, slice_get, slice_set, slice_index_or}
use Rattle.apiservice_rows.specs.Row.{Row}
use Rattle.apiservice_table.specs.Changes.{after, refusal}
use Rattle.apiservice_table.specs.declared.change.Change.{Change}
use Rattle.apiservice_table.specs.declared.change.ChangeFault.{ChangeFault}
use Rattle.audit_core.specs.Answer.{status_of, body_of}
use Rattle.audit_core.specs.Offers.{Due, offers_due, mode_of, refuses}
use Rattle.audit_core.specs.Owed.{omits}
use Rattle.audit_core.specs.Routing.{handling_of, row_for}
use Rattle.audit_core.specs.declared.errand.Errand.{Errand}
use Rattle.audit_core.specs.declared.link_note.LinkNote.{LinkNote}
use Rattle.audit_core.specs.declared.link_note.LinkNote.TheVariants.{NotUsed}
use Rattle.audit_core.specs.declared.offers.OfferNote.{OfferNote}
use Rattle.audit_core.specs.declared.offers.Outcome.{Outcome}
use Rattle.audit_core.specs.declared.offers.Outcome.TheVariants as outcome
use Rattle.audit_core.specs.declared.routed.Handling.{Handling}
use Rattle.audit_core.specs.declared.routed.Handling.TheVariants.{Refused, Served, Proxied}
use Rattle.audit_core.specs.declared.sinks.Sink.{Sink}
use Rattle.audit_core.specs.declared.sinks.Sink.TheVariants.{Log, Webhook}
use Rattle.audit_core.specs.declared.sinks.SinkMode.{SinkMode}
use Rattle.audit_core.specs.declared.sinks.SinkMode.TheVariants.{Off, Batch, Blocking, Strict}
use Rattle.front_base.specs.Info.{is_long_running}
use Rattle.front_base.specs.Line.{Line}
use Rattle.front_base.specs.declared.audit_id.TheConstants.{MOST_REQUESTS}
use Rattle.front_base.specs.declared.level.Level.{Level}
use Rattle.front_base.specs.declared.level.Level.TheVariants as level
use Rattle.front_base.specs.declared.stage.Stage.{Stage}
use Rattle.front_base.specs.declared.stage.Stage.TheVariants.{RequestReceived, ResponseStarted, ResponseComplete}
use Rattle.policy_rules.specs.Policy.{first}
use Rattle.policy_rules.specs.declared.policy.Policy.{Policy}
use Rattle.stage_event.specs.Begun as event_facts
use Rattle.stage_event.specs.Due.{reply_due}
use Rattle.stage_event.specs.Events.{event}
use Rattle.stage_event.specs.declared.event.Event.{Event}
use Rattle.stage_event.specs.declared.facts.Facts.{Facts}
use Rattle.stage_event.specs.declared.facts.Kept.{Kept}
use Rattle.truncate_backend.specs.Tries.{try_of, bytes_of}
use Rattle.truncate_backend.specs.declared.fitted.Fit.{Fit}
use Rattle.truncate_backend.specs.declared.fitted.Fit.TheVariants as fit
use Rattle.truncate_backend.specs.declared.tries.TryAnswer.{TryAnswer}
use Rattle.truncate_backend.specs.declared.tries.TryAnswer.TheVariants as answers
use Rattle.model_worlds.specs.Requests.{Wish, wish_of, kept_if}
use Rattle.model_worlds.specs.Setup.{Setup}
use Rattle.model_worlds.specs.declared.state.Bay.{Bay}
use Rattle.model_worlds.specs.declared.state.Open.{Open}
use Rattle.model_worlds.specs.declared.state.Phase.{Phase}
use Rattle.model_worlds.specs.declared.state.Shared.{Shared}
use Rattle.model_worlds.specs.declared.state.SinkState.{SinkState}
use Rattle.model_worlds.specs.declared.state.State.{State}
use Rattle.model_worlds.specs.declared.step.Step.{Step}
use Rattle.model_worlds.specs.declared.step.Step.TheVariants as step_is
use Rattle.model_worlds.specs.declared.step.StepAnswer.{StepAnswer}
use Rattle.model_worlds.specs.declared.step.StepAnswer.TheVariants.{Begun, Found, Offered, Noted, Changed, Took, Wrote, Lost, Idle}
use Rattle.model_worlds.specs.declared.step.TryTold.{TryTold}

-- ---- steps, with what their requests mean in the place of the requests

pub data Move : Type 0 where
  BeginMove : ℕ → Wish → ℕ → Move
  FindMove : ℕ → ℕ → Move
  OfferMove : ℕ → Sink → TryTold → Move
  StartedMove : ℕ → ℕ → ℕ → Move
  FinishMove : ℕ → LinkNote → Kept → ℕ → Move
  ChangeMove : ℕ → Move
  TakeMove : Sink → Move
  CutMove : Sink → TryTold → Move

abbrev pub move_of : Setup → Step → Move
move_of setup (step_is.Begin bay request peer moment) = BeginMove bay (wish_of setup peer request moment) moment
move_of setup (step_is.Find bay seen) = FindMove bay seen
move_of setup (step_is.Offer bay sink works) = OfferMove bay sink works
move_of setup (step_is.Started bay status moment) = StartedMove bay status moment
move_of setup (step_is.Finish bay link reply moment) = FinishMove bay link reply moment
move_of setup (step_is.Change bay) = ChangeMove bay
move_of setup (step_is.Take sink) = TakeMove sink
move_of setup (step_is.Cut sink works) = CutMove sink works

-- ---- what the sinks are due at a stage

abbrev pub event_unless : Bool → Event → List Event
event_unless omitted own = if omitted then [] else own ∷ []

abbrev pub event_unless_omitted : Policy → Stage → Level → Facts → List Event
event_unless_omitted policy stage own facts =
    event_unless (omits (first policy facts.user facts.info).omit stage) (event stage own facts)

-- none at level None
abbrev pub events_due : Policy → Stage → Level → Facts → List Event
events_due policy stage level.None facts = []
events_due policy stage level.Metadata facts = event_unless_omitted policy stage level.Metadata facts
events_due policy stage level.Request facts = event_unless_omitted policy stage level.Request facts
events_due policy stage level.RequestResponse facts = event_unless_omitted policy stage level.RequestResponse facts

unfoldable pub due : Setup → Stage → Level → Facts → List Due
due setup stage own facts = offers_due setup.set (events_due setup.set.policy stage own facts)

-- ---- what a step of a bay leaves

pub record Turn : Type 0 where
  pub shared : Shared
  pub bay : Bay
  pub answer : StepAnswer

-- no offer waits
abbrev pub no_wait : List Due → Bool
no_wait [] = true
no_wait (w ∷ ws) = false

-- an exchange that is finished is over when no offer waits
abbrev pub settled : Bay → Open → Bay
settled b o =
    if o.phase.finished && no_wait o.waiting
    then record b { closed = b.closed ++ o.exchange ∷ []; current = None }
    else record b { current = Some o }

-- ---- Begin: a request was received, and the offers of its arrival wait

abbrev pub facts_begun : Setup → ℕ → ℕ → Wish → ℕ → Facts
facts_begun setup bay number w moment =
    record
    (event_facts.begun
    (record { boot = setup.boot; bay = bay; number = number })
    w.target
    w.info
    w.user
    w.acting
    w.peer
    w.agent
    moment)
    { request = w.body }

abbrev pub phase_begun : ℕ → Phase
phase_begun moment =
    record { found = false; failed = false; decided = false; started = None; finished = false; last = moment }

abbrev pub begun : Setup → ℕ → ℕ → Wish → ℕ → Open
begun setup bay number w moment =
    record {
      exchange = record {
        level = w.level;
        facts = facts_begun setup bay number w moment;
        errand = w.errand;
        asked = w.asked;
        is_head = w.is_head;
        managed = w.managed;
        seen = 0;
        link = NotUsed;
        notes = [];
      };
      phase = phase_begun moment;
      waiting = due setup RequestReceived w.level (facts_begun setup bay number w moment);
    }

-- a bay has one exchange at a time, and numbers for so many
abbrev pub begin : Setup → ℕ → Wish → ℕ → Shared → Bay → Option Turn
begin setup bay w moment sh b =
    if is_none b.current && nat_lt b.number MOST_REQUESTS
    then Some (record {
      shared = sh;
      bay = record b { number = b.number + 1; current = Some (begun setup bay b.number w moment) };
      answer = Begun;
    })
    else None

-- ---- Find: the table is looked at, as it was after so many changes

abbrev pub at_open : (Open → Option Turn) → Option Open → Option Turn
at_open f None = None
at_open f (Some o) = f o

-- the row that decides, after the first so many changes
unfoldable pub row_at : Setup → List Change → ℕ → Errand → Option Row
row_at setup changes seen own = row_for (after setup.opening (take seen changes)) own

-- no fewer changes than the bay has seen before, and no more than were made
abbrev pub can_find : ℕ → Shared → Bay → Open → Bool
can_find seen sh b o =
    no_wait o.waiting
    && (not o.phase.found && (not o.phase.failed && (nat_le b.seen seen && nat_le seen (length sh.changes))))

abbrev pub found_with : ℕ → Open → Open
found_with seen o =
    record o { exchange = record o.exchange { seen = seen }; phase = record o.phase { found = true } }

abbrev pub found : Setup → ℕ → Shared → Bay → Open → Option Turn
found setup seen sh b o =
    if can_find seen sh b o
    then Some (record {
      shared = sh;
      bay = record b { seen = seen; current = Some (found_with seen o) };
      answer = Found (row_at setup sh.changes seen o.exchange.errand);
    })
    else None

-- ---- Change: the change that a request asks for is made, unless the rows refuse it

-- the rows refuse it, after all changes that were made
unfoldable pub change_refusal : Setup → List Change → Change → Option ChangeFault
change_refusal setup changes change = refusal (after setup.opening changes) change

abbrev pub changes_with : List Change → Change → Option ChangeFault → List Change
changes_with changes change None = changes ++ change ∷ []
changes_with changes change (Some fault) = changes

-- the exchange counts as one that saw the changes before this one
abbrev pub decided_with : ℕ → Open → Open
decided_with seen o =
    record o { exchange = record o.exchange { seen = seen }; phase = record o.phase { decided = true } }

abbrev pub decided : Shared → Bay → Open → Change → Option ChangeFault → Turn
decided sh b o change fault =
    record {
      shared = record sh { changes = changes_with sh.changes change fault };
      bay = record b {
        seen = length (changes_with sh.changes change fault);
        current = Some (decided_with (length sh.changes) o);
      };
      answer = Changed fault;
    }

-- once, and after the table was looked at
abbrev pub can_decide : Open → Bool
can_decide o = no_wait o.waiting && (o.phase.found && (not o.phase.failed && not o.phase.decided))

abbrev pub changed_if : Setup → Shared → Bay → Open → Option Change → Option Turn
changed_if setup sh b o None = None
changed_if setup sh b o (Some change) =
    if can_decide o then Some (decided sh b o change (change_refusal setup sh.changes change)) else None

abbrev pub changed : Setup → Shared → Bay → Open → Option Turn
changed setup sh b o = changed_if setup sh b o o.exchange.asked

-- ---- how an exchange is handled

-- by the rows that it saw, unless a strict sink failed
unfoldable pub handling_at : Setup → List Change → Bool → ℕ → Errand → Handling
handling_at setup changes failed seen own =
    if failed then Refused 500 else handling_of setup.set.endpoints (after setup.opening (take seen changes)) own

abbrev pub handling_in : Setup → Shared → Open → Handling
handling_in setup sh o = handling_at setup sh.changes o.phase.failed o.exchange.seen o.exchange.errand

abbrev pub is_proxied : Handling → Bool
is_proxied (Refused code) = false
is_proxied (Served local reply change) = false
is_proxied (Proxied target) = true

-- the table was looked at, and a change that is asked for was decided; or a strict sink failed
abbrev pub is_decided : Open → Bool
is_decided o = o.phase.failed || (o.phase.found && (is_none o.exchange.asked || o.phase.decided))

-- it can be answered, at a moment that isn't before its last one
abbrev pub is_ready : Open → ℕ → Bool
is_ready o moment =
    no_wait o.waiting && (is_decided o && (not o.phase.finished && nat_le o.phase.last moment))

-- ---- Started: a long-running request's reply starts with a status, and the offers of that stage wait

-- once, and with the status of the answer where this server gives it
abbrev pub starts : Handling → Open → ℕ → Bool
starts handling o status =
    is_long_running o.exchange.facts.info
    && (is_none o.phase.started && (is_proxied handling || status == status_of handling NotUsed))

-- never at level None
abbrev pub can_start : Level → Handling → Open → ℕ → Bool
can_start level.None handling o status = false
can_start level.Metadata handling o status = starts handling o status
can_start level.Request handling o status = starts handling o status
can_start level.RequestResponse handling o status = starts handling o status

abbrev pub facts_started : ℕ → ℕ → Facts → Facts
facts_started status moment facts = record facts { status = status; started = moment }

abbrev pub started_with : Setup → ℕ → ℕ → Open → Open
started_with setup status moment o =
    record {
      exchange = record o.exchange { facts = facts_started status moment o.exchange.facts };
      phase = record o.phase { started = Some status; last = moment };
      waiting = due setup ResponseStarted o.exchange.level (facts_started status moment o.exchange.facts);
    }

abbrev pub started : Setup → ℕ → ℕ → Shared → Bay → Open → Option Turn
started setup status moment sh b o =
    if is_ready o moment && can_start o.exchange.level (handling_in setup sh o) o status
    then Some (record { shared = sh; bay = record b { current = Some (started_with setup status moment o) }; answer = Noted })
    else None

-- ---- Finish: a request was answered, and the offers of that stage wait

-- the reply started, with that status
abbrev pub has_started : Option ℕ → ℕ → Bool
has_started None status = false
has_started (Some noted) status = noted == status

abbrev pub finishes : Open → ℕ → Bool
finishes o status = not (is_long_running o.exchange.facts.info) || has_started o.phase.started status

-- a long-running request starts before, but for level None
abbrev pub can_finish : Level → Open → ℕ → Bool
can_finish level.None o status = true
can_finish level.Metadata o status = finishes o status
can_finish level.Request o status = finishes o status
can_finish level.RequestResponse o status = finishes o status

abbrev pub sent : Bool → List ℕ → List ℕ
sent is_head body = if is_head then [] else body

-- what is kept of the answer of this server, by whether managed fields are omitted. HEAD requests get it without a body
unfoldable pub own_reply : Setup → Handling → Bool → Bool → Kept
own_reply setup handling managed is_head = setup.keep managed (sent is_head (body_of handling NotUsed []))

-- what is kept of the reply's body where an event shows it: of a backend's what the step says
abbrev pub reply_in : Setup → Handling → Open → Kept → Kept
reply_in setup handling o reply =
    kept_if
    (reply_due o.exchange.level o.exchange.facts.info)
    (if is_proxied handling then reply else own_reply setup handling o.exchange.managed o.exchange.is_head)

abbrev pub facts_finished : Setup → Handling → LinkNote → Kept → ℕ → Open → Facts
facts_finished setup handling link reply moment o =
    record o.exchange.facts { status = status_of handling link; reply = reply_in setup handling o reply; complete = moment }

-- a link counts where the request is sent on
abbrev pub link_in : Handling → LinkNote → LinkNote
link_in handling link = if is_proxied handling then link else NotUsed

abbrev pub finished_with : Setup → Handling → LinkNote → Kept → ℕ → Open → Open
finished_with setup handling link reply moment o =
    record {
      exchange = record o.exchange {
        facts = facts_finished setup handling link reply moment o;
        link = link_in handling link;
      };
      phase = record o.phase { finished = true; last = moment };
      waiting = due setup ResponseComplete o.exchange.level (facts_finished setup handling link reply moment o);
    }

abbrev pub finished : Setup → LinkNote → Kept → ℕ → Shared → Bay → Open → Option Turn
finished setup link reply moment sh b o =
    if is_ready o moment && can_finish o.exchange.level o (status_of (handling_in setup sh o) link)
    then Some (record {
      shared = sh;
      bay = settled b (finished_with setup (handling_in setup sh o) link reply moment o);
      answer = Noted;
    })
    else None

-- ---- Offer: the next line that waits is offered to its sink

abbrev pub sink_at : Shared → Sink → SinkState
sink_at sh Log = sh.log
sink_at sh Webhook = sh.hook

abbrev pub with_sink : Shared → Sink → SinkState → Shared
with_sink sh Log s = record sh { log = s }
with_sink sh Webhook s = record sh { hook = s }

abbrev pub same_sink : Sink → Sink → Bool
same_sink Log Log = true
same_sink Log Webhook = false
same_sink Webhook Log = false
same_sink Webhook Webhook = true

-- a sink after an offer, and what became of it
pub record Pushed : Type 0 where
  pub sink : SinkState
  pub outcome : Outcome

-- what stands at a bay's place
abbrev pub at_lane : {A : Type 0} → List A → ℕ → A → A
at_lane lanes bay none = slice_index_or lanes bay none

-- a buffer takes a line where it has room
abbrev pub push_buffer : ℕ → Line → SinkState → Pushed
push_buffer capacity line s =
    if nat_lt (length s.contents) capacity
    then record {
      sink = record s {
        contents = s.contents ++ line ∷ [];
        accepted = slice_set s.accepted line.bay (at_lane s.accepted line.bay [] ++ line ∷ []);
      };
      outcome = outcome.Taken;
    }
    else record {
      sink = record s { fulls = slice_set s.fulls line.bay (at_lane s.fulls line.bay 0 + 1) };
      outcome = outcome.Full;
    }

abbrev pub own_outcome : TryAnswer → Outcome
own_outcome answers.Done = outcome.Taken
own_outcome answers.Port = outcome.Failed
own_outcome (answers.Refused code) = outcome.Failed
own_outcome answers.BadAnswer = outcome.Failed

-- a sink that is written to at once tries the line
abbrev pub push_own : TryTold → Line → SinkState → Pushed
push_own works line s =
    record {
      sink = record s {
        own_tries =
            slice_set s.own_tries line.bay
            (at_lane s.own_tries line.bay [] ++ try_of (line ∷ []) works.sent works.answer ∷ []);
      };
      outcome = own_outcome works.answer;
    }

-- a sink that is off is due nothing
abbrev pub push_line : SinkMode → ℕ → TryTold → Line → SinkState → Pushed
push_line Off capacity works line s = record { sink = s; outcome = outcome.Full }
push_line Batch capacity works line s = push_buffer capacity line s
push_line Blocking capacity works line s = push_own works line s
push_line Strict capacity works line s = push_own works line s

-- how many lines a bay offered to a sink before
abbrev pub line_number : SinkState → ℕ → ℕ
line_number s bay =
    length (at_lane s.accepted bay []) + (at_lane s.fulls bay 0 + length (at_lane s.own_tries bay []))

abbrev pub push_text : SinkMode → ℕ → TryTold → ℕ → List ℕ → SinkState → Pushed
push_text mode capacity works bay text s =
    push_line mode capacity works (record { bay = bay; number = line_number s bay; bytes = text }) s

-- an event of which nothing fits isn't offered
abbrev pub push_fit : SinkMode → ℕ → TryTold → ℕ → Fit → SinkState → Pushed
push_fit mode capacity works bay (fit.Whole text) s = push_text mode capacity works bay text s
push_fit mode capacity works bay (fit.Stripped text) s = push_text mode capacity works bay text s
push_fit mode capacity works bay (fit.TooLarge size) s = record { sink = s; outcome = outcome.TooLarge size }

abbrev pub pushed : Setup → ℕ → TryTold → Shared → Due → Pushed
pushed setup bay works sh w =
    push_fit (mode_of setup.set w.sink) (setup.capacity w.sink) works bay w.fit (sink_at sh w.sink)

abbrev pub note_of : Due → Outcome → OfferNote
note_of w own = record { sink = w.sink; stage = w.stage; outcome = own }

-- an exchange fails where a strict sink could not write the event of its arrival
abbrev pub noted : Setup → Due → List Due → Outcome → Open → Open
noted setup w rest own o =
    record {
      exchange = record o.exchange { notes = o.exchange.notes ++ note_of w own ∷ [] };
      phase = record o.phase { failed = o.phase.failed || refuses setup.set (note_of w own) };
      waiting = rest;
    }

abbrev pub offered_with : Setup → Shared → Bay → Open → Due → List Due → Pushed → Turn
offered_with setup sh b o w rest p =
    record {
      shared = with_sink sh w.sink p.sink;
      bay = settled b (noted setup w rest p.outcome o);
      answer = Offered p.outcome;
    }

abbrev pub offered : Setup → ℕ → Sink → TryTold → Shared → Bay → Open → List Due → Option Turn
offered setup bay sink works sh b o [] = None
offered setup bay sink works sh b o (w ∷ rest) =
    if same_sink w.sink sink
    then Some (offered_with setup sh b o w rest (pushed setup bay works sh w))
    else None

abbrev pub offer : Setup → ℕ → Sink → TryTold → Shared → Bay → Open → Option Turn
offer setup bay sink works sh b o = offered setup bay sink works sh b o o.waiting

-- ---- Take: the writer of a sink takes a line from its buffer

-- a sink after a step of its writer
pub record Drained : Type 0 where
  pub sink : SinkState
  pub answer : StepAnswer

abbrev pub is_batch : SinkMode → Bool
is_batch Off = false
is_batch Batch = true
is_batch Blocking = false
is_batch Strict = false

-- two lines or more, with more bytes than a batch may have
abbrev pub is_over : ℕ → List Line → Bool
is_over bytes lines = nat_lt 1 (length lines) && nat_lt bytes (bytes_of lines)

-- the batch is not complete
abbrev pub can_take : Setup → Sink → SinkState → Bool
can_take setup sink s =
    is_batch (mode_of setup.set sink)
    && (nat_lt (length s.pending) setup.limits.lines && not (is_over setup.limits.bytes s.pending))

abbrev pub take_front : SinkState → List Line → Drained
take_front s [] = record { sink = s; answer = Took None }
take_front s (line ∷ rest) =
    record {
      sink = record s { contents = rest; taken = s.taken ++ line ∷ []; pending = s.pending ++ line ∷ [] };
      answer = Took (Some line);
    }

abbrev pub take_line : Setup → Sink → SinkState → Option Drained
take_line setup sink s = if can_take setup sink s then Some (take_front s s.contents) else None

-- ---- Cut: the writer of a sink writes the lines that it took

abbrev pub has_line : List Line → Bool
has_line [] = false
has_line (line ∷ lines) = true

-- all of them, or all but the last where they have too many bytes
abbrev pub cut_count : ℕ → List Line → ℕ
cut_count bytes lines = if is_over bytes lines then length lines - 1 else length lines

abbrev pub cut_answer : TryAnswer → ℕ → StepAnswer
cut_answer answers.Done n = Wrote n
cut_answer answers.Port n = Lost n
cut_answer (answers.Refused code) n = Lost n
cut_answer answers.BadAnswer n = Lost n

abbrev pub cut_with : TryTold → SinkState → ℕ → Drained
cut_with works s n =
    record {
      sink = record s {
        pending = drop n s.pending;
        tries = s.tries ++ try_of (take n s.pending) works.sent works.answer ∷ [];
      };
      answer = cut_answer works.answer n;
    }

abbrev pub cut_lines : Setup → TryTold → SinkState → Option Drained
cut_lines setup works s =
    if has_line s.pending then Some (cut_with works s (cut_count setup.limits.bytes s.pending)) else None

-- ---- a step of the whole

-- the state after a step, and its answer
pub record Stepped : Type 0 where
  pub state : State
  pub answer : StepAnswer

abbrev pub turned : State → ℕ → Option Turn → Stepped
turned s bay None = record { state = s; answer = Idle }
turned s bay (Some t) =
    record { state = record { shared = t.shared; bays = slice_set s.bays bay t.bay }; answer = t.answer }

abbrev pub try_at : (Shared → Bay → Option Turn) → Shared → Option Bay → Option Turn
try_at f sh None = None
try_at f sh (Some b) = f sh b

abbrev pub at_bay : State → ℕ → (Shared → Bay → Option Turn) → Stepped
at_bay s bay f = turned s bay (try_at f s.shared (slice_get s.bays bay))

abbrev pub in_exchange : (Shared → Bay → Open → Option Turn) → Shared → Bay → Option Turn
in_exchange f sh b = at_open (f sh b) b.current

abbrev pub drained : State → Sink → Option Drained → Stepped
drained s sink None = record { state = s; answer = Idle }
drained s sink (Some d) = record { state = record s { shared = with_sink s.shared sink d.sink }; answer = d.answer }

abbrev pub at_sink : State → Sink → (SinkState → Option Drained) → Stepped
at_sink s sink f = drained s sink (f (sink_at s.shared sink))

abbrev pub move : Setup → State → Move → Stepped
move setup s (BeginMove bay w moment) = at_bay s bay (begin setup bay w moment)
move setup s (FindMove bay seen) = at_bay s bay (in_exchange (found setup seen))
move setup s (OfferMove bay sink works) = at_bay s bay (in_exchange (offer setup bay sink works))
move setup s (StartedMove bay status moment) = at_bay s bay (in_exchange (started setup status moment))
move setup s (FinishMove bay link reply moment) = at_bay s bay (in_exchange (finished setup link reply moment))
move setup s (ChangeMove bay) = at_bay s bay (in_exchange (changed setup))
move setup s (TakeMove sink) = at_sink s sink (take_line setup sink)
move setup s (CutMove sink works) = at_sink s sink (cut_lines setup works)

-- a step that can't be taken leaves all as it was and answers Idle
unfoldable pub step : Setup → State → Step → Stepped
step setup s own = move setup s (move_of setup own)

-- ---- lists of steps

abbrev pub after_steps : Setup → State → List Step → State
after_steps setup s [] = s
after_steps setup s (own ∷ more) = after_steps setup (step setup s own).state more

abbrev pub answers_to : Setup → State → List Step → List StepAnswer
answers_to setup s [] = []
answers_to setup s (own ∷ more) = (step setup s own).answer ∷ answers_to setup (step setup s own).state more

-- ---- the start

abbrev pub start_bay : Bay
start_bay = record { number = 0; seen = 0; closed = []; current = None }

abbrev pub start_sink : ℕ → SinkState
start_sink bays =
    record {
      contents = [];
      taken = [];
      pending = [];
      tries = [];
      accepted = replicate bays [];
      fulls = replicate bays 0;
      own_tries = replicate bays [];
    }

-- with so many bays, before any step
abbrev pub start : ℕ → State
start bays =
    record {
      shared = record { changes = []; log = start_sink bays; hook = start_sink bays };
      bays = replicate bays start_bay;
    }
