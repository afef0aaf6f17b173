-- What a sink keeps of a bay, when a line is offered to it, and when its writer takes or writes lines.
use Rattle.std.proofs.Common.{◌≡◌, ◌≢◌, ℕ, ◌+◌, ◌<◌, Bool, true, false, List, [], ◌∷◌, ◌++◌, length, refl, ap, sym, ◌∙◌, subst, get_or, append_assoc, length-append, inl, inr, arith}
use Rattle.std.proofs.lemmas.List.{length-set, append-nil, get_or-set_same, get_or-set_other}
use Rattle.std.specs.Prelude.{if◌then◌else◌, slice_set, nat_lt}
use Rattle.audit_core.specs.Offers.{mode_of, is_on, IsOutcome, CanBe}
use Rattle.audit_core.specs.declared.offers.Outcome.{Outcome}
use Rattle.audit_core.specs.declared.offers.Outcome.TheVariants.{Taken, Full, Failed}
use Rattle.audit_core.specs.declared.sinks.Sink.{Sink}
use Rattle.audit_core.specs.declared.sinks.SinkMode.{SinkMode}
use Rattle.audit_core.specs.declared.sinks.SinkMode.TheVariants.{Off, Batch, Blocking, Strict}
use Rattle.model_core.proofs.LineLemmas.{count_for}
use Rattle.model_core.proofs.Logic.{both, no_case}
use Rattle.model_core.specs.Offered.{dues_by, notes_by}
use Rattle.model_core.specs.Sinks.{is_at_once, AreSingle}
use Rattle.event_offers.specs.Taken.{is_taken, is_tried, line_in, kept_line, count_in, lines_for}
use Rattle.front_base.specs.Line.{Line}
use Rattle.truncate_backend.specs.Tries.{Try, try_of, lines_of, done_of, lines_done}
use Rattle.truncate_backend.specs.declared.fitted.Fit.{Fit}
use Rattle.truncate_backend.specs.declared.fitted.Fit.TheVariants as fit
use Rattle.truncate_backend.specs.declared.tries.TryAnswer.{TryAnswer}
use Rattle.truncate_backend.specs.declared.tries.TryAnswer.TheVariants as answers
use Rattle.model_worlds.specs.Setup.{Setup}
use Rattle.model_worlds.specs.Steps
use Rattle.model_worlds.specs.declared.state.Bay.{Bay}
use Rattle.model_worlds.specs.declared.state.SinkState.{SinkState}
use Rattle.model_worlds.specs.declared.step.TryTold.{TryTold}

-- ---- what becomes of an offer

-- a push into a buffer, by whether there is room
abbrev pub buffer_push : Bool → Line → SinkState → Steps.Pushed
buffer_push c line s =
    if c
    then record {
      sink = record s {
        contents = s.contents ++ line ∷ [];
        accepted = slice_set s.accepted line.bay (Steps.at_lane s.accepted line.bay [] ++ line ∷ []);
      };
      outcome = Taken;
    }
    else record {
      sink = record s { fulls = slice_set s.fulls line.bay (Steps.at_lane s.fulls line.bay 0 + 1) };
      outcome = Full;
    }

buffer_can : (c : Bool) (line : Line) (s : SinkState) → CanBe Batch (buffer_push c line s).outcome
buffer_can true line s = tt
buffer_can false line s = refl

own_can : (mode : SinkMode) (a : TryAnswer) → CanBe mode Failed → CanBe mode (Steps.own_outcome a)
own_can mode answers.Done h = tt
own_can mode answers.Port h = h
own_can mode (answers.Refused code) h = h
own_can mode answers.BadAnswer h = h

line_can : (mode : SinkMode) (capacity : ℕ) (works : TryTold) (line : Line) (s : SinkState) → is_on mode ≡ true
    → CanBe mode (Steps.push_line mode capacity works line s).outcome
line_can Off capacity works line s on = no_case false refl on
line_can Batch capacity works line s on = buffer_can (nat_lt (length s.contents) capacity) line s
line_can Blocking capacity works line s on = own_can Blocking works.answer (inl refl)
line_can Strict capacity works line s on = own_can Strict works.answer (inr refl)

pub fit_can : (mode : SinkMode) (capacity : ℕ) (works : TryTold) (bay : ℕ) (f : Fit) (s : SinkState) → is_on mode ≡ true
    → IsOutcome mode f (Steps.push_fit mode capacity works bay f s).outcome
fit_can mode capacity works bay (fit.Whole text) s on = line_can mode capacity works _ s on
fit_can mode capacity works bay (fit.Stripped text) s on = line_can mode capacity works _ s on
fit_can mode capacity works bay (fit.TooLarge size) s on = refl

-- ---- another bay's lane

-- two states of a sink that keep the same of a bay
pub record SameLane (bay : ℕ) (s t : SinkState) : Type 0 where
  pub accepted : get_or t.accepted bay [] ≡ get_or s.accepted bay []
  pub fulls : get_or t.fulls bay 0 ≡ get_or s.fulls bay 0
  pub own_tries : get_or t.own_tries bay [] ≡ get_or s.own_tries bay []
  pub accepted_len : length t.accepted ≡ length s.accepted
  pub fulls_len : length t.fulls ≡ length s.fulls
  pub own_len : length t.own_tries ≡ length s.own_tries

pub same_lane : (bay : ℕ) (s : SinkState) → SameLane bay s s
same_lane bay s =
    record { accepted = refl; fulls = refl; own_tries = refl; accepted_len = refl; fulls_len = refl; own_len = refl }

buffer_other : (c : Bool) (line : Line) (s : SinkState) (j : ℕ) → j ≢ line.bay → SameLane j s (buffer_push c line s).sink
buffer_other true line s j ne =
    record {
      accepted = get_or-set_other s.accepted line.bay j _ [] ne;
      fulls = refl;
      own_tries = refl;
      accepted_len = length-set s.accepted line.bay _;
      fulls_len = refl;
      own_len = refl;
    }
buffer_other false line s j ne =
    record {
      accepted = refl;
      fulls = get_or-set_other s.fulls line.bay j _ 0 ne;
      own_tries = refl;
      accepted_len = refl;
      fulls_len = length-set s.fulls line.bay _;
      own_len = refl;
    }

own_other : (works : TryTold) (line : Line) (s : SinkState) (j : ℕ) → j ≢ line.bay
    → SameLane j s (Steps.push_own works line s).sink
own_other works line s j ne =
    record {
      accepted = refl;
      fulls = refl;
      own_tries = get_or-set_other s.own_tries line.bay j _ [] ne;
      accepted_len = refl;
      fulls_len = refl;
      own_len = length-set s.own_tries line.bay _;
    }

line_other : (mode : SinkMode) (capacity : ℕ) (works : TryTold) (line : Line) (s : SinkState) (j : ℕ) → j ≢ line.bay
    → SameLane j s (Steps.push_line mode capacity works line s).sink
line_other Off capacity works line s j ne = same_lane j s
line_other Batch capacity works line s j ne = buffer_other (nat_lt (length s.contents) capacity) line s j ne
line_other Blocking capacity works line s j ne = own_other works line s j ne
line_other Strict capacity works line s j ne = own_other works line s j ne

pub fit_other : (mode : SinkMode) (capacity : ℕ) (works : TryTold) (bay : ℕ) (f : Fit) (s : SinkState) (j : ℕ) → j ≢ bay
    → SameLane j s (Steps.push_fit mode capacity works bay f s).sink
fit_other mode capacity works bay (fit.Whole text) s j ne = line_other mode capacity works _ s j ne
fit_other mode capacity works bay (fit.Stripped text) s j ne = line_other mode capacity works _ s j ne
fit_other mode capacity works bay (fit.TooLarge size) s j ne = same_lane j s

-- ---- its own lane

-- a sink has a place for each bay
pub record Places (bays : ℕ) (s : SinkState) : Type 0 where
  pub accepted : length s.accepted ≡ bays
  pub fulls : length s.fulls ≡ bays
  pub own_tries : length s.own_tries ≡ bays

-- what an offer of that fit adds to the lane of its bay
pub record Added (bays bay : ℕ) (mode : SinkMode) (s : SinkState) (f : Fit) (p : Steps.Pushed) : Type 0 where
  pub accepted : Steps.is_batch mode ≡ true → get_or p.sink.accepted bay []
      ≡ get_or s.accepted bay [] ++ line_in is_taken bay (Steps.line_number s bay) f p.outcome
  pub tried : is_at_once mode ≡ true → lines_of (get_or p.sink.own_tries bay [])
      ≡ lines_of (get_or s.own_tries bay []) ++ line_in is_tried bay (Steps.line_number s bay) f p.outcome
  pub written : is_at_once mode ≡ true → done_of (get_or p.sink.own_tries bay [])
      ≡ done_of (get_or s.own_tries bay []) ++ line_in is_taken bay (Steps.line_number s bay) f p.outcome
  pub single : AreSingle (get_or s.own_tries bay []) → AreSingle (get_or p.sink.own_tries bay [])
  pub number : is_on mode ≡ true → Steps.line_number p.sink bay ≡ Steps.line_number s bay + count_in f
  pub places : Places bays p.sink

one_accepted : (n a b c : ℕ) → n ≡ a + 1 → n + (b + c) ≡ (a + (b + c)) + 1
one_accepted n a b c e = omega arith

one_full : (a b c : ℕ) → a + ((b + 1) + c) ≡ (a + (b + c)) + 1
one_full a b c = omega arith

one_own : (a b n c : ℕ) → n ≡ c + 1 → a + (b + n) ≡ (a + (b + c)) + 1
one_own a b n c e = omega arith

buffer_added : (bays bay : ℕ) (c : Bool) (text : List ℕ) (s : SinkState) (f : Fit) → bay < bays → Places bays s
    → ((keeps : Outcome → Bool) (n : ℕ) (own : Outcome) → line_in keeps bay n f own ≡ kept_line (keeps own) (record { bay = bay; number = n; bytes = text }))
    → count_in f ≡ 1
    → Added bays bay Batch s f (buffer_push c (record { bay = bay; number = Steps.line_number s bay; bytes = text }) s)
buffer_added bays bay true text s f lt pl k one =
    let line : Line = record { bay = bay; number = Steps.line_number s bay; bytes = text } in
    let at = get_or-set_same s.accepted bay (get_or s.accepted bay [] ++ line ∷ []) [] (subst (λ n. bay < n) (sym pl.accepted) lt) in
    record {
      accepted = λ q. at ∙ ap (λ ls. get_or s.accepted bay [] ++ ls) (sym (k is_taken (Steps.line_number s bay) Taken));
      tried = λ q. no_case false refl q;
      written = λ q. no_case false refl q;
      single = λ h. h;
      number = λ q.
          ap (λ ls. length ls + (get_or s.fulls bay 0 + length (get_or s.own_tries bay []))) at
          ∙ one_accepted _ _ _ _ (length-append (get_or s.accepted bay []) (line ∷ []))
          ∙ ap (λ n. Steps.line_number s bay + n) (sym one);
      places = record { accepted = length-set s.accepted bay _ ∙ pl.accepted; fulls = pl.fulls; own_tries = pl.own_tries };
    }
buffer_added bays bay false text s f lt pl k one =
    let at = get_or-set_same s.fulls bay (get_or s.fulls bay 0 + 1) 0 (subst (λ n. bay < n) (sym pl.fulls) lt) in
    record {
      accepted = λ q.
          sym (append-nil (get_or s.accepted bay []))
          ∙ ap (λ ls. get_or s.accepted bay [] ++ ls) (sym (k is_taken (Steps.line_number s bay) Full));
      tried = λ q. no_case false refl q;
      written = λ q. no_case false refl q;
      single = λ h. h;
      number = λ q.
          ap (λ n. length (get_or s.accepted bay []) + (n + length (get_or s.own_tries bay []))) at
          ∙ one_full _ _ _
          ∙ ap (λ n. Steps.line_number s bay + n) (sym one);
      places = record { accepted = pl.accepted; fulls = length-set s.fulls bay _ ∙ pl.fulls; own_tries = pl.own_tries };
    }

-- ---- one try more

lines_push : (ts : List Try) (t : Try) → lines_of (ts ++ t ∷ []) ≡ lines_of ts ++ t.lines
lines_push [] t = append-nil t.lines
lines_push (u ∷ ts) t = ap (λ ls. u.lines ++ ls) (lines_push ts t) ∙ sym (append_assoc u.lines (lines_of ts) t.lines)

done_push : (ts : List Try) (t : Try) → done_of (ts ++ t ∷ []) ≡ done_of ts ++ lines_done t.note.answer t.lines
done_push [] t = append-nil (lines_done t.note.answer t.lines)
done_push (u ∷ ts) t =
    ap (λ ls. lines_done u.note.answer u.lines ++ ls) (done_push ts t)
    ∙ sym (append_assoc (lines_done u.note.answer u.lines) (done_of ts) (lines_done t.note.answer t.lines))

single_push : (ts : List Try) (t : Try) → AreSingle ts → length t.lines ≡ 1 → AreSingle (ts ++ t ∷ [])
single_push [] t h k = (k, tt)
single_push (u ∷ ts) t h k = (h.0, single_push ts t h.1 k)

-- each line is tried, and it is written where the offer was taken
all_tried : (a : TryAnswer) (line : Line) → line ∷ [] ≡ kept_line (is_tried (Steps.own_outcome a)) line
all_tried answers.Done line = refl
all_tried answers.Port line = refl
all_tried (answers.Refused code) line = refl
all_tried answers.BadAnswer line = refl

all_written : (a : TryAnswer) (line : Line) → lines_done a (line ∷ []) ≡ kept_line (is_taken (Steps.own_outcome a)) line
all_written answers.Done line = refl
all_written answers.Port line = refl
all_written (answers.Refused code) line = refl
all_written answers.BadAnswer line = refl

own_added : (bays bay : ℕ) (mode : SinkMode) (works : TryTold) (text : List ℕ) (s : SinkState) (f : Fit)
    → Steps.is_batch mode ≡ false → bay < bays → Places bays s
    → ((keeps : Outcome → Bool) (n : ℕ) (own : Outcome) → line_in keeps bay n f own ≡ kept_line (keeps own) (record { bay = bay; number = n; bytes = text }))
    → count_in f ≡ 1
    → Added bays bay mode s f (Steps.push_own works (record { bay = bay; number = Steps.line_number s bay; bytes = text }) s)
own_added bays bay mode works text s f nb lt pl k one =
    let line : Line = record { bay = bay; number = Steps.line_number s bay; bytes = text } in
    let t : Try = try_of (line ∷ []) works.sent works.answer in
    let old = get_or s.own_tries bay [] in
    let at = get_or-set_same s.own_tries bay (old ++ t ∷ []) [] (subst (λ n. bay < n) (sym pl.own_tries) lt) in
    record {
      accepted = λ q. no_case (Steps.is_batch mode) nb q;
      tried = λ q.
          ap lines_of at
          ∙ lines_push old t
          ∙ ap (λ ls. lines_of old ++ ls) (all_tried works.answer line ∙ sym (k is_tried (Steps.line_number s bay) (Steps.own_outcome works.answer)));
      written = λ q.
          ap done_of at
          ∙ done_push old t
          ∙ ap (λ ls. done_of old ++ ls) (all_written works.answer line ∙ sym (k is_taken (Steps.line_number s bay) (Steps.own_outcome works.answer)));
      single = λ h. subst AreSingle (sym at) (single_push old t h refl);
      number = λ q.
          ap (λ ts. length (get_or s.accepted bay []) + (get_or s.fulls bay 0 + length ts)) at
          ∙ one_own _ _ _ _ (length-append old (t ∷ []))
          ∙ ap (λ n. Steps.line_number s bay + n) (sym one);
      places = record { accepted = pl.accepted; fulls = pl.fulls; own_tries = length-set s.own_tries bay _ ∙ pl.own_tries };
    }

line_added : (mode : SinkMode) (bays bay capacity : ℕ) (works : TryTold) (text : List ℕ) (s : SinkState) (f : Fit)
    → bay < bays → Places bays s
    → ((keeps : Outcome → Bool) (n : ℕ) (own : Outcome) → line_in keeps bay n f own ≡ kept_line (keeps own) (record { bay = bay; number = n; bytes = text }))
    → count_in f ≡ 1
    → Added bays bay mode s f (Steps.push_text mode capacity works bay text s)
line_added Off bays bay capacity works text s f lt pl k one =
    record {
      accepted = λ q. no_case false refl q;
      tried = λ q. no_case false refl q;
      written = λ q. no_case false refl q;
      single = λ h. h;
      number = λ q. no_case false refl q;
      places = pl;
    }
line_added Batch bays bay capacity works text s f lt pl k one =
    buffer_added bays bay (nat_lt (length s.contents) capacity) text s f lt pl k one
line_added Blocking bays bay capacity works text s f lt pl k one = own_added bays bay Blocking works text s f refl lt pl k one
line_added Strict bays bay capacity works text s f lt pl k one = own_added bays bay Strict works text s f refl lt pl k one

no_more : (n : ℕ) → n ≡ n + 0
no_more n = omega arith

pub fit_added : (mode : SinkMode) (bays bay capacity : ℕ) (works : TryTold) (f : Fit) (s : SinkState) → bay < bays
    → Places bays s → Added bays bay mode s f (Steps.push_fit mode capacity works bay f s)
fit_added mode bays bay capacity works (fit.Whole text) s lt pl =
    line_added mode bays bay capacity works text s (fit.Whole text) lt pl (λ keeps n own. refl) refl
fit_added mode bays bay capacity works (fit.Stripped text) s lt pl =
    line_added mode bays bay capacity works text s (fit.Stripped text) lt pl (λ keeps n own. refl) refl
fit_added mode bays bay capacity works (fit.TooLarge size) s lt pl =
    record {
      accepted = λ q. sym (append-nil (get_or s.accepted bay []));
      tried = λ q. sym (append-nil (lines_of (get_or s.own_tries bay [])));
      written = λ q. sym (append-nil (done_of (get_or s.own_tries bay [])));
      single = λ h. h;
      number = λ q. no_more (Steps.line_number s bay);
      places = pl;
    }

-- ---- a lane against the offers of its bay

pub record LaneOk (setup : Setup) (bays : ℕ) (sink : Sink) (bay : ℕ) (s : SinkState) (b : Bay) : Type 0 where
  pub accepted : Steps.is_batch (mode_of setup.set sink) ≡ true
      → get_or s.accepted bay [] ≡ lines_for is_taken sink bay 0 (dues_by setup b) (notes_by b)
  pub tried : is_at_once (mode_of setup.set sink) ≡ true
      → lines_of (get_or s.own_tries bay []) ≡ lines_for is_tried sink bay 0 (dues_by setup b) (notes_by b)
  pub written : is_at_once (mode_of setup.set sink) ≡ true
      → done_of (get_or s.own_tries bay []) ≡ lines_for is_taken sink bay 0 (dues_by setup b) (notes_by b)
  pub single : AreSingle (get_or s.own_tries bay [])
  pub number : is_on (mode_of setup.set sink) ≡ true
      → Steps.line_number s bay ≡ count_for sink (dues_by setup b) (notes_by b)
  pub places : Places bays s

-- what the offers of a bay come to, when it made one more, or none
pub record Grown (setup : Setup) (sink : Sink) (bay : ℕ) (b c : Bay) (mine : Bool) (f : Fit) (own : Outcome) : Type 0 where
  pub lines : (keeps : Outcome → Bool) → lines_for keeps sink bay 0 (dues_by setup c) (notes_by c)
      ≡ lines_for keeps sink bay 0 (dues_by setup b) (notes_by b)
      ++ (if mine then line_in keeps bay (count_for sink (dues_by setup b) (notes_by b)) f own else [])
  pub count : count_for sink (dues_by setup c) (notes_by c)
      ≡ count_for sink (dues_by setup b) (notes_by b) + (if mine then count_in f else 0)

batch_on : (mode : SinkMode) → Steps.is_batch mode ≡ true → is_on mode ≡ true
batch_on Off q = q
batch_on Batch q = refl
batch_on Blocking q = refl
batch_on Strict q = refl

once_on : (mode : SinkMode) → is_at_once mode ≡ true → is_on mode ≡ true
once_on Off q = q
once_on Batch q = refl
once_on Blocking q = refl
once_on Strict q = refl

-- an offer to this sink
pub own_lane : (setup : Setup) (bays : ℕ) (sink : Sink) (bay : ℕ) (s : SinkState) (b c : Bay) (f : Fit) (p : Steps.Pushed)
    → LaneOk setup bays sink bay s b → Added bays bay (mode_of setup.set sink) s f p
    → Grown setup sink bay b c true f p.outcome → LaneOk setup bays sink bay p.sink c
own_lane setup bays sink bay s b c f p h a g =
    record {
      accepted = λ q.
          a.accepted q
          ∙ both (λ (ls : List Line) (n : ℕ). ls ++ line_in is_taken bay n f p.outcome) (h.accepted q) (h.number (batch_on _ q))
          ∙ sym (g.lines is_taken);
      tried = λ q.
          a.tried q
          ∙ both (λ (ls : List Line) (n : ℕ). ls ++ line_in is_tried bay n f p.outcome) (h.tried q) (h.number (once_on _ q))
          ∙ sym (g.lines is_tried);
      written = λ q.
          a.written q
          ∙ both (λ (ls : List Line) (n : ℕ). ls ++ line_in is_taken bay n f p.outcome) (h.written q) (h.number (once_on _ q))
          ∙ sym (g.lines is_taken);
      single = a.single h.single;
      number = λ q. a.number q ∙ ap (λ n. n + count_in f) (h.number q) ∙ sym g.count;
      places = a.places;
    }

-- no offer to it
pub kept_lane : (setup : Setup) (bays : ℕ) (sink : Sink) (bay : ℕ) (s : SinkState) (b c : Bay)
    → ((keeps : Outcome → Bool) → lines_for keeps sink bay 0 (dues_by setup c) (notes_by c)
    ≡ lines_for keeps sink bay 0 (dues_by setup b) (notes_by b))
    → count_for sink (dues_by setup c) (notes_by c) ≡ count_for sink (dues_by setup b) (notes_by b)
    → LaneOk setup bays sink bay s b → LaneOk setup bays sink bay s c
kept_lane setup bays sink bay s b c lines count h =
    record {
      accepted = λ q. h.accepted q ∙ sym (lines is_taken);
      tried = λ q. h.tried q ∙ sym (lines is_tried);
      written = λ q. h.written q ∙ sym (lines is_taken);
      single = h.single;
      number = λ q. h.number q ∙ sym count;
      places = h.places;
    }

no_count : (n : ℕ) → n + 0 ≡ n
no_count n = omega arith

pub other_lane : (setup : Setup) (bays : ℕ) (sink : Sink) (bay : ℕ) (s : SinkState) (b c : Bay) (f : Fit) (own : Outcome)
    → LaneOk setup bays sink bay s b → Grown setup sink bay b c false f own → LaneOk setup bays sink bay s c
other_lane setup bays sink bay s b c f own h g =
    kept_lane setup bays sink bay s b c
    (λ keeps. g.lines keeps ∙ append-nil _)
    (g.count ∙ no_count _)
    h

-- the same lane of another state of the sink
pub moved_lane : (setup : Setup) (bays : ℕ) (sink : Sink) (bay : ℕ) (s t : SinkState) (b : Bay) → SameLane bay s t
    → LaneOk setup bays sink bay s b → LaneOk setup bays sink bay t b
moved_lane setup bays sink bay s t b e h =
    record {
      accepted = λ q. e.accepted ∙ h.accepted q;
      tried = λ q. ap lines_of e.own_tries ∙ h.tried q;
      written = λ q. ap done_of e.own_tries ∙ h.written q;
      single = subst AreSingle (sym e.own_tries) h.single;
      number = λ q.
          both (λ (a : List Line) (n : ℕ). length a + (n + length (get_or t.own_tries bay []))) e.accepted e.fulls
          ∙ ap (λ ts. length (get_or s.accepted bay []) + (get_or s.fulls bay 0 + length ts)) e.own_tries
          ∙ h.number q;
      places = record {
        accepted = e.accepted_len ∙ h.places.accepted;
        fulls = e.fulls_len ∙ h.places.fulls;
        own_tries = e.own_len ∙ h.places.own_tries;
      };
    }

-- ---- the writer of a sink

pub front_lane : (s : SinkState) (lines : List Line) (j : ℕ) → SameLane j s (Steps.take_front s lines).sink
front_lane s [] j = same_lane j s
front_lane s (line ∷ lines) j =
    record { accepted = refl; fulls = refl; own_tries = refl; accepted_len = refl; fulls_len = refl; own_len = refl }

pub cut_lane : (works : TryTold) (s : SinkState) (n j : ℕ) → SameLane j s (Steps.cut_with works s n).sink
cut_lane works s n j =
    record { accepted = refl; fulls = refl; own_tries = refl; accepted_len = refl; fulls_len = refl; own_len = refl }
