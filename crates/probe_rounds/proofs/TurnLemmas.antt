-- A row's turn, by what was done in it; turns one after another, and rounds.
use Rattle.std.proofs.Common.{◌≡◌, ◌≤◌, ℕ, suc, ◌+◌, ◌-◌, length-append, Bool, true, false, if◌then◌else◌, List, [], ◌∷◌, ◌++◌, length, take, drop, Option, None, Some, refl, sym, ap, subst, ◌∙◌, append_assoc, append-nil, take-append-drop, arith}
use Rattle.service_calls.specs.Calls.{DialState}
use Rattle.std.proofs.lemmas.List.{drop_all}
use Rattle.std.specs.Io.KnownBytes.{Appends}
use Rattle.apiservice_rows.specs.Row.{Row}
use Rattle.apiservice_rows.specs.declared.service.ServiceRef.{ServiceRef}
use Rattle.avail_probe.specs.Watching.{Watched, any_refused, changed, opened, probed, wish_at}
use Rattle.front_ports.specs.Told.{Grows}
use Rattle.front_base.specs.declared.address.Address.{Address}
use Rattle.service_calls.specs.Contacts.{Asks, answers, dues, is_good, left_dues}
use Rattle.probe_rounds.specs.Rounds.{Course, asks, beginning, is_taken, judged, line, list_due, look, probe_run, probes, put_due, rounds, rows_after, tells, told, turn, turns, wished}
use Rattle.probe_rounds.specs.Standing.{BeginsSo, Breaks, End, Extends, Goes, OutTells, PaceSoFar, PaceTells, Probed, ProbedPart, Probes, RoundsBroke, RoundsMade, RoundsSoFar, Stand, StopsAsking, StopsProbing, TurnsSoFar, Waits, WritesFront, course, made, stand}
use Rattle.probe_rounds.specs.Pace.{after, asked_once, asked_so, is_due, once_more, paced, rested, start}
use Rattle.probe_rounds.specs.declared.pace.Pace.{Pace}
use Rattle.probe_rounds.specs.declared.plan.ProbePlan.{ProbePlan}
use Rattle.probe_rounds.specs.declared.round.Round.{Round}
use Rattle.probe_rounds.specs.declared.stop.ProbeStop.{ProbeStop}
use Rattle.probe_rounds.specs.declared.stop.ProbeStop.TheVariants.{NoMemory}
use Rattle.service_endpoints.specs.Find.{endpoint_of}
use Rattle.probe_rounds.proofs.ExtendsLemmas.{judged_extends, rounds_extends, told_extends, turns_extends}
use Rattle.probe_rounds.proofs.GoesLemmas.{appends_none, asking_breaks, asks_breaks, asks_then, begins_before, breaks_before, breaks_same, breaks_then, goes_nowhere, goes_same, goes_then}
use Rattle.probe_rounds.proofs.JoinLemmas.{makes_none, part_of}

-- ---- a line

pub told_goes : (round : Round) (at : ℕ) (row : Row) (up : Bool) (answer : Option ℕ) (rows now : List Watched) (d : DialState) (o0 o : OutTells)
    → now ≡ rows_after (is_taken answer) at up rows → Appends o0.written o.written (line round.number row.name up answer) → o.faults ≡ o0.faults
    → Goes (told round at row up answer) (stand rows d o0) (stand now d o)
told_goes round at row up answer rows now d o0 o is written sound = record {
  contacts = [];
  text = line round.number row.name up answer;
  steps = λ others calls before. ap (λ r. course r others calls (before ++ line round.number row.name up answer)) (sym is)
      ∙ ap (λ l. course now others l (before ++ line round.number row.name up answer)) (sym (append-nil calls));
  makes = makes_none d;
  written = written;
  sound = sound;
}

pub told_breaks : (round : Round) (at : ℕ) (row : Row) (up : Bool) (answer : Option ℕ) (rows : List Watched) (d : DialState) (stop : ProbeStop)
    (o0 o : OutTells) → WritesFront (line round.number row.name up answer) stop o0 o
    → Breaks (told round at row up answer) (stand rows d o0) stop d o
told_breaks round at row up answer rows d stop o0 o h =
    let text = line round.number row.name up answer in
    let n = h.0.0 in
    record {
      contacts = [];
      left = None;
      text = take n text;
      begins = λ others calls before. (
        ([], sym (append-nil calls) ∙ sym (append-nil (calls ++ []))),
        (drop n text, ap (λ l. before ++ l) (sym (take-append-drop n text)) ∙ sym (append_assoc before (take n text) (drop n text))),
      );
      makes = part_of [] d d (makes_none d);
      written = h.0.1;
      stops = h.1;
    }

-- ---- the front door is told

pub tells_goes : (plan : ProbePlan) (round : Round) (at : ℕ) (row : Row) (up : Bool) (answer : Option ℕ) (p q : Stand) (d : DialState)
    → Asks (put_due plan round row up) answer p.dial d → Goes (told round at row up answer) (stand p.rows d p.out) q
    → Goes (tells plan round at row up) p q
tells_goes plan round at row up answer p q d a h = asks_then (put_due plan round row up) answer (told round at row up) p q d a h

pub tells_breaks : (plan : ProbePlan) (round : Round) (at : ℕ) (row : Row) (up : Bool) (answer : Option ℕ) (p : Stand) (d e : DialState)
    (stop : ProbeStop) (o : OutTells) → Asks (put_due plan round row up) answer p.dial d
    → Breaks (told round at row up answer) (stand p.rows d p.out) stop e o → Breaks (tells plan round at row up) p stop e o
tells_breaks plan round at row up answer p d e stop o a h =
    asks_breaks (put_due plan round row up) answer (told round at row up) p d e stop o a h

pub telling_breaks : (plan : ProbePlan) (round : Round) (at : ℕ) (row : Row) (up : Bool) (p : Stand) (d : DialState)
    → StopsAsking (put_due plan round row up) p.dial d → Breaks (tells plan round at row up) p NoMemory d p.out
telling_breaks plan round at row up p d h =
    asking_breaks (put_due plan round row up) (told round at row up) p d (told_extends round at row up) h

-- ---- a probe was good or bad

module _ (plan : ProbePlan) (round : Round) (at : ℕ) (row : Row) (good : Bool) (rows now : List Watched) (d : DialState) (o : OutTells)
    (is : now ≡ changed at (probed good) rows) where
  wishes : (wish : Option Bool) → wish ≡ wish_at plan.threshold at now → wish_at plan.threshold at (changed at (probed good) rows) ≡ wish
  wishes wish w = ap (wish_at plan.threshold at) (sym is) ∙ sym w

  judged_as : (wish : Option Bool) → wish ≡ wish_at plan.threshold at now → (others : List (Option ℕ)) (calls : _) (before : List ℕ)
      → judged plan round at row good (course rows others calls before) ≡ wished plan round at row wish (course now others calls before)
  judged_as wish w others calls before =
      ap (λ x. wished plan round at row x (course (changed at (probed good) rows) others calls before)) (wishes wish w)
      ∙ ap (λ r. wished plan round at row wish (course r others calls before)) (sym is)

  pub judged_stays : None ≡ wish_at plan.threshold at now → Goes (judged plan round at row good) (stand rows d o) (stand now d o)
  judged_stays w = record {
    contacts = [];
    text = [];
    steps = λ others calls before. judged_as None w others calls before
        ∙ (ap (λ l. course now others l before) (sym (append-nil calls)) ∙ ap (course now others (calls ++ [])) (sym (append-nil before)));
    makes = makes_none d;
    written = appends_none o.written;
    sound = refl;
  }

  pub judged_goes : (up : Bool) (q : Stand) → Some up ≡ wish_at plan.threshold at now
      → Goes (tells plan round at row up) (stand now d o) q → Goes (judged plan round at row good) (stand rows d o) q
  judged_goes up q w h = record {
    contacts = h.contacts;
    text = h.text;
    steps = λ others calls before. judged_as (Some up) w (answers h.contacts ++ others) calls before ∙ h.steps others calls before;
    makes = h.makes;
    written = h.written;
    sound = h.sound;
  }

  pub judged_breaks : (up : Bool) (stop : ProbeStop) (e : DialState) (u : OutTells) → Some up ≡ wish_at plan.threshold at now
      → Breaks (tells plan round at row up) (stand now d o) stop e u → Breaks (judged plan round at row good) (stand rows d o) stop e u
  judged_breaks up stop e u w h = record {
    contacts = h.contacts;
    left = h.left;
    text = h.text;
    begins = λ others calls before.
        subst (BeginsSo (calls ++ (dues h.contacts ++ left_dues h.left)) (before ++ h.text))
        (sym (judged_as (Some up) w (answers h.contacts ++ others) calls before)) (h.begins others calls before);
    makes = h.makes;
    written = h.written;
    stops = h.stops;
  }

-- ---- a service is asked, where it is reached

pub asks_goes : (plan : ProbePlan) (round : Round) (at : ℕ) (row : Row) (address : Option Address) (good : Bool) (p q : Stand) (d : DialState)
    → Probes row address good p.dial d → Goes (judged plan round at row good) (stand p.rows d p.out) q
    → Goes (asks plan round at row address) p q
asks_goes plan round at row None good p q d a h =
    subst (λ b. Goes (judged plan round at row b) p q) a.0
    (subst (λ x. Goes (judged plan round at row good) (stand p.rows x p.out) q) a.1 h)
asks_goes plan round at row (Some address) good p q d a h =
    asks_then (list_due row address) a.0 (λ x. judged plan round at row (is_good x)) p q d a.1
    (subst (λ b. Goes (judged plan round at row b) (stand p.rows d p.out) q) a.2 h)

pub asks_break : (plan : ProbePlan) (round : Round) (at : ℕ) (row : Row) (address : Option Address) (good : Bool) (p : Stand) (d e : DialState)
    (stop : ProbeStop) (o : OutTells) → Probes row address good p.dial d
    → Breaks (judged plan round at row good) (stand p.rows d p.out) stop e o → Breaks (asks plan round at row address) p stop e o
asks_break plan round at row None good p d e stop o a h =
    subst (λ b. Breaks (judged plan round at row b) p stop e o) a.0
    (subst (λ x. Breaks (judged plan round at row good) (stand p.rows x p.out) stop e o) a.1 h)
asks_break plan round at row (Some address) good p d e stop o a h =
    asks_breaks (list_due row address) a.0 (λ x. judged plan round at row (is_good x)) p d e stop o a.1
    (subst (λ b. Breaks (judged plan round at row b) (stand p.rows d p.out) stop e o) a.2 h)

pub asking_broke : (plan : ProbePlan) (round : Round) (at : ℕ) (row : Row) (address : Option Address) (p : Stand) (d : DialState)
    → StopsProbing row address p.dial d → Breaks (asks plan round at row address) p NoMemory d p.out
asking_broke plan round at row None p d h = absurd h
asking_broke plan round at row (Some address) p d h =
    asking_breaks (list_due row address) (λ x. judged plan round at row (is_good x)) p d (λ x. judged_extends plan round at row (is_good x)) h

-- ---- one turn

as_asked : (plan : ProbePlan) (round : Round) (at : ℕ) (row : Row) (service : ServiceRef) (address : Option Address) (c : Course)
    → row.service ≡ Some service → address ≡ endpoint_of plan.endpoints (Some service)
    → turn plan round at row c ≡ asks plan round at row address c
unfolding turn
as_asked plan round at row service address c is there =
    ap (λ s. probes plan round at row s c) is ∙ ap (λ a. asks plan round at row a c) (sym there)

no_service : (plan : ProbePlan) (round : Round) (at : ℕ) (row : Row) (c : Course) → row.service ≡ None → turn plan round at row c ≡ c
unfolding turn
no_service plan round at row c is = ap (λ s. probes plan round at row s c) is

pub turn_stays : (plan : ProbePlan) (round : Round) (at : ℕ) (row : Row) (p : Stand) → row.service ≡ None → Goes (turn plan round at row) p p
turn_stays plan round at row p is =
    goes_same (λ c. c) (turn plan round at row) p p (λ c. no_service plan round at row c is) (goes_nowhere p)

pub turn_goes : (plan : ProbePlan) (round : Round) (at : ℕ) (row : Row) (service : ServiceRef) (address : Option Address) (p q : Stand)
    → row.service ≡ Some service → address ≡ endpoint_of plan.endpoints (Some service) → Goes (asks plan round at row address) p q
    → Goes (turn plan round at row) p q
turn_goes plan round at row service address p q is there h =
    goes_same (asks plan round at row address) (turn plan round at row) p q (λ c. as_asked plan round at row service address c is there) h

pub turn_breaks : (plan : ProbePlan) (round : Round) (at : ℕ) (row : Row) (service : ServiceRef) (address : Option Address) (p : Stand)
    (stop : ProbeStop) (d : DialState) (o : OutTells) → row.service ≡ Some service
    → address ≡ endpoint_of plan.endpoints (Some service) → Breaks (asks plan round at row address) p stop d o
    → Breaks (turn plan round at row) p stop d o
turn_breaks plan round at row service address p stop d o is there h =
    breaks_same (asks plan round at row address) (turn plan round at row) p stop d o
    (λ c. as_asked plan round at row service address c is there) h

-- ---- turns

pub turns_none : (plan : ProbePlan) (round : Round) (rows : List Row) (p : Stand) → TurnsSoFar plan round rows 0 p p
turns_none plan round rows p = record { step = λ c. c; goes = goes_nowhere p; rest = λ c. refl }

next_turn : (plan : ProbePlan) (round : Round) (at : ℕ) (row : Row) (rows others : List Row) (c : Course) → rows ≡ row ∷ others
    → turns plan round at rows c ≡ turns plan round (at + 1) others (turn plan round at row c)
unfolding turns
next_turn plan round at row rows others c is = ap (λ l. turns plan round at l c) is

no_turn : (plan : ProbePlan) (round : Round) (at : ℕ) (rows : List Row) (c : Course) → rows ≡ [] → turns plan round at rows c ≡ c
unfolding turns
no_turn plan round at rows c is = ap (λ l. turns plan round at l c) is

module _ (plan : ProbePlan) (round : Round) (rows : List Row) (at : ℕ) (p q : Stand) (s : TurnsSoFar plan round rows at p q) where
  pub turns_more : (row : Row) (r : Stand) → drop at rows ≡ row ∷ drop (at + 1) rows → Goes (turn plan round at row) q r
      → TurnsSoFar plan round rows (at + 1) p r
  turns_more row r is h = record {
    step = λ c. turn plan round at row (s.step c);
    goes = goes_then s.step (turn plan round at row) p q s.goes r h;
    rest = λ c. s.rest c ∙ next_turn plan round at row (drop at rows) (drop (at + 1) rows) (s.step c) is;
  }

  pub turns_all : length rows ≤ at → Goes (turns plan round 0 rows) p q
  turns_all past = goes_same s.step (turns plan round 0 rows) p q
      (λ c. s.rest c ∙ no_turn plan round at (drop at rows) (s.step c) (drop_all at rows past)) s.goes

  pub turns_broke : (row : Row) (stop : ProbeStop) (d : DialState) (o : OutTells) → drop at rows ≡ row ∷ drop (at + 1) rows
      → Breaks (turn plan round at row) q stop d o → Breaks (turns plan round 0 rows) p stop d o
  turns_broke row stop d o is h =
      let here : Breaks (λ c. turn plan round at row (s.step c)) p stop d o = breaks_then s.step (turn plan round at row) p q s.goes stop d o h in
      let all : Breaks (λ c. turns plan round (at + 1) (drop (at + 1) rows) (turn plan round at row (s.step c))) p stop d o =
      breaks_before (λ c. turn plan round at row (s.step c)) (turns plan round (at + 1) (drop (at + 1) rows)) p stop d o
      (turns_extends plan round (at + 1) (drop (at + 1) rows)) here in
      breaks_same _ (turns plan round 0 rows) p stop d o
      (λ c. s.rest c ∙ next_turn plan round at row (drop at rows) (drop (at + 1) rows) (s.step c) is) all

-- ---- a clock

pub grows_more : (a b c : Option (List ℕ)) (xs ys : List ℕ) → Grows a b xs → Grows b c ys → Grows a c (xs ++ ys)
grows_more None b c xs ys h k = subst (λ (o : Option (List ℕ)). Grows o c ys) h k
grows_more (Some first) None None xs ys h k = tt
grows_more (Some first) None (Some cs) xs ys h k = absurd (cc k)
grows_more (Some first) (Some bs) None xs ys h k = tt
grows_more (Some first) (Some bs) (Some cs) xs ys h k = k ∙ ap (λ l. l ++ ys) h ∙ append_assoc first xs ys

pub grows_none : (a : Option (List ℕ)) → Grows a a []
grows_none None = refl
grows_none (Some first) = sym (append-nil first)

pub one_longer : (moments : List ℕ) (now : ℕ) → length (moments ++ now ∷ []) ≡ suc (length moments)
one_longer moments now =
    let e : length (moments ++ now ∷ []) ≡ length moments + 1 = length-append moments (now ∷ []) in
    omega (arith, e)

pub pace_none : (plan : ProbePlan) (k : PaceTells) → PaceSoFar plan [] k k
pace_none plan k = record { given = grows_none k.given; waits = (refl, refl); noes_are = refl }

-- one moment more was given
module _ (plan : ProbePlan) (moments : List ℕ) (k0 k l : PaceTells) (now : ℕ) (s : PaceSoFar plan moments k0 k)
    (given : Grows k.given l.given (now ∷ [])) where
  pub given_more : Grows k0.given l.given (moments ++ now ∷ [])
  given_more = grows_more k0.given k.given l.given moments (now ∷ []) s.given given

  -- and the clock rested after it
  pub waits_more : l.rests ≡ once_more k.rests → l.asked ≡ asked_once plan.every k.asked → Waits plan (length (moments ++ now ∷ [])) k0 l
  waits_more rests asks =
      let e : length (moments ++ now ∷ []) ≡ suc (length moments) = one_longer moments now in (
        rests ∙ ap once_more s.waits.0 ∙ ap (λ n. rested n k0.rests) (sym e),
        asks ∙ ap (asked_once plan.every) s.waits.1 ∙ ap (λ n. asked_so plan.every n k0.asked) (sym e),
      )

  -- and it didn't rest any more
  pub waits_same : l.rests ≡ k.rests → l.asked ≡ k.asked → Waits plan (length (moments ++ now ∷ []) - 1) k0 l
  waits_same rests asks =
      let e : length moments ≡ length (moments ++ now ∷ []) - 1 = omega (arith, one_longer moments now) in (
        rests ∙ s.waits.0 ∙ ap (λ n. rested n k0.rests) e,
        asks ∙ s.waits.1 ∙ ap (λ n. asked_so plan.every n k0.asked) e,
      )

  pub pace_more : l.rests ≡ once_more k.rests → l.asked ≡ asked_once plan.every k.asked → l.noes ≡ k.noes
      → PaceSoFar plan (moments ++ now ∷ []) k0 l
  pace_more rests asks noes = record { given = given_more; waits = waits_more rests asks; noes_are = noes ∙ s.noes_are }

-- ---- a moment, at which a round begins if one is due

abbrev pub round_at : ℕ → ℕ → Round
round_at number moment = record { number = number; moment = moment }

abbrev due_if : ProbePlan → List Row → Pace → ℕ → Course → Bool → Course
due_if plan rows pace now c due = if due then turns plan (round_at (pace.done + 1) now) 0 rows c else c

abbrev after_if : Pace → ℕ → Bool → Pace
after_if pace now due = if due then (record { done = pace.done + 1; began = Some now }) else pace

module _ (plan : ProbePlan) (rows : List Row) (pace : Pace) (now : ℕ) where
  pub look_stays : (p : Stand) → is_due plan.every pace.began now ≡ false → Goes (look plan rows pace now) p p
  look_stays p e = goes_same (λ c. c) (look plan rows pace now) p p (λ c. ap (due_if plan rows pace now c) e) (goes_nowhere p)

  pub look_goes : (p q : Stand) → is_due plan.every pace.began now ≡ true → Goes (turns plan (round_at (pace.done + 1) now) 0 rows) p q
      → Goes (look plan rows pace now) p q
  look_goes p q e h =
      goes_same (turns plan (round_at (pace.done + 1) now) 0 rows) (look plan rows pace now) p q (λ c. ap (due_if plan rows pace now c) e) h

  pub look_breaks : (p : Stand) (stop : ProbeStop) (d : DialState) (o : OutTells) → is_due plan.every pace.began now ≡ true
      → Breaks (turns plan (round_at (pace.done + 1) now) 0 rows) p stop d o → Breaks (look plan rows pace now) p stop d o
  look_breaks p stop d o e h =
      breaks_same (turns plan (round_at (pace.done + 1) now) 0 rows) (look plan rows pace now) p stop d o
      (λ c. ap (due_if plan rows pace now c) e) h

  pub after_stays : is_due plan.every pace.began now ≡ false → pace ≡ after plan pace now
  after_stays e = sym (ap (after_if pace now) e)

  pub after_begins : is_due plan.every pace.began now ≡ true → after_if pace now true ≡ after plan pace now
  after_begins e = sym (ap (after_if pace now) e)

-- ---- rounds

pub rounds_none : (plan : ProbePlan) (rows : List Row) (p : Stand) → RoundsSoFar plan rows start [] p p
rounds_none plan rows p = record { step = λ c. c; goes = goes_nowhere p; rest = λ later c. refl; pace_is = λ later. refl }

next_look : (plan : ProbePlan) (rows : List Row) (pace : Pace) (now : ℕ) (later : List ℕ) (c : Course)
    → rounds plan rows pace (now ∷ later) c ≡ rounds plan rows (after plan pace now) later (look plan rows pace now c)
unfolding rounds
next_look plan rows pace now later c = refl

no_look : (plan : ProbePlan) (rows : List Row) (pace : Pace) (c : Course) → rounds plan rows pace [] c ≡ c
unfolding rounds
no_look plan rows pace c = refl

next_pace : (plan : ProbePlan) (pace : Pace) (now : ℕ) (later : List ℕ) → paced plan pace (now ∷ later) ≡ paced plan (after plan pace now) later
unfolding paced
next_pace plan pace now later = refl

no_pace : (plan : ProbePlan) (pace : Pace) → paced plan pace [] ≡ pace
unfolding paced
no_pace plan pace = refl

pub made_is : (plan : ProbePlan) (rows : List Row) (pace : Pace) (moments : List ℕ) (p q : Stand) → RoundsSoFar plan rows pace moments p q
    → made plan moments ≡ pace.done
made_is plan rows pace moments p q s =
    let e : paced plan start moments ≡ pace =
    ap (paced plan start) (sym (append-nil moments)) ∙ s.pace_is [] ∙ no_pace plan pace in
    ap (λ (x : Pace). x.done) e

pub rounds_made : (plan : ProbePlan) (rows : List Row) (pace : Pace) (moments : List ℕ) (p q : Stand) (k0 k : PaceTells)
    → RoundsSoFar plan rows pace moments p q → Grows k0.given k.given moments → End plan moments k0 k → RoundsMade plan rows p q k0 k
rounds_made plan rows pace moments p q k0 k s given end = record {
  moments = moments;
  given = given;
  end = end;
  goes = goes_same s.step (rounds plan rows start moments) p q
      (λ c. ap (λ l. rounds plan rows start l c) (sym (append-nil moments)) ∙ s.rest [] c ∙ no_look plan rows pace (s.step c)) s.goes;
}

module _ (plan : ProbePlan) (rows : List Row) (pace : Pace) (moments : List ℕ) (p q : Stand) (s : RoundsSoFar plan rows pace moments p q)
    (now : ℕ) where
  one_more : (later : List ℕ) (c : Course) → rounds plan rows start ((moments ++ now ∷ []) ++ later) c
      ≡ rounds plan rows (after plan pace now) later (look plan rows pace now (s.step c))
  one_more later c =
      ap (λ l. rounds plan rows start l c) (append_assoc moments (now ∷ []) later)
      ∙ s.rest (now ∷ later) c
      ∙ next_look plan rows pace now later (s.step c)

  pub rounds_more : (next : Pace) (r : Stand) → next ≡ after plan pace now → Goes (look plan rows pace now) q r
      → RoundsSoFar plan rows next (moments ++ now ∷ []) p r
  rounds_more next r is h = record {
    step = λ c. look plan rows pace now (s.step c);
    goes = goes_then s.step (look plan rows pace now) p q s.goes r h;
    rest = λ later c. one_more later c ∙ ap (λ (x : Pace). rounds plan rows x later (look plan rows pace now (s.step c))) (sym is);
    pace_is = λ later. ap (paced plan start) (append_assoc moments (now ∷ []) later) ∙ s.pace_is (now ∷ later)
        ∙ next_pace plan pace now later ∙ ap (λ (x : Pace). paced plan x later) (sym is);
  }

  pub rounds_broke : (k0 k l : PaceTells) (stop : ProbeStop) (d : DialState) (o : OutTells) → PaceSoFar plan moments k0 k
      → Grows k.given l.given (now ∷ []) → l.rests ≡ k.rests → l.asked ≡ k.asked → l.noes ≡ k.noes
      → Breaks (look plan rows pace now) q stop d o → RoundsBroke plan rows p stop d o k0 l
  rounds_broke k0 k l stop d o t given rests asks noes h =
      let here : Breaks (λ c. look plan rows pace now (s.step c)) p stop d o = breaks_then s.step (look plan rows pace now) p q s.goes stop d o h in
      record {
        contacts = here.contacts;
        left = here.left;
        text = here.text;
        moments = moments ++ now ∷ [];
        makes = here.makes;
        given = given_more plan moments k0 k l now t given;
        waits = waits_same plan moments k0 k l now t given rests asks;
        noes_are = noes ∙ t.noes_are;
        begins = λ later others calls before.
            let rest = rounds plan rows (after plan pace now) later in
            let c = course p.rows (answers here.contacts ++ others) calls before in
            subst (BeginsSo (calls ++ (dues here.contacts ++ left_dues here.left)) (before ++ here.text)) (sym (one_more later c))
            (begins_before (λ c. look plan rows pace now (s.step c)) rest p stop d o (rounds_extends plan rows (after plan pace now) later) here
            others calls before);
        written = here.written;
        stops = here.stops;
      }

-- ---- a whole run

pub probed_by : (plan : ProbePlan) (rows : List Row) (refused : Bool) (d0 d : DialState) (o0 o : OutTells) (k0 k : PaceTells) (q : List Watched)
    → refused ≡ any_refused q → RoundsMade plan rows (stand (opened rows) d0 o0) (stand q d o) k0 k
    → Probed plan rows refused d0 d o0 o k0 k
unfolding probe_run
probed_by plan rows refused d0 d o0 o k0 k q is m =
    let h = m.goes in
    let ends : probe_run plan rows m.moments (answers h.contacts) ≡ course q [] (dues h.contacts) h.text =
    ap (λ l. rounds plan rows start m.moments (beginning rows l)) (sym (append-nil (answers h.contacts))) ∙ h.steps [] [] [] in
    record {
      contacts = h.contacts;
      moments = m.moments;
      makes = h.makes;
      given = m.given;
      end = m.end;
      calls_are = ap (λ (c : Course). c.calls) ends;
      none_left = ap (λ (c : Course). c.answers) ends;
      written = subst (Appends o0.written o.written) (ap (λ (c : Course). c.text) (sym ends)) h.written;
      refused_is = ap (λ (c : Course). any_refused c.rows) ends ∙ sym is;
      sound = h.sound;
    }

pub probed_part : (plan : ProbePlan) (rows : List Row) (stop : ProbeStop) (d0 d : DialState) (o0 o : OutTells) (k0 k : PaceTells)
    → RoundsBroke plan rows (stand (opened rows) d0 o0) stop d o k0 k → ProbedPart plan rows stop d0 d o0 o k0 k
unfolding probe_run
probed_part plan rows stop d0 d o0 o k0 k h = record {
  contacts = h.contacts;
  left = h.left;
  text = h.text;
  moments = h.moments;
  makes = h.makes;
  given = h.given;
  waits = h.waits;
  noes_are = h.noes_are;
  begins = λ more later. h.begins later more [] [];
  written = h.written;
  stops = h.stops;
}

-- memory ran out before the first call
pub none_probed : (plan : ProbePlan) (rows : List Row) (d : DialState) (o : OutTells) (k : PaceTells) → ProbedPart plan rows NoMemory d d o o k k
unfolding probe_run
none_probed plan rows d o k = record {
  contacts = [];
  left = None;
  text = [];
  moments = [];
  makes = part_of [] d d (makes_none d);
  given = grows_none k.given;
  waits = (refl, refl);
  noes_are = refl;
  begins = λ more later. rounds_extends plan rows start later (beginning rows more);
  written = appends_none o.written;
  stops = refl;
}
