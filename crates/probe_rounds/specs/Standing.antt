-- What a run has made of its ports.
use Rattle.std.specs.Prelude.{◌≡◌, ◌<◌, ◌≤◌, ◌⊎◌, ℕ, ◌+◌, ◌-◌, ◌^◌, Bool, false, List, [], ◌++◌, drop, length, Option, Some, None}
use Rattle.std.specs.Io.KnownBytes.{Appends}
use Rattle.apiservice_rows.specs.Row.{Row}
use Rattle.avail_probe.specs.Watching.{Watched, any_refused}
use Rattle.front_base.specs.declared.address.Address.{Address}
use Rattle.front_ports.specs.Cause.{Rose}
use Rattle.front_ports.specs.Told.{Grows}
use Rattle.front_ports.specs.Written.{AppendsFront}
use Rattle.front_ports.specs.declared.dial.Call.{Call}
use Rattle.service_calls.specs.Calls.{DialState, Due}
use Rattle.service_calls.specs.Contacts.{Asks, Contact, Left, LeavesOff, Makes, MakesPart, answers, dues, is_good, left_dues}
use Rattle.probe_rounds.specs.Pace.{asked_so, paced, rested, start}
use Rattle.probe_rounds.specs.Rounds.{Course, list_due, probe_run, rounds, turns}
use Rattle.probe_rounds.specs.declared.pace.Pace.{Pace}
use Rattle.probe_rounds.specs.declared.plan.ProbePlan.{ProbePlan}
use Rattle.probe_rounds.specs.declared.round.Round.{Round}
use Rattle.probe_rounds.specs.declared.stop.ProbeStop.{ProbeStop}
use Rattle.probe_rounds.specs.declared.stop.ProbeStop.TheVariants.{WriteFault, NoMemory}

-- what an output tells: what was written, and how often a write failed
pub record OutTells : Type 0 where
  pub written : Option (List ℕ)
  pub faults : ℕ

-- what a clock tells: the moments that it gave, and how often it rested; and how often somebody was asked whether rounds go on, and answered
-- that they don't
pub record PaceTells : Type 0 where
  pub given : Option (List ℕ)
  pub rests : ℕ
  pub asked : ℕ
  pub noes : ℕ

-- the clock rested so often, and after each rest it was asked whether rounds go on, where a time was told
abbrev pub Waits : ProbePlan → ℕ → PaceTells → PaceTells → Type 0
Waits plan count k0 k = (k.rests ≡ rested count k0.rests) × (k.asked ≡ asked_so plan.every count k0.asked)

-- how many rounds have begun by these moments
abbrev pub made : ProbePlan → List ℕ → ℕ
made plan moments = (paced plan start moments).done

-- why no more round begins: all were made; or they don't go on, as was answered after the last rest; or the clock has given as many moments
-- as it may be asked for
pub record AllMade (plan : ProbePlan) (moments : List ℕ) (k0 k : PaceTells) : Type 0 where
  pub count : made plan moments ≡ plan.rounds
  pub waits : Waits plan (length moments - 1) k0 k
  pub noes_are : k.noes ≡ k0.noes

pub record Stopped (plan : ProbePlan) (moments : List ℕ) (k0 k : PaceTells) : Type 0 where
  pub count : made plan moments < plan.rounds
  pub every : 1 ≤ plan.every
  pub waits : Waits plan (length moments) k0 k
  pub said : Rose k0.noes k.noes

pub record Spent (plan : ProbePlan) (moments : List ℕ) (k0 k : PaceTells) : Type 0 where
  pub count : made plan moments < plan.rounds
  pub moments_are : length moments ≡ 2 ^ 64 - 1
  pub waits : Waits plan (length moments) k0 k
  pub noes_are : k.noes ≡ k0.noes

abbrev pub End : ProbePlan → List ℕ → PaceTells → PaceTells → Type 0
End plan moments k0 k = AllMade plan moments k0 k ⊎ (Stopped plan moments k0 k ⊎ Spent plan moments k0 k)

-- a whole run: the calls of the dial are those of the run, each with its answer, its lines were written, and what was told of some row last
-- wasn't taken, or was of all
pub record Probed (plan : ProbePlan) (rows : List Row) (refused : Bool) (d0 d : DialState) (o0 o : OutTells) (k0 k : PaceTells) : Type 0 where
  pub contacts : List Contact
  pub moments : List ℕ
  pub makes : Makes contacts d0 d
  pub given : Grows k0.given k.given moments
  pub end : End plan moments k0 k
  pub calls_are : (probe_run plan rows moments (answers contacts)).calls ≡ dues contacts
  pub none_left : (probe_run plan rows moments (answers contacts)).answers ≡ []
  pub written : Appends o0.written o.written (probe_run plan rows moments (answers contacts)).text
  pub refused_is : any_refused (probe_run plan rows moments (answers contacts)).rows ≡ refused
  pub sound : o.faults ≡ o0.faults

-- a list begins so
abbrev pub Begins : {T : Type 0} → List T → List T → Type 0
Begins {T = T} front whole = (rest : List T) × (whole ≡ front ++ rest)

-- a course that has made these calls first, and has written this first
abbrev pub BeginsSo : List Due → List ℕ → Course → Type 0
BeginsSo calls text c = Begins calls c.calls × Begins text c.text

-- why it stopped
abbrev pub StopsBy : ProbeStop → OutTells → OutTells → Type 0
StopsBy WriteFault o0 o = Rose o0.faults o.faults
StopsBy NoMemory o0 o = o.faults ≡ o0.faults

-- a run that stopped in a round, or before the first: whatever the answers of more calls and the moments that the clock gives then would be,
-- the run's first calls were made, the last of which may have been left off, and a prefix of its text was written
pub record ProbedPart (plan : ProbePlan) (rows : List Row) (stop : ProbeStop) (d0 d : DialState) (o0 o : OutTells) (k0 k : PaceTells) : Type 0 where
  pub contacts : List Contact
  pub left : Option Left
  pub text : List ℕ
  pub moments : List ℕ
  pub makes : MakesPart contacts left d0 d
  pub given : Grows k0.given k.given moments
  pub waits : Waits plan (length moments - 1) k0 k
  pub noes_are : k.noes ≡ k0.noes
  pub begins : (more : List (Option ℕ)) (later : List ℕ)
      → BeginsSo (dues contacts ++ left_dues left) text (probe_run plan rows (moments ++ later) (answers contacts ++ more))
  pub written : Appends o0.written o.written text
  pub stops : StopsBy stop o0 o

-- ---- for private clauses

-- what a run has so far
pub record Stand : Type 0 where
  pub rows : List Watched
  pub dial : DialState
  pub out : OutTells

-- a course at these rows
abbrev pub course : List Watched → List (Option ℕ) → List Due → List ℕ → Course
course rows answers calls text = record { rows = rows; answers = answers; calls = calls; text = text }

-- these calls and this text are what the step makes of each course at these rows, whose next answers are those of the calls
pub record Goes (step : Course → Course) (p q : Stand) : Type 0 where
  pub contacts : List Contact
  pub text : List ℕ
  pub steps : (others : List (Option ℕ)) (calls : List Due) (before : List ℕ)
      → step (course p.rows (answers contacts ++ others) calls before) ≡ course q.rows others (calls ++ dues contacts) (before ++ text)
  pub makes : Makes contacts p.dial q.dial
  pub written : Appends p.out.written q.out.written text
  pub sound : q.out.faults ≡ p.out.faults

-- the step begins so, and these calls and this text are a part of what it makes
pub record Breaks (step : Course → Course) (p : Stand) (stop : ProbeStop) (d : DialState) (o : OutTells) : Type 0 where
  pub contacts : List Contact
  pub left : Option Left
  pub text : List ℕ
  pub begins : (others : List (Option ℕ)) (calls : List Due) (before : List ℕ)
      → BeginsSo (calls ++ (dues contacts ++ left_dues left)) (before ++ text) (step (course p.rows (answers contacts ++ others) calls before))
  pub makes : MakesPart contacts left p.dial d
  pub written : Appends p.out.written o.written text
  pub stops : StopsBy stop p.out o

-- a step makes calls more and writes more
abbrev pub Extends : (Course → Course) → Type 0
Extends step = (c : Course) → BeginsSo c.calls c.text (step c)

-- so many turns of a round were taken, and the others make the whole round of it
pub record TurnsSoFar (plan : ProbePlan) (round : Round) (rows : List Row) (at : ℕ) (p q : Stand) : Type 0 where
  pub step : Course → Course
  pub goes : Goes step p q
  pub rest : (c : Course) → turns plan round 0 rows c ≡ turns plan round at (drop at rows) (step c)

-- these moments were given, and the others make the whole run of it
pub record RoundsSoFar (plan : ProbePlan) (rows : List Row) (pace : Pace) (moments : List ℕ) (p q : Stand) : Type 0 where
  pub step : Course → Course
  pub goes : Goes step p q
  pub rest : (later : List ℕ) (c : Course) → rounds plan rows start (moments ++ later) c ≡ rounds plan rows pace later (step c)
  pub pace_is : (later : List ℕ) → paced plan start (moments ++ later) ≡ paced plan pace later

-- so far the clock gave these moments and rested after each, and rounds go on
pub record PaceSoFar (plan : ProbePlan) (moments : List ℕ) (k0 k : PaceTells) : Type 0 where
  pub given : Grows k0.given k.given moments
  pub waits : Waits plan (length moments) k0 k
  pub noes_are : k.noes ≡ k0.noes

-- all rounds were made, or no more begins
pub record RoundsMade (plan : ProbePlan) (rows : List Row) (p q : Stand) (k0 k : PaceTells) : Type 0 where
  pub moments : List ℕ
  pub given : Grows k0.given k.given moments
  pub end : End plan moments k0 k
  pub goes : Goes (rounds plan rows start moments) p q

-- they broke off in a round that began at the last of these moments
pub record RoundsBroke (plan : ProbePlan) (rows : List Row) (p : Stand) (stop : ProbeStop) (d : DialState) (o : OutTells) (k0 k : PaceTells) : Type 0 where
  pub contacts : List Contact
  pub left : Option Left
  pub text : List ℕ
  pub moments : List ℕ
  pub makes : MakesPart contacts left p.dial d
  pub given : Grows k0.given k.given moments
  pub waits : Waits plan (length moments - 1) k0 k
  pub noes_are : k.noes ≡ k0.noes
  pub begins : (later : List ℕ) (others : List (Option ℕ)) (calls : List Due) (before : List ℕ)
      → BeginsSo (calls ++ (dues contacts ++ left_dues left)) (before ++ text)
      (rounds plan rows start (moments ++ later) (course p.rows (answers contacts ++ others) calls before))
  pub written : Appends p.out.written o.written text
  pub stops : StopsBy stop p.out o

-- a service was asked, where it is reached, and its probe was good or bad by the answer
abbrev pub Probes : Row → Option Address → Bool → DialState → DialState → Type 0
Probes row None good p q = (good ≡ false) × (q ≡ p)
Probes row (Some address) good p q = (answer : Option ℕ) × Asks (list_due row address) answer p q × (good ≡ is_good answer)

-- memory ran out before the call or before its answer
abbrev pub StopsAsking : Due → DialState → DialState → Type 0
StopsAsking due p q = (q ≡ p) ⊎ LeavesOff due p q

abbrev pub StopsProbing : Row → Option Address → DialState → DialState → Type 0
StopsProbing row None p q = ⊥
StopsProbing row (Some address) p q = StopsAsking (list_due row address) p q

-- a text was written, or a front of it
abbrev pub WritesFront : List ℕ → ProbeStop → OutTells → OutTells → Type 0
WritesFront text stop o0 o = AppendsFront o0.written o.written text × StopsBy stop o0 o

abbrev pub pace_tells : Option (List ℕ) → ℕ → ℕ → ℕ → PaceTells
pace_tells given rests asked noes = record { given = given; rests = rests; asked = asked; noes = noes }

abbrev pub out_tells : Option (List ℕ) → ℕ → OutTells
out_tells written faults = record { written = written; faults = faults }

abbrev pub stand : List Watched → DialState → OutTells → Stand
stand rows dial out = record { rows = rows; dial = dial; out = out }
