-- What one pump does.
use Rattle.std.specs.Prelude.{◌≡◌, ◌<◌, ◌≤◌, ◌+◌, ℕ, List, [], ◌∷◌, ◌++◌, length, Option, Some, None, IfSome, Ok, Err, ⊤, Bool, true, false, ◌⊎◌, if◌then◌else◌, All}
use Rattle.front_base.specs.Line.{Line}
use Rattle.truncate_backend.specs.Told.{Joined, CountsBy}
use Rattle.truncate_backend.specs.Tries.{Try, SinkTells, Tried, IsNoted, lines_of, done_of, faults_in, refusals_in}
use Rattle.truncate_backend.specs.Outlets.{OutletTells, Popped}
use Rattle.truncate_backend.specs.declared.tries.SinkFault.{SinkFault}
use Rattle.batch_backend.specs.declared.pumped.Pumped.{Pumped}
use Rattle.batch_backend.specs.declared.pumped.Pumped.TheVariants.{Took, Wrote, Lost, Waiting, Idle}
use Rattle.batch_backend.specs.Batches.{Pending, Drained, is_any, is_due, after_pop, WithinLimits, IsBatch, PendsWithin}
use Rattle.batch_backend.specs.Closes.{EndsAt}

-- one put of these lines
abbrev pub Put : SinkTells → List Line → Pumped → SinkTells → Type 0
Put s lines (Wrote n) t = (n ≡ length lines) × Tried s lines (Ok tt) t
Put s lines (Lost n) t = (n ≡ length lines) × ((e : SinkFault) × Tried s lines (Err e) t)
Put s lines Took t = ⊥
Put s lines Waiting t = ⊥
Put s lines Idle t = ⊥

-- what is answered where nothing is put
abbrev pub rests : Pending → Option Line → Pumped
rests p None = (if is_any p.lines then Waiting else Idle)
rests p (Some x) = Took

-- the put after a pop, if there is one
abbrev pub PutAfter : Pending → Option Line → SinkTells → List Line → Pumped → SinkTells → Type 0
PutAfter p popped s [] answer t = (answer ≡ rests p popped) × (t ≡ s)
PutAfter p popped s (l ∷ ls) answer t = Put s (l ∷ ls) answer t

-- first: what has waited long enough is put, and nothing is popped
pub record PumpedDue (d : Drained) (now : ℕ) (o : OutletTells) (s : SinkTells) (answer : Pumped) (e : Drained) (n : OutletTells) (t : SinkTells) : Type 0 where
  pub due : is_due d.limits now d.pending ≡ true
  pub limits : e.limits ≡ d.limits
  pub left : e.pending ≡ record { lines = []; since = d.pending.since }
  pub outlet : n ≡ o
  pub put : Put s d.pending.lines answer t
  pub within : WithinLimits d.limits d.pending.lines

-- else: one pop, and what follows from it
pub record PumpedPop (d : Drained) (now : ℕ) (o : OutletTells) (s : SinkTells) (answer : Pumped) (e : Drained) (n : OutletTells) (t : SinkTells) : Type 0 where
  pub due : is_due d.limits now d.pending ≡ false
  pub line : Option Line
  pub popped : Popped o line n
  pub limits : e.limits ≡ d.limits
  pub left : e.pending ≡ (after_pop d.limits now d.pending line).left
  pub put : PutAfter d.pending line s (after_pop d.limits now d.pending line).put answer t
  pub within : IsBatch d.limits (after_pop d.limits now d.pending line).put

abbrev pub PumpedAs : Drained → ℕ → OutletTells → SinkTells → Pumped → Drained → OutletTells → SinkTells → Type 0
PumpedAs d now o s answer e n t = PumpedDue d now o s answer e n t ⊎ PumpedPop d now o s answer e n t

-- what a drainer does with a line that was popped
pub record Takes (d : Drained) (now : ℕ) (x : Line) (s : SinkTells) (answer : Pumped) (e : Drained) (t : SinkTells) : Type 0 where
  pub limits : e.limits ≡ d.limits
  pub left : e.pending ≡ (after_pop d.limits now d.pending (Some x)).left
  pub put : PutAfter d.pending (Some x) s (after_pop d.limits now d.pending (Some x)).put answer t
  pub within : IsBatch d.limits (after_pop d.limits now d.pending (Some x)).put

-- how many lines an answer says that were written, and lost
abbrev pub wrote : Pumped → ℕ
wrote Took = 0
wrote (Wrote n) = n
wrote (Lost n) = 0
wrote Waiting = 0
wrote Idle = 0

abbrev pub lost : Pumped → ℕ
lost Took = 0
lost (Wrote n) = 0
lost (Lost n) = n
lost Waiting = 0
lost Idle = 0

-- whether its pop gave no line
abbrev pub is_rest : Pumped → Bool
is_rest Took = false
is_rest (Wrote n) = false
is_rest (Lost n) = false
is_rest Waiting = true
is_rest Idle = true

-- ---- where lines go

-- a sink counted one fault for each try that ended by a call that failed, and one refusal for each that was refused or had an answer
-- that isn't HTTP
pub record CountsTries (s : SinkTells) (tries : List Try) (t : SinkTells) : Type 0 where
  pub faults : CountsBy s.faults (faults_in tries) t.faults
  pub refusals : CountsBy s.refusals (refusals_in tries) t.refusals

-- some tries and some pops: the lines of the tries, joined, followed by those that wait now, are those that waited,
-- followed by those that were popped. So many lines of the tries were written, and so many lost. Each try is noted as it was
pub record Moved (d : Drained) (o : OutletTells) (s : SinkTells) (written lost : ℕ) (e : Drained) (n : OutletTells) (t : SinkTells) : Type 0 where
  pub limits : e.limits ≡ d.limits
  pub tries : List Try
  pub popped : List Line
  pub joined : Joined s.tries tries t.tries
  pub taken : Joined o.taken popped n.taken
  pub all : lines_of tries ++ e.pending.lines ≡ d.pending.lines ++ popped
  pub within : All (λ (t : Try). WithinLimits d.limits t.lines) tries
  pub text_is : t.text ≡ s.text
  pub noted : All (IsNoted s.text) tries
  pub were_written : length (done_of tries) ≡ written
  pub were_lost : length (done_of tries) + lost ≡ length (lines_of tries)
  pub counted : CountsTries s tries t

-- pumps at one moment moved these, and each batch has a reason to end
pub record PumpMoved (d : Drained) (now : ℕ) (o : OutletTells) (s : SinkTells) (written lost : ℕ) (e : Drained) (n : OutletTells) (t : SinkTells) : Type 0 where
  pub moved : Moved d o s written lost e n t
  pub aged : EndsAt d.limits now d.pending moved.tries e.pending

-- the tries' lines joined, followed by what waits, are what was taken, where both are told
abbrev pub InParts : Option (List Try) → List Line → Option (List Line) → Type 0
InParts None pending taken = ⊤
InParts (Some tries) pending None = ⊤
InParts (Some tries) pending (Some taken) = taken ≡ lines_of tries ++ pending

-- what holds of a drainer, its sink and its outlet from the start on: no line is lost on the way or comes twice, each try
-- is within the limits, and so is what waits
pub record BatchParts (d : Drained) (tries : Option (List Try)) (taken : Option (List Line)) : Type 0 where
  pub joined : InParts tries d.pending.lines taken
  pub each : IfSome tries (All (λ (t : Try). WithinLimits d.limits t.lines))
  pub pending : PendsWithin d.limits d.pending.lines
