-- What a flush does: pumps one after another, until a pop gives no line, and the put of what waits then.
use Rattle.std.specs.Prelude.{◌≡◌, ◌≤◌, ◌+◌, ◌-◌, ◌*◌, ◌^◌, min, ℕ, List, [], ◌∷◌, ◌++◌, length, All, is_some, true, false}
use Rattle.front_base.specs.Line.{Line}
use Rattle.truncate_backend.specs.Tries.{Try, SinkTells}
use Rattle.truncate_backend.specs.Outlets.{OutletTells, NoneLeft, count_left}
use Rattle.batch_backend.specs.declared.pumped.Pumped.{Pumped}
use Rattle.batch_backend.specs.Batches.{Drained}
use Rattle.batch_backend.specs.Closes.{Times, AllEnd, AllButLastEnd, IsPutAt}
use Rattle.batch_backend.specs.Pumps.{Put, PumpedAs, Moved, wrote, lost, is_rest}

-- pumps at one moment, with these answers, of which the last one stands first
abbrev pub Pumps : List Pumped → Drained → ℕ → OutletTells → SinkTells → Drained → OutletTells → SinkTells → Type 0
Pumps [] d now o s e n t = (e ≡ d) × (n ≡ o) × (t ≡ s)
Pumps (answer ∷ before) d now o s e n t =
    (f : Drained) × ((m : OutletTells) × ((u : SinkTells) × (Pumps before d now o s f m u × PumpedAs f now m u answer e n t)))

-- what waits is put, if any line does
abbrev pub PutRest : List Line → SinkTells → SinkTells → Type 0
PutRest [] s t = t ≡ s
PutRest (l ∷ ls) s t = (answer : Pumped) × Put s (l ∷ ls) answer t

-- the last pump's pop gave no line, and those before gave one or put what was due. There are at most twice as many pumps
-- as lines are left, and two more
pub record FlushedAs (d : Drained) (now : ℕ) (o : OutletTells) (s : SinkTells) (n : OutletTells) (t : SinkTells) : Type 0 where
  pub before : List Pumped
  pub last : Pumped
  pub between : Drained
  pub tells : SinkTells
  pub pumps : Pumps (last ∷ before) d now o s between n tells
  pub rested : is_rest last ≡ true
  pub went_on : All (λ (answer : Pumped). is_rest answer ≡ false) before
  pub few : length (last ∷ before) ≤ 2 * count_left o.left + 2
  pub put : PutRest between.pending.lines tells t

-- so many lines were written and so many lost, as far as these numbers fit their type. Each try but the last one ended for its
-- number, its bytes or its age
pub record FlushMoved (d : Drained) (now : ℕ) (o : OutletTells) (s : SinkTells) (answer : ℕ × ℕ) (e : Drained) (n : OutletTells) (t : SinkTells) : Type 0 where
  pub written : ℕ
  pub lost : ℕ
  pub moved : Moved d o s written lost e n t
  pub written_is : answer.0 ≡ min written (2 ^ 64 - 1)
  pub lost_is : answer.1 ≡ min lost (2 ^ 64 - 1)
  pub times : List Times
  pub put : All (IsPutAt now d.pending) times
  pub ends : (before : List Try) (earlier : List Times) → AllEnd d.limits before earlier d.pending.lines
      → AllButLastEnd d.limits (before ++ moved.tries) (earlier ++ times)

-- how many lines these answers say that were written, and lost
abbrev pub written_of : List Pumped → ℕ
written_of [] = 0
written_of (answer ∷ before) = written_of before + wrote answer

abbrev pub lost_of : List Pumped → ℕ
lost_of [] = 0
lost_of (answer ∷ before) = lost_of before + lost answer

-- how much there is still to do: two pumps a line, and one more where lines wait
abbrev pub work_left : Drained → OutletTells → ℕ
work_left d o = count_left o.left + count_left o.left + min 1 (length d.pending.lines)

-- so far: each pump gave a line or put what was due, and left less to do
pub record PumpedOn (d : Drained) (now : ℕ) (o : OutletTells) (s : SinkTells) (written unwritten : ℕ) (e : Drained) (n : OutletTells) (t : SinkTells) : Type 0 where
  pub answers : List Pumped
  pub pumps : Pumps answers d now o s e n t
  pub went_on : All (λ (answer : Pumped). is_rest answer ≡ false) answers
  pub few : length answers + work_left e n ≤ work_left d o
  pub told : is_some n.left ≡ true
  pub written_is : written ≡ min (written_of answers) (2 ^ 64 - 1)
  pub lost_is : unwritten ≡ min (lost_of answers) (2 ^ 64 - 1)

-- until a pop gave no line
pub record PumpedOut (d : Drained) (now : ℕ) (o : OutletTells) (s : SinkTells) (written unwritten : ℕ) (e : Drained) (n : OutletTells) (t : SinkTells) : Type 0 where
  pub before : List Pumped
  pub last : Pumped
  pub pumps : Pumps (last ∷ before) d now o s e n t
  pub rested : is_rest last ≡ true
  pub went_on : All (λ (answer : Pumped). is_rest answer ≡ false) before
  pub few : length (last ∷ before) ≤ 2 * count_left o.left + 2
  pub left : (is_some n.left ≡ true) × NoneLeft n.left
  pub written_is : written ≡ min (written_of (last ∷ before)) (2 ^ 64 - 1)
  pub lost_is : unwritten ≡ min (lost_of (last ∷ before)) (2 ^ 64 - 1)
