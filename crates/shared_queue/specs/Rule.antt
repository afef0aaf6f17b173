-- The rule of the queue. A pass that pushes is a lane: it knows its bay and what it accepted. A pass that pops knows what
-- was taken. The maker knows how many lanes it made, and those that ended.
use Rattle.std.specs.Prelude.{◌≡◌, ℕ, ◌+◌, ◌≤◌, ◌<◌, true, false, List, [], ◌∷◌, ◌++◌, ◌⊎◌, length, get_or, sum}
use mathlib.Core.Option.{Option, some, none}
use lib.ListN.{get_elem?}
use Rattle.front_base.specs.Line.{Line}
use Rattle.shared_queue.specs.Bays.{of_bay}
use Rattle.shared_queue.specs.declared.views.EndedLane.{EndedLane}
use Rattle.shared_queue.specs.declared.views.View.{View}

-- the view of a queue's first pass: it makes the lanes, and pops until an outlet is split from it
abbrev pub opening : View
opening = record { makes = true; pushes = false; pops = true; bay = 0; accepted = []; taken = []; made = 0; allotments = []; ended = [] }

-- a view that a join left behind
abbrev pub spent : View
spent = record { makes = false; pushes = false; pops = false; bay = 0; accepted = []; taken = []; made = 0; allotments = []; ended = [] }

-- after a push, and after a pop
abbrev pub pushed : View → Line → View
pushed v x = record v { accepted = v.accepted ++ x ∷ [] }

abbrev pub popped : View → Line → View
popped v x = record v { taken = v.taken ++ x ∷ [] }

-- the maker takes the allotments of all lanes, before it makes the first one
abbrev pub with_allotments : List ℕ → View → View
with_allotments allotments v = record v { allotments = allotments }

-- the maker and the lane that it made
abbrev pub with_lane : View → View
with_lane v = record v { made = v.made + 1 }

abbrev pub new_lane : View → View
new_lane v = record spent { pushes = true; bay = v.made; allotments = v.allotments }

-- the maker and the outlet that left it
abbrev pub without_outlet : View → View
without_outlet v = record v { pops = false; taken = [] }

abbrev pub new_outlet : View → View
new_outlet v = record spent { pops = true; taken = v.taken; allotments = v.allotments }

-- the maker after a lane came back, and after the outlet did
abbrev pub end_of : View → EndedLane
end_of w = record { bay = w.bay; accepted = w.accepted }

abbrev pub with_ended : View → View → View
with_ended v w = record v { ended = v.ended ++ end_of w ∷ [] }

abbrev pub with_outlet : View → View → View
with_outlet v w = record v { pops = true; taken = w.taken }

-- the maker after it made n lanes
abbrev pub maker_at : List ℕ → ℕ → View
maker_at allotments n = record (without_outlet (with_allotments allotments opening)) { made = n }

-- a lane that accepted nothing yet
abbrev pub lane_at : List ℕ → ℕ → View
lane_at allotments n = record spent { pushes = true; bay = n; allotments = allotments }

-- a living lane has the one seat of its bay, and knows all lines of its bay that were pushed
pub record FitsLane (allotments : List ℕ) (seat : ℕ → Option ℕ) (all : List Line) (pass : ℕ) (v : View) : Type 0 where
  pub same : v.allotments ≡ allotments
  pub seated : seat v.bay ≡ some pass
  pub accepted : v.accepted ≡ of_bay v.bay all

-- there is one pass that pops, and it knows what was taken
pub record FitsOutlet (reader : ℕ) (got : List Line) (pass : ℕ) (v : View) : Type 0 where
  pub reads : pass ≡ reader
  pub taken : v.taken ≡ got

-- a lane that ended has no seat
pub record FitsEnded (seat : ℕ → Option ℕ) (all : List Line) (e : EndedLane) : Type 0 where
  pub unseated : seat e.bay ≡ none
  pub accepted : e.accepted ≡ of_bay e.bay all

-- a bay that was given out has a seat, or stands among the ended ones. One that was not given out has no seat and no line
pub record FitsMaker (allotments : List ℕ) (maker : ℕ) (seat : ℕ → Option ℕ) (all : List Line) (pass : ℕ) (v : View) : Type 0 where
  pub same : v.allotments ≡ allotments
  pub makes : pass ≡ maker
  pub later : (b : ℕ) → v.made ≤ b → (seat b ≡ none) × (of_bay b all ≡ [])
  pub given : (b : ℕ) → b < v.made → ((p : ℕ) × (seat b ≡ some p)) ⊎ ((k : ℕ) × (e : EndedLane) × (get_elem? v.ended k ≡ some e) × (e.bay ≡ b))
  pub each : (k : ℕ) (e : EndedLane) → get_elem? v.ended k ≡ some e → (e.bay < v.made) × FitsEnded seat all e

pub record Fits (allotments : List ℕ) (maker reader : ℕ) (seat : ℕ → Option ℕ) (got all : List Line) (pass : ℕ) (v : View) : Type 0 where
  pub lane : v.pushes ≡ true → FitsLane allotments seat all pass v
  pub outlet : v.pops ≡ true → FitsOutlet reader got pass v
  pub maker_is : v.makes ≡ true → FitsMaker allotments maker seat all pass v

-- who has a seat is a living lane of that bay
abbrev pub Alive : (ℕ → Option ℕ) → List View → Type 0
Alive seat views = (b p : ℕ) → seat b ≡ some p → (v : View) × (get_elem? views p ≡ some v) × (v.pushes ≡ true) × (v.bay ≡ b)

-- the pushed lines are those that were taken and then those that the queue holds; of each bay they are within its allotment
pub record Kept (items : List Line) (views : List View) : Type 0 where
  pub allotments : List ℕ
  pub maker : ℕ
  pub reader : ℕ
  pub seat : ℕ → Option ℕ
  pub got : List Line
  pub fits : (pass : ℕ) (v : View) → get_elem? views pass ≡ some v → Fits allotments maker reader seat got (got ++ items) pass v
  pub alive : Alive seat views
  pub within : (b : ℕ) → length (of_bay b (got ++ items)) ≤ get_or allotments b 0

-- one more line is within the lane's allotment
abbrev pub MayPush : View → Type 0
MayPush v = length v.accepted < get_or v.allotments v.bay 0

-- what a lane learns where its push was refused: the queue's lines are at most its own accepted ones and the others' allotments
abbrev pub Crowded : View → List Line → Type 0
Crowded v items = length items + get_or v.allotments v.bay 0 ≤ length v.accepted + sum v.allotments

-- what the pass that makes and pops learns: what each lane accepted is what was taken of it and what is left of it
pub record Accounts (v : View) (items : List Line) : Type 0 where
  pub ended : (k : ℕ) (e : EndedLane) → get_elem? v.ended k ≡ some e → e.accepted ≡ of_bay e.bay (v.taken ++ items)
  pub later : (b : ℕ) → v.made ≤ b → of_bay b (v.taken ++ items) ≡ []
