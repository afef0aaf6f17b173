-- What is left of a queue once all lanes have ended.
use Rattle.std.specs.Prelude.{◌≡◌, ◌≤◌, ℕ, List, [], ◌++◌, length, drop, map, get_or, IfSome}
use mathlib.Core.Option.{some}
use lib.ListN.{get_elem?}
use Rattle.front_base.specs.Line.{Line}
use Rattle.truncate_backend.specs.Outlets.{OutletTells, count_all}
use Rattle.shared_queue.specs.Bays.{of_bay}
use Rattle.shared_queue.specs.declared.views.EndedLane.{EndedLane}
use Rattle.shared_queue.specs.declared.views.View.{View}

-- the lines of an ended lane that are still there: those that it accepted after the ones that were taken
abbrev pub left_of : List Line → EndedLane → List Line
left_of taken e = drop (length (of_bay e.bay taken)) e.accepted

-- what is left of each ended lane, and what each accepted
abbrev pub lefts : View → List (List Line)
lefts v = map (left_of v.taken) v.ended

abbrev pub accepts : View → List (List Line)
accepts v = map (λ (e : EndedLane). e.accepted) v.ended

-- all lanes ended, in the order of their bays
pub record AllEnded (v : View) : Type 0 where
  pub count : length v.ended ≡ v.made
  pub places : (k : ℕ) (e : EndedLane) → get_elem? v.ended k ≡ some e → e.bay ≡ k

-- Each bay's accepted lines are its lines among those that were taken, and then those that are left of it. A number that is
-- no bay has no lines: none was taken and none is left. Each list of what is left has lines of that bay alone, and all of
-- these lists together have at most so many lines
pub record EndParts (accepted : List (List Line)) (taken : List Line) (left : List (List Line)) (capacity : ℕ) : Type 0 where
  pub count : length left ≡ length accepted
  pub parts : (bay : ℕ) → get_or accepted bay [] ≡ of_bay bay taken ++ get_or left bay []
  pub own : (bay : ℕ) → of_bay bay (get_or left bay []) ≡ get_or left bay []
  pub within : count_all left ≤ capacity

-- what an outlet tells accounts for these accepted lists, where it tells both what was taken and what is left
abbrev pub TellsParts : List (List Line) → ℕ → OutletTells → Type 0
TellsParts accepted capacity m =
    IfSome m.taken (λ taken. IfSome m.left (λ left. EndParts accepted taken left capacity))
