-- Which queue a lane, an outlet or an end belongs to.
use Rattle.std.specs.Prelude.{ℕ, List, ◌∷◌, ◌++◌, length}
use Rattle.atomic_table.specs.Seated.{TableId}

-- the names of the queue's table, which no other queue has, with its capacity and the allotments of its lanes
abbrev pub home_of : TableId → ℕ → List ℕ → List ℕ
home_of t capacity allotments =
    t.words ∷ t.slots ∷ t.views_name ∷ t.atom ∷ t.block ∷ t.offset ∷ capacity ∷ length allotments ∷ (allotments ++ t.slot_names)
