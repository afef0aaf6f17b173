-- Which bay made which entry of a history.
use Rattle.std.specs.Prelude.{ℕ, ◌≡◌, ◌==◌, ◌+◌, ◌<◌, ◌&&◌, Bool, true, false, if◌then◌else◌, List, [], ◌∷◌, length, All}
use mathlib.Core.List.{IsPrefix}
use Rattle.apiservice_table.specs.declared.change.Change.{Change}
use Rattle.route_history.specs.declared.entry.Entry.{Entry}
use Rattle.shared_routes.specs.Shared.{Shared, own_changes}

-- these places, in rising order, hold entries of that bay; the first entry stands at `at`
abbrev pub are_made_by : ℕ → ℕ → List ℕ → List Entry → Bool
are_made_by bay at [] entries = true
are_made_by bay at (place ∷ places) [] = false
are_made_by bay at (place ∷ places) (entry ∷ entries) =
    if place == at then (entry.bay == bay) && are_made_by bay (at + 1) places entries
    else are_made_by bay (at + 1) (place ∷ places) entries

-- the places of all entries of that bay
abbrev pub places_of : ℕ → ℕ → List Entry → List ℕ
places_of bay at [] = []
places_of bay at (entry ∷ entries) =
    if entry.bay == bay then at ∷ places_of bay (at + 1) entries else places_of bay (at + 1) entries

-- the changes of all entries of that bay, each with its place
abbrev pub made_by : ℕ → ℕ → List Entry → List (ℕ × Change)
made_by bay at [] = []
made_by bay at (entry ∷ entries) =
    if entry.bay == bay then (at, entry.change) ∷ made_by bay (at + 1) entries else made_by bay (at + 1) entries

-- how many own changes these routes have together
abbrev pub own_count : List Shared → ℕ
own_count [] = 0
own_count (routes ∷ others) = length routes.places + own_count others

-- the numbers of these routes' bays follow one another
abbrev pub AreNumbered : ℕ → List Shared → Type 0
AreNumbered bay [] = Unit {0}
AreNumbered bay (routes ∷ others) = (routes.bay ≡ bay) × AreNumbered (bay + 1) others

-- what the routes saw is a prefix of these entries, and their own places hold entries of their bay
pub record IsWithin (entries : List Entry) (routes : Shared) : Type 0 where
  pub seen : IsPrefix routes.entries entries
  pub own : are_made_by routes.bay 0 routes.places routes.entries ≡ true

-- the own changes of each routes are those of all entries of its bay; the first bay has this number
abbrev pub OwnAll : ℕ → List Entry → List Shared → Type 0
OwnAll bay entries [] = Unit {0}
OwnAll bay entries (routes ∷ others) = (own_changes routes ≡ made_by bay 0 entries) × OwnAll (bay + 1) entries others

-- Each entry was made by one of these bays. The own changes of each bay are those of its entries, each once and in their order
pub record AreMade (entries : List Entry) (all : List Shared) : Type 0 where
  pub own : OwnAll 0 entries all
  pub by : All (λ (entry : Entry). entry.bay < length all) entries
