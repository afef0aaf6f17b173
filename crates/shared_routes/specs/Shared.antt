-- What is seen of shared routes.
use Rattle.std.specs.Prelude.{◌≡◌, ◌+◌, ◌∷◌, ℕ, List, []}
use Rattle.apiservice_rows.specs.Row.{Row}
use Rattle.apiservice_table.specs.declared.change.Change.{Change}
use Rattle.logbook.specs.Pages.{Book}
use Rattle.route_history.specs.History.{changes_of}
use Rattle.route_history.specs.declared.entry.Entry.{Entry}
use Rattle.shared_routes.specs.Places.{changes_at}

-- which history its changes are of, the rows before any change, the number of its bay, the entries that were seen, and the places of
-- its own ones
pub record Shared : Type 0 where
  pub home : Book
  pub opening : List Row
  pub bay : ℕ
  pub entries : List Entry
  pub places : List ℕ

-- the changes that were seen
abbrev pub seen_changes : Shared → List Change
seen_changes routes = changes_of routes.entries

-- its own changes, each with its place among those that were seen
abbrev pub own_changes : Shared → List (ℕ × Change)
own_changes routes = changes_at routes.places (changes_of routes.entries)

-- the routes of a bay over that history and these rows, which have seen no change
pub record IsNew (home : Book) (opening : List Row) (bay : ℕ) (routes : Shared) : Type 0 where
  pub home_is : routes.home ≡ home
  pub opening_is : routes.opening ≡ opening
  pub bay_is : routes.bay ≡ bay
  pub seen : routes.entries ≡ []
  pub own : routes.places ≡ []

-- the same of the bays from that number on, one after another
abbrev pub AreNew : Book → List Row → ℕ → List Shared → Type 0
AreNew home opening bay [] = Unit {0}
AreNew home opening bay (routes ∷ others) = IsNew home opening bay routes × AreNew home opening (bay + 1) others
