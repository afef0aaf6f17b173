-- What is known of a history of changes.
use Rattle.std.specs.Prelude.{List, map}
use Rattle.apiservice_rows.specs.Row.{Row}
use Rattle.apiservice_table.specs.declared.change.Change.{Change}
use Rattle.logbook.specs.Pages.{Book}
use Rattle.route_history.specs.declared.entry.Entry.{Entry}

-- which history it is, and the entries that it begins with
pub record History : Type 0 where
  pub home : Book
  pub entries : List Entry

-- the changes of entries, in order
abbrev pub changes_of : List Entry → List Change
changes_of entries = map (λ (entry : Entry). entry.change) entries

-- which history it is, and the rows before any change
pub record Beginning : Type 0 where
  pub home : Book
  pub opening : List Row
