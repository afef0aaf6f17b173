-- The router of the local paths.
use Rattle.std.specs.Prelude.{◌≡◌, ℕ, ◌<◌, List, All, Result, Ok, Err, None, option_map}
use Rattle.matchit.specs.Seek.{first}
use Rattle.matchit.specs.Rows.{RowsOf}
use Rattle.matchit.specs.Order.{placed}
use Rattle.matchit.specs.Route.{Scan}
use Rattle.matchit.specs.Router.{RouteOf, nearest, route_from}
use Rattle.matchit.specs.declared.error.InsertError.{InsertError}
use Rattle.local_replies.specs.Kind.{found_at}
use Rattle.local_replies.specs.Paths.{first_of, table}
use Rattle.local_replies.specs.declared.kind.Kind.{Kind}

-- a number that fits a byte
abbrev pub IsByte : ℕ → Type 0
IsByte b = b < 256

-- a route is well-formed, and no row conflicts with it
abbrev pub IsFree : Result Scan InsertError → RowsOf (RouteOf Kind) → Type 0
IsFree (Ok scan) rows = nearest scan.pattern rows ≡ None
IsFree (Err fault) rows = ⊥

-- the rows with that route in its place
abbrev pub rows_with : Result Scan InsertError → Kind → RowsOf (RouteOf Kind) → RowsOf (RouteOf Kind)
rows_with (Ok scan) kind rows = placed (scan.pattern, route_from scan kind) rows
rows_with (Err fault) kind rows = rows

-- the router answers what the table does
pub record IsLocalRouter (router : RowsOf (RouteOf Kind)) : Type 0 where
  pub answers : (text : List ℕ) → All IsByte text
      → found_at text (option_map (λ r. r.value) (first router text)) ≡ first_of table text
