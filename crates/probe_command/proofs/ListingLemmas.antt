-- Why a front door gave no list.
use Rattle.std.proofs.Common.{◌≡◌, ℕ, List, Some, Result, Ok, Err, inr}
use Rattle.apiservice_rows.specs.Fault.{Gives}
use Rattle.apiservice_rows.specs.Row.{Row}
use Rattle.apiservice_rows.specs.RowList.{read_rows}
use Rattle.apiservice_rows.specs.declared.fault.RowFault.{RowFault}
use Rattle.apiservice_rows.specs.declared.fault.RowFault.TheVariants as row
use Rattle.json_value.specs.Results.{fault_of}
use Rattle.probe_command.specs.Listing.{IsNoTable, IsUnlisted, ListsNone, Unlisted, stop_by}
use Rattle.probe_command.specs.declared.listing.ListFault.TheVariants as fault
use Rattle.probe_command.specs.declared.listing.ListStop.{ListStop}
use Rattle.probe_command.specs.declared.listing.ListStop.TheVariants as stop
use Rattle.service_calls.specs.Calls.{DialState, Due}

-- with status 200 it is for what the body says
pub unlisted_by : (status : ℕ) (body : List ℕ) (own : ListStop) → status ≡ 200 → IsNoTable body own → IsUnlisted status body own
unlisted_by status body (stop.Fault fault.NotDialed) e h = absurd h
unlisted_by status body (stop.Fault fault.LinkFault) e h = absurd h
unlisted_by status body (stop.Fault fault.NoReply) e h = absurd h
unlisted_by status body (stop.Fault (fault.OtherStatus s)) e h = absurd h
unlisted_by status body (stop.Fault fault.TooLong) e h = absurd h
unlisted_by status body (stop.Fault fault.NoList) e h = (e, h)
unlisted_by status body stop.NoMemory e h = (e, tt)

pub lists_none : (due : Due) (m n : DialState) (own : ListStop) → Unlisted due m n own → ListsNone due m n own
lists_none due m n (stop.Fault own) h = h
lists_none due m n stop.NoMemory h = inr h

no_rows : (r : Result (List Row) RowFault) (own : RowFault) → fault_of r ≡ Some own → (rows : List Row) → r ≡ Ok rows → ⊥
no_rows (Ok a) own h rows e = cc h
no_rows (Err other) own h rows e = cc e

-- a list that is refused gives no table
pub no_table : (body : List ℕ) (own : RowFault) → Gives {A = List Row} (λ r. r) (Err own) (read_rows body) → IsNoTable body (stop_by own)
no_table body row.NotJson h = no_rows (read_rows body) row.NotJson h
no_table body (row.BadField item member) h = no_rows (read_rows body) (row.BadField item member) h
no_table body (row.NameMismatch item) h = no_rows (read_rows body) (row.NameMismatch item) h
no_table body (row.Range item member) h = no_rows (read_rows body) (row.Range item member) h
no_table body (row.Repeated item name) h = no_rows (read_rows body) (row.Repeated item name) h
no_table body row.Full h = no_rows (read_rows body) row.Full h
no_table body row.NoMemory h = tt
