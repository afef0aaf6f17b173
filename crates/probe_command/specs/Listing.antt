-- The APIServices that are probed: those of a file, or those that the front door lists.
use Rattle.std.specs.Prelude.{◌≡◌, ℕ, ◌⊎◌, ◌==◌, Bool, true, false, if◌then◌else◌, List, Option, Some, Ok}
use Rattle.apiservice_rows.specs.Row.{Row}
use Rattle.apiservice_rows.specs.RowList.{read_rows}
use Rattle.apiservice_rows.specs.declared.fault.RowFault.{RowFault}
use Rattle.apiservice_rows.specs.declared.fault.RowFault.TheVariants as row
use Rattle.apiservice_table.specs.Table.{Table}
use Rattle.front_base.specs.declared.address.Address.{Address}
use Rattle.front_config.specs.Load.{opened}
use Rattle.probe_calls.specs.Requests.{rows_request}
use Rattle.probe_command.specs.declared.listing.ListFault.{ListFault}
use Rattle.probe_command.specs.declared.listing.ListFault.TheVariants as fault
use Rattle.probe_command.specs.declared.listing.ListStop.{ListStop}
use Rattle.probe_command.specs.declared.listing.ListStop.TheVariants as stop
use Rattle.service_calls.specs.Calls.{DialState, Due}
use Rattle.service_calls.specs.Fetched as calls
use Rattle.service_calls.specs.declared.reply.Fetched.{Fetched}
use Rattle.service_calls.specs.declared.reply.Fetched.TheVariants as fetched

-- the call that asks for them
abbrev pub list_due : Address → Option (List ℕ) → Due
list_due front token = record { to = front; text = rows_request front token }

-- the table of the rows of a list
abbrev pub IsTable : List ℕ → Table → Type 0
IsTable body table = (rows : List Row) × (read_rows body ≡ Ok rows) × (table.rows ≡ (opened rows).rows)

-- what is read of a reply: the table of its list, with status 200
abbrev pub IsListed : ℕ → List ℕ → Table → Type 0
IsListed status body table = (status ≡ 200) × IsTable body table

abbrev pub Reads : Fetched → Table → Type 0
Reads (fetched.Reply status body) table = IsListed status body table
Reads _ table = ⊥

-- one call was made, and its reply lists these
pub record Lists (due : Due) (m n : DialState) (table : Table) : Type 0 where
  pub reply : Fetched
  pub fetches : calls.Fetches due m n reply
  pub reads : Reads reply table

-- the table of the file where one is named, and else that of the front door
abbrev pub HasTable : Due → Bool → Table → DialState → DialState → Table → Type 0
HasTable due true loaded m n table = (n ≡ m) × (table ≡ loaded)
HasTable due false loaded m n table = Lists due m n table

-- ---- no list

abbrev pub IsNoTable : List ℕ → ListStop → Type 0
IsNoTable body (stop.Fault fault.NoList) = (rows : List Row) → read_rows body ≡ Ok rows → ⊥
IsNoTable body (stop.Fault _) = ⊥
IsNoTable body stop.NoMemory = Unit {0}

abbrev pub IsUnlisted : ℕ → List ℕ → ListStop → Type 0
IsUnlisted status body (stop.Fault (fault.OtherStatus s)) = (s ≡ status) × (status ≡ 200 → ⊥)
IsUnlisted status body own = (status ≡ 200) × IsNoTable body own

abbrev pub stop_by : RowFault → ListStop
stop_by row.NoMemory = stop.NoMemory
stop_by _ = stop.Fault fault.NoList

abbrev pub long : ℕ → ListFault
long status = if status == 200 then fault.TooLong else fault.OtherStatus status

-- why what was fetched lists nothing, unless memory ran out
abbrev pub ReadsNone : Fetched → ListStop → Type 0
ReadsNone (fetched.Reply status body) own = IsUnlisted status body own
ReadsNone (fetched.TooLong status) own = own ≡ stop.Fault (long status)
ReadsNone fetched.NoReply own = own ≡ stop.Fault fault.NoReply
ReadsNone fetched.NotDialed own = own ≡ stop.Fault fault.NotDialed
ReadsNone fetched.LinkFault own = own ≡ stop.Fault fault.LinkFault

-- one call was made, and this is why it lists nothing
pub record Unlisted (due : Due) (m n : DialState) (own : ListStop) : Type 0 where
  pub reply : Fetched
  pub fetches : calls.Fetches due m n reply
  pub reads : ReadsNone reply own

-- the same; or memory ran out before the call, or after some prefix of the bytes was sent
abbrev pub ListsNone : Due → DialState → DialState → ListStop → Type 0
ListsNone due m n (stop.Fault own) = Unlisted due m n (stop.Fault own)
ListsNone due m n stop.NoMemory = calls.StopsFetching due m n ⊎ Unlisted due m n stop.NoMemory

-- the same where no file is named
abbrev pub HasNone : Due → Bool → DialState → DialState → ListStop → Type 0
HasNone due true m n own = ⊥
HasNone due false m n own = ListsNone due m n own
