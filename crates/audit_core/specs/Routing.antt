-- How a request is handled by the rows of a table (Kubernetes, "API Aggregation Layer").
use Rattle.std.specs.Prelude.{◌≡◌, ℕ, ◌++◌, Bool, if◌then◌else◌, List, [], ◌∷◌, length, Option, Some, None}
use Rattle.apiservice_rows.specs.Row.{Row}
use Rattle.apiservice_rows.specs.declared.service.ServiceRef.{ServiceRef}
use Rattle.apiservice_table.specs.Changes as table
use Rattle.apiservice_table.specs.Changes.{after, placed, IsLater}
use Rattle.apiservice_table.specs.Table.{row}
use Rattle.apiservice_table.specs.declared.change.Change.{Change}
use Rattle.apiservice_table.specs.declared.change.ChangeFault.{ChangeFault}
use Rattle.forward_link.specs.declared.target.Target.TheVariants.{Service, Delegate}
use Rattle.front_base.specs.declared.address.Address.{Address}
use Rattle.local_replies.specs.Serve.{local_reply}
use Rattle.local_replies.specs.declared.errand.LocalErrand.{LocalErrand}
use Rattle.local_replies.specs.declared.errand.LocalErrand.TheVariants.{Deny, Conflict, Look, Tabulate, Write, Try}
use Rattle.service_endpoints.specs.Find.{endpoint_of, others_of}
use Rattle.service_endpoints.specs.declared.endpoint.Endpoint.{Endpoint}
use Rattle.audit_core.specs.declared.errand.Errand.{Errand}
use Rattle.audit_core.specs.declared.errand.Errand.TheVariants as errand
use Rattle.audit_core.specs.declared.routed.Handling.{Handling}
use Rattle.audit_core.specs.declared.routed.Handling.TheVariants.{Refused, Served, Proxied}
use Rattle.audit_core.specs.declared.routed.Routed.{Routed}

-- ---- the backend of an API

-- a service that is reached nowhere can't be asked
abbrev pub service_at : ServiceRef → Option Address → Handling
service_at to None = Refused 503
service_at to (Some address) = Proxied (Service to address)

-- nor can a delegate that nobody named
abbrev pub delegate_at : Option Address → Handling
delegate_at None = Refused 503
delegate_at (Some address) = Proxied (Delegate address)

-- the service of an APIService, where it is available, and the delegate where it names none
abbrev pub backend_of : List Endpoint → Bool → Option ServiceRef → Handling
backend_of ends available None = delegate_at (endpoint_of ends None)
backend_of ends available (Some to) = if available then service_at to (endpoint_of ends (Some to)) else Refused 503

-- by the row of an API
abbrev pub api_of : List Endpoint → Option Row → Handling
api_of ends None = Refused 404
api_of ends (Some own) = backend_of ends own.available own.service

-- ---- the server of all other paths

-- where nobody named one, they are found nowhere
abbrev pub others_at : Option Address → Handling
others_at None = Refused 404
others_at (Some address) = Proxied (Delegate address)

-- ---- the change that a local path makes

-- a change that is made unless a refusal is due
abbrev pub made_by : Change → Option ChangeFault → Option Change
made_by change None = Some change
made_by change (Some fault) = None

abbrev pub local_made : List Row → LocalErrand → Option Change
local_made rows (Deny code) = None
local_made rows (Conflict name) = None
local_made rows Look = None
local_made rows (Tabulate include moment) = None
local_made rows (Write change) = made_by change (table.refusal rows change)
local_made rows (Try change) = None

-- ---- how an errand is handled

abbrev pub handling_of : List Endpoint → List Row → Errand → Handling
handling_of ends rows (errand.Refuse code) = Refused code
handling_of ends rows (errand.Serve local own) = Served local (local_reply rows local own) (local_made rows own)
handling_of ends rows (errand.Route group version) = api_of ends (row group version rows)
handling_of ends rows errand.Other = others_at (others_of ends)

-- the row that decides on it, if one does
abbrev pub row_for : List Row → Errand → Option Row
row_for rows (errand.Refuse code) = None
row_for rows (errand.Serve local own) = None
row_for rows (errand.Route group version) = row group version rows
row_for rows errand.Other = None

abbrev pub routed_by : List Endpoint → List Row → Errand → Routed
routed_by ends rows own = record { row = row_for rows own; handling = handling_of ends rows own }

-- ---- the rows after it

-- the change that it makes of these rows, if it makes one
abbrev pub made : List Row → Errand → Option Change
made rows (errand.Refuse code) = None
made rows (errand.Serve local own) = local_made rows own
made rows (errand.Route group version) = None
made rows errand.Other = None

abbrev pub changes_in : Option Change → List Change
changes_in None = []
changes_in (Some change) = change ∷ []

abbrev pub rows_by : List Row → Errand → List Row
rows_by rows own = after rows (changes_in (made rows own))

-- ---- what a call does

-- an errand was decided over routes that others may change too: by the rows after the changes that were seen then, and the
-- change that it made, if it made one, stands next. `seen` and `own` are the changes that the routes had seen and their
-- own ones before, and `new_seen` and `new_own` those after
pub record Decides (ends : List Endpoint) (own_errand : Errand) (opening : List Row) (seen : List Change)
    (own : List (ℕ × Change)) (new_seen : List Change) (new_own : List (ℕ × Change)) (routed : Routed) : Type 0 where
  pub decided : List Change
  pub later : IsLater seen decided
  pub routed_is : routed ≡ routed_by ends (after opening decided) own_errand
  pub seen_is : new_seen ≡ decided ++ changes_in (made (after opening decided) own_errand)
  pub own_is : new_own ≡ own ++ placed (length decided) (changes_in (made (after opening decided) own_errand))
