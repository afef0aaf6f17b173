-- How an errand is handled by a table of one thread.
use Rattle.std.proofs.Common.{◌≡◌, List, [], refl, ap, ◌∙◌}
use Rattle.apiservice_rows.specs.Row.{Row}
use Rattle.apiservice_table.specs.Changes.{Story, placed, rows_of}
use Rattle.audit_core.specs.Routing.{Decides, handling_of, routed_by}
use Rattle.audit_core.specs.declared.errand.Errand.{Errand}
use Rattle.audit_core.specs.declared.routed.Handling.{Handling}
use Rattle.audit_core.specs.declared.routed.Routed.{Routed}
use Rattle.service_endpoints.specs.declared.endpoint.Endpoint.{Endpoint}

abbrev pub OneDecides : Type 0
OneDecides =
    (ends : List Endpoint) (own : Errand) (old new : Story) (routed : Routed)
    → Decides ends own old.opening old.seen (placed 0 old.seen) new.seen (placed 0 new.seen) routed
    → routed ≡ routed_by ends (rows_of old) own

pub handled_by : OneDecides → (ends : List Endpoint) (own : Errand) (rows : List Row) (old new : Story) (routed : Routed)
    → old.opening ≡ rows → old.seen ≡ []
    → Decides ends own old.opening old.seen (placed 0 old.seen) new.seen (placed 0 new.seen) routed
    → routed.handling ≡ handling_of ends rows own
handled_by one ends own rows old new routed opens none decides =
    let at : rows_of old ≡ rows = rw (opens, none) refl in
    ap (λ (r : Routed). r.handling) (one ends own old new routed decides)
    ∙ ap (λ (rs : List Row). handling_of ends rs own) at
