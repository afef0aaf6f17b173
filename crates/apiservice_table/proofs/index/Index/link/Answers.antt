use Rattle.std.proofs.Common.{◌≡◌, ◌+◌, ◌<◌, Some, set, sym, ap, subst, ◌∙◌, refl}
use Rattle.apiservice_rows.specs.Row.{Row}
use Rattle.apiservice_table.specs.Index.{Links, LinksFrom, slot_of}
use Rattle.apiservice_table.specs.declared.index.TheConstants.{SLOTS}
use Rattle.apiservice_table.proofs.IndexLemmas.{linked}
use Rattle.apiservice_table.proofs.index.Index.link.Goals as goal

pub returns : goal.returns
returns c =
    let r : Row = c.index-rows-at.result in
    let old : Links = record { first = c.self.inside.first.items; next = c.self.inside.next.items } in
    let group : c.as_str.result.now ≡ r.group = c.as_str.ensures ∙ ap (λ (y : Row). y.group) c.row.view_is in
    let version : c.as_str-2.result.now ≡ r.version = c.as_str-2.ensures ∙ ap (λ (y : Row). y.version) c.row.view_is in
    let slot : c.slot_of-slot.result ≡ slot_of r.group r.version = rw (group, version) at c.slot_of-slot.ensures.value in
    let within : slot_of r.group r.version < SLOTS = rw slot at c.slot_of-slot.ensures.within in
    linked c.args.rows.now c.args.at r c.index.result.now old
    (record { first = set old.first c.slot_of-slot.result (Some c.args.at); next = set old.next c.args.at c.index.result.now })
    c.requires.within c.requires.few c.index-rows-at.is c.self.invariant.0 c.self.invariant.1 within
    (subst (LinksFrom (c.args.at + 1) c.args.rows.now) (sym c.self.view_is) c.requires.linked)
    (rw slot at c.index.ensures) refl (ap (λ y. set old.first y (Some c.args.at)) slot)
