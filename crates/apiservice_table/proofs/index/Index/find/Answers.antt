use Rattle.std.proofs.Common.{◌<◌, sym, subst, ◌∙◌, refl, arith}
use Rattle.apiservice_table.specs.Index.{Links, LinksAll, slot_of}
use Rattle.apiservice_table.specs.declared.index.TheConstants.{SLOTS}
use Rattle.apiservice_table.proofs.IndexLemmas.{leads_first, leads_none, leads_some, leads_on, row_there}
use Rattle.apiservice_table.proofs.index.Index.find.Goals as goal

pub loop-init : goal.loop-init
loop-init c =
    let within : slot_of c.args.group.now c.args.version.now < SLOTS = rw c.slot_of.ensures.value at c.slot_of.ensures.within in
    let links : Links = record { first = c.self.inside.first.items; next = c.self.inside.next.items } in
    leads_first c.args.group.now c.args.version.now c.args.rows.now links c.index-next.result.now
    (subst (LinksAll c.args.rows.now) (sym c.self.view_is) c.requires.linked) within
    (rw c.slot_of.ensures.value at c.index-next.ensures)

pub returns-in_default : goal.returns-in_default
returns-in_default c =
    sym (leads_none c.args.group.now c.args.version.now c.args.rows.now c.loop.next c.loop.invariant c.in_default.is)

pub bounds-rows-at : goal.bounds-rows-at
bounds-rows-at c =
    (leads_some c.args.group.now c.args.version.now c.args.rows.now c.loop.next c.in-Some.at c.loop.invariant c.in-Some.is).0

pub returns-then-is_of : goal.returns-then-is_of
returns-then-is_of c =
    let first = leads_some c.args.group.now c.args.version.now c.args.rows.now c.loop.next c.in-Some.at c.loop.invariant c.in-Some.is in
    sym (row_there c.args.group.now c.args.version.now c.args.rows.now c.in-Some.at c.index-rows-at.result first c.index-rows-at.is
    ∙ rw (sym c.is_of.ensures ∙ c.if-is_of.true) refl)

pub index-next-requires-in-loop : goal.index-next-requires-in-loop
index-next-requires-in-loop c =
    let first = (leads_some c.args.group.now c.args.version.now c.args.rows.now c.loop.next c.in-Some.at c.loop.invariant c.in-Some.is).0 in
    let few = c.requires.few in
    let places = c.self.invariant.1 in
    omega (arith, first, few, places)

pub loop-preserved : goal.loop-preserved
loop-preserved c =
    let first = leads_some c.args.group.now c.args.version.now c.args.rows.now c.loop.next c.in-Some.at c.loop.invariant c.in-Some.is in
    let links : Links = record { first = c.self.inside.first.items; next = c.self.inside.next.items } in
    leads_on c.args.group.now c.args.version.now c.args.rows.now links c.in-Some.at c.index-rows-at.result
    c.index-next-in-loop.result.now (subst (LinksAll c.args.rows.now) (sym c.self.view_is) c.requires.linked) first
    c.index-rows-at.is (sym c.if-is_of.false ∙ c.is_of.ensures) c.index-next-in-loop.ensures
