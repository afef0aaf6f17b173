use Rattle.std.proofs.Common.{◌≡◌, All, List, length, map, ap, sym, ◌∙◌, arith}
use Rattle.std.proofs.lemmas.List.{length-map}
use Rattle.std.proofs.lemmas.List.Elements.{All-map, All-weaker}
use Rattle.route_history.specs.History.{History}
use Rattle.route_history.specs.declared.entry.Entry.{Entry}
use Rattle.shared_routes.specs.Makers.{IsWithin}
use Rattle.shared_runs.specs.Histories.{SawOne, SawWhole}
use Rattle.shared_runs.specs.Unnamed.{routes_of, unnamed_end}
use Rattle.shared_runs.proofs.unnamed.close_by.Goals as goal

pub returns-clause-counted : goal.returns-clause-counted
returns-clause-counted g c = λ _.
    let home = g.P.Prefix.home in
    let opening = g.P.Prefix.opening in
    let ends = c.args.ends.items in
    let log : List Entry = (g.P.Prefix.history c.published_prefix-whole.result).entries in
    let fits = c.if-not-fits.false in
    let saw = c.unnamed_ends-left.ensures.within fits in
    let within = All-map (IsWithin log) routes_of ends (All-weaker (SawWhole home opening log) (λ end. IsWithin log end.routes) (λ _ s. s.within) ends saw) in
    let one = All-weaker (SawWhole home opening log) (SawOne home opening log) (λ _ s. s.saw) ends saw in
    let whole = sym c.unnamed_ends-left.ensures.amount ∙ (c.audit.ensures ∙ (ap (λ t. length (g.P.Prefix.history (g.T.TableCopy.shows t)).entries) c.empty_share-all.ensures.kept ∙ ap (λ (h : History). length h.entries) (sym c.published_prefix-whole.ensures))) in
    (log, one, c.counted_changes_are_made.ensures log (map routes_of ends) (c.unnamed_ends-left.ensures.numbered fits) within whole)

pub audit-requires : goal.audit-requires
audit-requires g c =
    let count = ap (λ l. length l) c.unnamed_ends-left.ensures.items ∙ length-map c.args.ends.items unnamed_end in
    omega (arith, c.unnamed_ends-left.ensures.parts, count, c.len.ensures, c.from.ensures, c.if-len-from.false, c.requires.parts)
