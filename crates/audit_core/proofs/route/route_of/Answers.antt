use Rattle.std.proofs.Common.{ap, ◌∙◌}
use Rattle.request_info.specs.Parts.{from_first, to_last, texts_of}
use Rattle.audit_core.proofs.JudgedLemmas.{route_is}
use Rattle.audit_core.proofs.route.route_of.Goals as goal

pub returns : goal.returns
returns c =
    let cut = ap texts_of c.as_slice.ensures.value ∙ c.in_ok-cut.ensures in
    route_is c.args.path.now _ _ c.route_by.ensures (c.parts_of.ensures ∙ ap (λ l. to_last (from_first l)) cut)
