use Rattle.std.proofs.Common.{[], Some, List, ◌≡◌, sym, subst}
use Rattle.front_base.specs.Line.{Line}
use Rattle.batch_backend.specs.Pumps.{BatchParts}
use Rattle.batch_backend.proofs.PartLemmas.{parts-new}
use Rattle.batch_backend.proofs.drainer.Drainer.start.Goals as goal

pub returns-clause-parts : goal.returns-clause-parts
returns-clause-parts c =
    let e : c.in_ok-with_capacity.field-0.items ≡ [] = c.in_ok-with_capacity.ensures.items in
    subst (λ (l : List Line). BatchParts (record { limits = c.args.limits; pending = record { lines = l; since = 0 } }) (Some []) (Some []))
    (sym e) (parts-new c.args.limits c.requires)
