use Rattle.std.proofs.Common.{◌≡◌, subst}
use Rattle.std.specs.Prelude.{IfOk}
use Rattle.json_span.specs.Value.{flat}
use Rattle.json_prune.specs.Names.{names_from}
use Rattle.json_prune.specs.Prune.{prune}
use Rattle.json_prune.proofs.kept.rows_cut.Goals as goal

pub returns : goal.returns
returns c = λ v is has.
    subst (λ p. IfOk c.pruned.result (λ out. out.items ≡ flat (prune (names_from p 0) v))) c.as_bytes-path.ensures.value
    (subst (λ q. IfOk c.pruned.result (λ out. out.items ≡ flat (prune q (prune (names_from c.as_bytes-path.result.now 0) v)))) c.none.ensures.empty
    (c.pruned.ensures v is has))
