use Rattle.std.proofs.Common.{List, Option, ap, ◌∙◌}
use Rattle.front_base.specs.declared.stage.Stage.{Stage}
use Rattle.audit_check.specs.Seen.{last_seen}
use Rattle.audit_check.specs.declared.block.Block.{Block}
use Rattle.audit_check.proofs.SeenLemmas.{nothing_seen}
use Rattle.audit_check.proofs.seen.Seen.nothing.Goals as goal

pub returns : goal.returns
returns c = λ id. ap (λ (es : List (Block × List (Option Stage))). last_seen (record { blocks = es }) id) c.new.ensures.empty ∙ nothing_seen id
