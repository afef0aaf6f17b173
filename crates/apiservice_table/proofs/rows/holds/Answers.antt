use Rattle.std.proofs.Common.{◌∙◌}
use Rattle.apiservice_table.proofs.OrderLemmas.{holds_is}
use Rattle.apiservice_table.proofs.rows.holds.Goals as goal

pub returns : goal.returns
returns c = c.is_ok.ensures.value ∙ holds_is c.args.name.now c.args.rows.now c.place_of.result c.requires c.place_of.ensures.value c.place_of.ensures.within
