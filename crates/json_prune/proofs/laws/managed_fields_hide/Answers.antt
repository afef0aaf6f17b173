use Rattle.json_prune.proofs.EditLemmas.{no_trace, own_hide, items_hide, rows_hide, others_stay}
use Rattle.json_prune.proofs.laws.managed_fields_hide.Goals as goal

pub returns : goal.returns
returns c = record { own = own_hide; items = items_hide; rows = rows_hide; others = others_stay; path = no_trace }
