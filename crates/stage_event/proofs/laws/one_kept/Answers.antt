use Rattle.stage_event.proofs.KeptLemmas.{one-kept, one-shown, kept-alike}
use Rattle.stage_event.proofs.laws.one_kept.Goals as goal

pub returns : goal.returns
returns c = record {
  one = one-kept c.one_value.ensures;
  shown = one-shown c.one_value.ensures;
  alike = kept-alike c.one_value.ensures;
}
