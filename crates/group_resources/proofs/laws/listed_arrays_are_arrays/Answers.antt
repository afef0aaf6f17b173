use Rattle.group_resources.proofs.MergedLemmas.{listed_array}
use Rattle.group_resources.proofs.laws.listed_arrays_are_arrays.Goals as goal

pub returns : goal.returns
returns c = listed_array c.compact_keeps_the_value.ensures
