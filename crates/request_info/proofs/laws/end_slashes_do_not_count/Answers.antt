use Rattle.std.proofs.Common.{◌==◌, refl, ap, ◌∙◌}
use Rattle.std.specs.List.{slice_split}
use Rattle.request_info.specs.Parts.{from_first, to_last, parts_of}
use Rattle.request_info.proofs.PartsLemmas.{both_ends, cut_more}
use Rattle.request_info.proofs.laws.end_slashes_do_not_count.Goals as goal

pub returns : goal.returns
unfolding parts_of from_first
returns c = record {
  first = λ path. refl;
  last = λ path. ap (λ cut. to_last (from_first cut)) (cut_more path) ∙ both_ends (slice_split (λ b. b == 47) path);
}
