use Rattle.form_urlencoded.specs.Form.{raw_pairs}
use Rattle.request_info.proofs.VerbLemmas.{watch_is, watch_from}
use Rattle.request_info.proofs.laws.the_first_watch_counts.Goals as goal

pub returns : goal.returns
returns c = record { asks = λ query h. watch_is (raw_pairs query) h; has = λ query h. watch_from (raw_pairs query) h }
