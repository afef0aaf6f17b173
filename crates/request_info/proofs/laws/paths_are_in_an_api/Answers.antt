use Rattle.request_info.proofs.FormLemmas.{api_is, api_from}
use Rattle.request_info.proofs.laws.paths_are_in_an_api.Goals as goal

pub returns : goal.returns
returns c = record { are = api_from; only = api_is }
