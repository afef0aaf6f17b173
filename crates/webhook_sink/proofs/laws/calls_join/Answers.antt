use Rattle.webhook_sink.proofs.AccountLemmas.{sent-in-all}
use Rattle.webhook_sink.proofs.laws.calls_join.Goals as goal

pub returns : goal.returns
returns c = sent-in-all
