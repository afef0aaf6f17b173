use Rattle.serve_bays.proofs.ServedLemmas.{sent_all}
use Rattle.serve_bays.proofs.laws.new_sinks_send_their_tries.Goals as goal

pub returns : goal.returns
returns c = sent_all (record { first = c.first_tries_join.ensures.noted; texts = c.tries_send_their_texts.ensures.each })
