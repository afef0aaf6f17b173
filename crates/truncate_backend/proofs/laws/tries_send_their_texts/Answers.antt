use Rattle.truncate_backend.proofs.SentLemmas.{texts-sent, texts-done}
use Rattle.truncate_backend.proofs.laws.tries_send_their_texts.Goals as goal

pub returns-clause-each : goal.returns-clause-each
returns-clause-each c = texts-sent

pub returns-clause-done : goal.returns-clause-done
returns-clause-done c = texts-done
