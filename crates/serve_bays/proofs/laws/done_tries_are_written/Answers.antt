use Rattle.serve_bays.proofs.ServedLemmas.{done_texts, done_log}
use Rattle.serve_bays.proofs.laws.done_tries_are_written.Goals as goal

pub returns-clause-each : goal.returns-clause-each
returns-clause-each c = done_texts c.tries_send_their_texts.ensures.done

pub returns-clause-log : goal.returns-clause-log
returns-clause-log c = done_log c.log_texts_join.ensures.done
