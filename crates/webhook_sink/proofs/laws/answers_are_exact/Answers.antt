use Rattle.webhook_sink.proofs.AnswerLemmas.{taken-says, success-taken, refused-says, others-refused, bad-says, no-port}
use Rattle.webhook_sink.proofs.laws.answers_are_exact.Goals as goal

pub returns : goal.returns
returns c = record {
  taken = taken-says;
  takes = success-taken;
  refused = refused-says;
  refuses = others-refused;
  bad = bad-says;
  no_port = no-port;
}
