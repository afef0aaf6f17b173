use Rattle.std.proofs.Common.{◌∙◌}
use Rattle.log_sink.specs.Texts.{log_text}
use Rattle.log_sink.proofs.TextLemmas.{log-append, texts-of}
use Rattle.log_sink.proofs.laws.log_texts_join.Goals as goal

pub returns : goal.returns
returns c = record {
  lines = log-append;
  done = λ tries noted done. c.tries_send_their_texts.ensures.done log_text tries noted done ∙ texts-of tries;
}
