use Rattle.std.proofs.Common.{rules}
use Rattle.webhook_sink.proofs.AccountLemmas.{sends-for, sent-for}
use Rattle.webhook_sink.proofs.webhook.WebhookSink.try_noted.Goals as goal

pub returns-clause-posted : goal.returns-clause-posted
returns-clause-posted g c = record {
  sent = c.post-outcome.result.sent;
  reply = c.post-outcome.result.reply;
  exchanged = search rules;
  is = search rules;
  tried = record {
    tries = search rules;
    counts = search rules;
    text_is = search rules;
    whole = sent-for _ _ _ _ _ _ _ _ _ c.post-outcome.ensures.exchanged (search rules);
    bytes = sends-for _ _ _ _ _ _ _ _ _ c.post-outcome.ensures.exchanged (search rules);
  };
}
