use Rattle.std.proofs.Common.{List, ℕ, subst, ◌∙◌}
use Rattle.front_ports.specs.Cause.{Rose}
use Rattle.webhook_sink.specs.Exchanges.{ExchangedBy}
use Rattle.webhook_sink.proofs.PostLemmas.{post-is}
use Rattle.webhook_sink.proofs.webhook.WebhookSink.post.Goals as goal

pub returns-clause-exchanged : goal.returns-clause-exchanged
returns-clause-exchanged g c =
    let o = c.args.self.now in
    let e = post-is o.head.url c.as_slice.result.now c.args.lines.now (c.as_slice.ensures ∙ o.head.text) in
    subst (λ (z : List ℕ). ExchangedBy (g.D.Dial.calls o.dial) (g.D.Dial.calls c.exchange.new.dial) o.head.url.address z
    (Rose (g.D.Dial.faults o.dial) (g.D.Dial.faults c.exchange.new.dial))
    (Rose (g.D.Dial.link_faults o.dial) (g.D.Dial.link_faults c.exchange.new.dial)) c.exchange.result.sent c.exchange.result.reply) e
    c.exchange.ensures.exchanged
