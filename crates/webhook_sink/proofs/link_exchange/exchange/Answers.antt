use Rattle.front_ports.specs.Cause.{Rose}
use Rattle.webhook_sink.specs.Posts.{post_from}
use Rattle.webhook_sink.proofs.ExchangeLemmas.{exchanged, rose_same}
use Rattle.webhook_sink.proofs.link_exchange.exchange.Goals as goal

pub returns : goal.returns
returns g c = record {
  exchanged =
      exchanged _ _ _ c.args.to _ _ _ _ _ _ (post_from c.args.before.now c.args.lines.now)
      (Rose (g.D.Dial.faults c.args.dial.now) (g.D.Dial.faults c.done.new.self)) _ _ c.talk-talked.result.sent c.talk-talked.result.reply
      c.in-Ok.ensures.noted c.talk-talked.ensures.number c.done.ensures.noted
      (λ f. rose_same _ _ _ c.dial.ensures.link_faults (c.done.ensures.faulty f)) c.talk-talked.ensures.ends;
}
