use Rattle.front_ports.specs.Cause.{Rose}
use Rattle.webhook_sink.specs.Hooked.{hook_url, hook_tells}
use Rattle.webhook_sink.proofs.AccountLemmas.{accounts-put}
use Rattle.webhook_sink.proofs.webhook.WebhookSinkBatchSink.put.Goals as goal

pub returns-clause-accounts : goal.returns-clause-accounts
returns-clause-accounts g c = λ before h.
    let o = c.args.self.now in
    let n = c.try_lines.new.self in
    let e = c.try_lines.ensures in
    accounts-put (hook_url o) (hook_url n) before (hook_tells g.D.Dial.calls g.N.Notes.tries o) (hook_tells g.D.Dial.calls g.N.Notes.tries n)
    (g.D.Dial.calls o.dial) (g.D.Dial.calls n.dial) c.args.lines.now (Rose (g.D.Dial.faults o.dial) (g.D.Dial.faults n.dial))
    (Rose (g.D.Dial.link_faults o.dial) (g.D.Dial.link_faults n.dial)) c.try_lines.result (g.N.Notes.has_room o.notes c.args.lines.now)
    e.posted e.full e.url h
