use Rattle.truncate_backend.specs.Tries.{try_of, answer_of}
use Rattle.log_sink.specs.Logs.{kept_tries}
use Rattle.log_sink.proofs.TextLemmas.{accounts-more}
use Rattle.log_sink.proofs.log.LogSinkBatchSink.put.Goals as goal

pub returns-clause-accounts : goal.returns-clause-accounts
returns-clause-accounts g c = λ before h.
    let o = c.args.self.now in
    let n = c.try_lines.new.self in
    let l = c.try_lines.ensures.logged in
    accounts-more before (g.W.ByteSink.written o.buffer.out) (g.W.ByteSink.written n.buffer.out)
    (kept_tries o.told (g.N.Notes.tries o.notes)) (kept_tries n.told (g.N.Notes.tries n.notes))
    (try_of c.args.lines.now l.sent (answer_of c.try_lines.result)) l.bytes l.tried.tries.grows h
