use Rattle.std.proofs.Common.{◌≡◌, rules, subst}
use Rattle.std.specs.Io.KnownBytes.{Appends}
use Rattle.probe_rounds.specs.Rounds.{line}
use Rattle.probe_rounds.specs.Standing.{OutTells, WritesFront, out_tells}
use Rattle.probe_rounds.proofs.TurnLemmas.{told_breaks, told_goes}
use Rattle.probe_rounds.proofs.turn.note.Goals as goal

pub returns-in-Ok-clause-ok : goal.returns-in-Ok-clause-ok
returns-in-Ok-clause-ok g c = λ d.
    let O = g.O.ByteSink in
    let name : c.as_str.result.now ≡ c.args.row.now.name = search rules in
    told_goes c.args.round.now c.args.at c.args.row.now c.args.up c.args.answer c.args.watcher.now.rows c.take.new.watcher.rows d
    (out_tells (O.written c.args.out.now) (O.write_faults c.args.out.now))
    (out_tells (O.written c.write_line.new.out) (O.write_faults c.write_line.new.out)) c.take.ensures.rows
    (subst (λ n. Appends (O.written c.args.out.now) (O.written c.write_line.new.out) (line c.args.round.now.number n c.args.up c.args.answer))
    name c.in-Ok.ensures.ok)
    c.in-Ok.ensures.sound

pub returns-in-Err-clause-err : goal.returns-in-Err-clause-err
returns-in-Err-clause-err g c = λ d.
    let O = g.O.ByteSink in
    let name : c.as_str.result.now ≡ c.args.row.now.name = search rules in
    let before : OutTells = out_tells (O.written c.args.out.now) (O.write_faults c.args.out.now) in
    let after : OutTells = out_tells (O.written c.write_line.new.out) (O.write_faults c.write_line.new.out) in
    told_breaks c.args.round.now c.args.at c.args.row.now c.args.up c.args.answer c.args.watcher.now.rows d c.in-Err.stop before after
    (subst (λ n. WritesFront (line c.args.round.now.number n c.args.up c.args.answer) c.in-Err.stop before after) name c.in-Err.ensures.err)
