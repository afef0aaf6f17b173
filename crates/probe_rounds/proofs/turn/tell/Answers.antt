use Rattle.probe_rounds.specs.Standing.{OutTells, Stand, out_tells, stand}
use Rattle.service_calls.specs.Calls.{DialState, dial_state}
use Rattle.probe_rounds.proofs.TurnLemmas.{telling_breaks, tells_breaks, tells_goes}
use Rattle.probe_rounds.proofs.turn.tell.Goals as goal

pub returns-in-Ok-note-clause-ok : goal.returns-in-Ok-note-clause-ok
returns-in-Ok-note-clause-ok g c =
    let D = g.D.Dial in
    let O = g.O.ByteSink in
    let d0 : DialState = dial_state (D.calls c.args.dial.now) (D.faults c.args.dial.now) (D.link_faults c.args.dial.now) in
    let d : DialState = dial_state (D.calls c.put.new.dial) (D.faults c.put.new.dial) (D.link_faults c.put.new.dial) in
    let p : Stand = stand c.args.watcher.now.rows d0 (out_tells (O.written c.args.out.now) (O.write_faults c.args.out.now)) in
    let q : Stand = stand c.note.new.watcher.rows d (out_tells (O.written c.note.new.out) (O.write_faults c.note.new.out)) in
    tells_goes c.args.plan.now c.args.round.now c.args.at c.args.row.now c.args.up c.in-Ok.answer p q d c.in-Ok.ensures.ok (c.in-Ok-note.ensures.ok d)

pub returns-in-Err-note-clause-err : goal.returns-in-Err-note-clause-err
returns-in-Err-note-clause-err g c =
    let D = g.D.Dial in
    let O = g.O.ByteSink in
    let d0 : DialState = dial_state (D.calls c.args.dial.now) (D.faults c.args.dial.now) (D.link_faults c.args.dial.now) in
    let d : DialState = dial_state (D.calls c.put.new.dial) (D.faults c.put.new.dial) (D.link_faults c.put.new.dial) in
    let p : Stand = stand c.args.watcher.now.rows d0 (out_tells (O.written c.args.out.now) (O.write_faults c.args.out.now)) in
    let o : OutTells = out_tells (O.written c.note.new.out) (O.write_faults c.note.new.out) in
    tells_breaks c.args.plan.now c.args.round.now c.args.at c.args.row.now c.args.up c.in-Ok.answer p d d c.in-Err-note.stop o c.in-Ok.ensures.ok
    (c.in-Err-note.ensures.err d)

pub returns-in-Err-clause-err : goal.returns-in-Err-clause-err
returns-in-Err-clause-err g c =
    let D = g.D.Dial in
    let O = g.O.ByteSink in
    let d0 : DialState = dial_state (D.calls c.args.dial.now) (D.faults c.args.dial.now) (D.link_faults c.args.dial.now) in
    let d : DialState = dial_state (D.calls c.put.new.dial) (D.faults c.put.new.dial) (D.link_faults c.put.new.dial) in
    let p : Stand = stand c.args.watcher.now.rows d0 (out_tells (O.written c.args.out.now) (O.write_faults c.args.out.now)) in
    telling_breaks c.args.plan.now c.args.round.now c.args.at c.args.row.now c.args.up p d c.in-Err.ensures.err
