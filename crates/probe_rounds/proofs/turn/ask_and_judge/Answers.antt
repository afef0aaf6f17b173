use Rattle.probe_rounds.specs.Standing.{OutTells, Stand, out_tells, stand}
use Rattle.service_calls.specs.Calls.{DialState, dial_state}
use Rattle.probe_rounds.proofs.TurnLemmas.{asking_broke, asks_break, asks_goes}
use Rattle.probe_rounds.proofs.turn.ask_and_judge.Goals as goal

pub returns-in-Ok-judge-clause-ok : goal.returns-in-Ok-judge-clause-ok
returns-in-Ok-judge-clause-ok g c =
    let D = g.D.Dial in
    let O = g.O.ByteSink in
    let p : Stand = stand c.args.watcher.now.rows (dial_state (D.calls c.args.dial.now) (D.faults c.args.dial.now) (D.link_faults c.args.dial.now))
    (out_tells (O.written c.args.out.now) (O.write_faults c.args.out.now)) in
    let d : DialState = dial_state (D.calls c.probe.new.dial) (D.faults c.probe.new.dial) (D.link_faults c.probe.new.dial) in
    let q : Stand = stand c.judge.new.watcher.rows (dial_state (D.calls c.judge.new.dial) (D.faults c.judge.new.dial) (D.link_faults c.judge.new.dial))
    (out_tells (O.written c.judge.new.out) (O.write_faults c.judge.new.out)) in
    asks_goes c.args.plan.now c.args.round.now c.args.at c.args.row.now c.args.address c.in-Ok.good p q d c.in-Ok.ensures.ok c.in-Ok-judge.ensures.ok

pub returns-in-Err-judge-clause-err : goal.returns-in-Err-judge-clause-err
returns-in-Err-judge-clause-err g c =
    let D = g.D.Dial in
    let O = g.O.ByteSink in
    let p : Stand = stand c.args.watcher.now.rows (dial_state (D.calls c.args.dial.now) (D.faults c.args.dial.now) (D.link_faults c.args.dial.now))
    (out_tells (O.written c.args.out.now) (O.write_faults c.args.out.now)) in
    let d : DialState = dial_state (D.calls c.probe.new.dial) (D.faults c.probe.new.dial) (D.link_faults c.probe.new.dial) in
    let e : DialState = dial_state (D.calls c.judge.new.dial) (D.faults c.judge.new.dial) (D.link_faults c.judge.new.dial) in
    let o : OutTells = out_tells (O.written c.judge.new.out) (O.write_faults c.judge.new.out) in
    asks_break c.args.plan.now c.args.round.now c.args.at c.args.row.now c.args.address c.in-Ok.good p d e c.in-Err-judge.stop o c.in-Ok.ensures.ok
    c.in-Err-judge.ensures.err

pub returns-in-Err-clause-err : goal.returns-in-Err-clause-err
returns-in-Err-clause-err g c =
    let D = g.D.Dial in
    let O = g.O.ByteSink in
    let p : Stand = stand c.args.watcher.now.rows (dial_state (D.calls c.args.dial.now) (D.faults c.args.dial.now) (D.link_faults c.args.dial.now))
    (out_tells (O.written c.args.out.now) (O.write_faults c.args.out.now)) in
    let d : DialState = dial_state (D.calls c.probe.new.dial) (D.faults c.probe.new.dial) (D.link_faults c.probe.new.dial) in
    asking_broke c.args.plan.now c.args.round.now c.args.at c.args.row.now c.args.address p d c.in-Err.ensures.err
