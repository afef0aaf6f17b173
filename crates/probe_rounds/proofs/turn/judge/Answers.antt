use Rattle.std.proofs.Common.{◌∙◌, ap, sym}
use Rattle.service_calls.specs.Calls.{DialState, dial_state}
use Rattle.avail_probe.specs.Watching.{wish_at}
use Rattle.probe_rounds.specs.Standing.{OutTells, Stand, out_tells, stand}
use Rattle.probe_rounds.proofs.TurnLemmas.{judged_breaks, judged_goes, judged_stays}
use Rattle.probe_rounds.proofs.turn.judge.Goals as goal

pub returns-in-None-clause-ok : goal.returns-in-None-clause-ok
returns-in-None-clause-ok g c =
    let D = g.D.Dial in
    let O = g.O.ByteSink in
    let d : DialState = dial_state (D.calls c.args.dial.now) (D.faults c.args.dial.now) (D.link_faults c.args.dial.now) in
    let o : OutTells = out_tells (O.written c.args.out.now) (O.write_faults c.args.out.now) in
    let now = c.probed.new.self.rows in
    judged_stays c.args.plan.now c.args.round.now c.args.at c.args.row.now c.args.good c.args.watcher.now.rows now d o c.probed.ensures.rows
    (sym c.in-None.is ∙ c.probed.ensures.wish ∙ ap (λ k. wish_at k c.args.at now) c.requires.threshold)

pub returns-in-Ok-clause-ok : goal.returns-in-Ok-clause-ok
returns-in-Ok-clause-ok g c =
    let D = g.D.Dial in
    let O = g.O.ByteSink in
    let d : DialState = dial_state (D.calls c.args.dial.now) (D.faults c.args.dial.now) (D.link_faults c.args.dial.now) in
    let o : OutTells = out_tells (O.written c.args.out.now) (O.write_faults c.args.out.now) in
    let now = c.probed.new.self.rows in
    let q : Stand = stand c.tell.new.watcher.rows (dial_state (D.calls c.tell.new.dial) (D.faults c.tell.new.dial) (D.link_faults c.tell.new.dial))
    (out_tells (O.written c.tell.new.out) (O.write_faults c.tell.new.out)) in
    judged_goes c.args.plan.now c.args.round.now c.args.at c.args.row.now c.args.good c.args.watcher.now.rows now d o c.probed.ensures.rows
    c.in-Some.up q (sym c.in-Some.is ∙ c.probed.ensures.wish ∙ ap (λ k. wish_at k c.args.at now) c.requires.threshold) c.in-Ok.ensures.ok

pub returns-in-Err-clause-err : goal.returns-in-Err-clause-err
returns-in-Err-clause-err g c =
    let D = g.D.Dial in
    let O = g.O.ByteSink in
    let d : DialState = dial_state (D.calls c.args.dial.now) (D.faults c.args.dial.now) (D.link_faults c.args.dial.now) in
    let o : OutTells = out_tells (O.written c.args.out.now) (O.write_faults c.args.out.now) in
    let now = c.probed.new.self.rows in
    let e : DialState = dial_state (D.calls c.tell.new.dial) (D.faults c.tell.new.dial) (D.link_faults c.tell.new.dial) in
    let u : OutTells = out_tells (O.written c.tell.new.out) (O.write_faults c.tell.new.out) in
    judged_breaks c.args.plan.now c.args.round.now c.args.at c.args.row.now c.args.good c.args.watcher.now.rows now d o c.probed.ensures.rows
    c.in-Some.up c.in-Err.stop e u (sym c.in-Some.is ∙ c.probed.ensures.wish ∙ ap (λ k. wish_at k c.args.at now) c.requires.threshold)
    c.in-Err.ensures.err
