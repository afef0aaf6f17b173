use Rattle.std.proofs.Common.{ap, subst}
use Rattle.avail_probe.specs.Watching.{Watch}
use Rattle.probe_rounds.specs.Standing.{OutTells, PaceTells, RoundsBroke, RoundsMade, out_tells, pace_tells, stand}
use Rattle.service_calls.specs.Calls.{DialState, dial_state}
use Rattle.probe_rounds.proofs.TurnLemmas.{none_probed, probed_by, probed_part}
use Rattle.probe_rounds.proofs.rounds.run_rounds.Goals as goal

pub returns-in-Ok-all_rounds-clause-ok : goal.returns-in-Ok-all_rounds-clause-ok
returns-in-Ok-all_rounds-clause-ok g c =
    let D = g.D.Dial in
    let O = g.O.ByteSink in
    let K = g.K.Clock in
    let G = g.G.Going in
    let d0 : DialState = dial_state (D.calls c.args.dial.now) (D.faults c.args.dial.now) (D.link_faults c.args.dial.now) in
    let d : DialState = dial_state (D.calls c.all_rounds.new.dial) (D.faults c.all_rounds.new.dial) (D.link_faults c.all_rounds.new.dial) in
    let o0 : OutTells = out_tells (O.written c.args.out.now) (O.write_faults c.args.out.now) in
    let o : OutTells = out_tells (O.written c.all_rounds.new.out) (O.write_faults c.all_rounds.new.out) in
    let k0 : PaceTells = pace_tells (K.given c.args.clock.now) (K.rests c.args.clock.now) (G.asked c.args.going.now) (G.noes c.args.going.now) in
    let k : PaceTells = pace_tells (K.given c.all_rounds.new.clock) (K.rests c.all_rounds.new.clock) (G.asked c.all_rounds.new.going) (G.noes c.all_rounds.new.going) in
    probed_by c.args.plan.now c.args.rows.now c.any_refused.result d0 d o0 o k0 k c.all_rounds.new.watcher.rows c.any_refused.ensures
    (subst (λ r. RoundsMade c.args.plan.now c.args.rows.now (stand r d0 o0) (stand c.all_rounds.new.watcher.rows d o) k0 k)
    (ap (λ (w : Watch). w.rows) c.in-Ok.ensures) c.in-Ok-all_rounds.ensures.ok)

pub returns-in_default-clause-err : goal.returns-in_default-clause-err
returns-in_default-clause-err g c = none_probed c.args.plan.now c.args.rows.now _ _ _

pub returns-clause-err : goal.returns-clause-err
returns-clause-err g c =
    let D = g.D.Dial in
    let O = g.O.ByteSink in
    let K = g.K.Clock in
    let G = g.G.Going in
    let d0 : DialState = dial_state (D.calls c.args.dial.now) (D.faults c.args.dial.now) (D.link_faults c.args.dial.now) in
    let d : DialState = dial_state (D.calls c.all_rounds.new.dial) (D.faults c.all_rounds.new.dial) (D.link_faults c.all_rounds.new.dial) in
    let o0 : OutTells = out_tells (O.written c.args.out.now) (O.write_faults c.args.out.now) in
    let o : OutTells = out_tells (O.written c.all_rounds.new.out) (O.write_faults c.all_rounds.new.out) in
    let k0 : PaceTells = pace_tells (K.given c.args.clock.now) (K.rests c.args.clock.now) (G.asked c.args.going.now) (G.noes c.args.going.now) in
    let k : PaceTells = pace_tells (K.given c.all_rounds.new.clock) (K.rests c.all_rounds.new.clock) (G.asked c.all_rounds.new.going) (G.noes c.all_rounds.new.going) in
    probed_part c.args.plan.now c.args.rows.now c.in-Err.stop d0 d o0 o k0 k
    (subst (λ r. RoundsBroke c.args.plan.now c.args.rows.now (stand r d0 o0) c.in-Err.stop d o k0 k)
    (ap (λ (w : Watch). w.rows) c.in-Ok.ensures) c.in-Err.ensures.err)
