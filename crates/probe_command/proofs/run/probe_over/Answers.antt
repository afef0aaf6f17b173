use Rattle.std.proofs.Common.{◌∙◌, ap, subst, sym}
use Rattle.probe_command.specs.Run.{Ends, ended_by}
use Rattle.probe_command.proofs.RunLemmas.{ends_so}
use Rattle.probe_rounds.specs.Standing.{PaceTells, pace_tells}
use Rattle.service_calls.specs.Calls.{DialState, dial_state}
use Rattle.command_ends.specs.Ports.{Port, port}
use Rattle.probe_command.proofs.run.probe_over.Goals as goal

pub returns-in-Ok-clause-ends : goal.returns-in-Ok-clause-ends
returns-in-Ok-clause-ends g c =
    let D = g.D.Dial in
    let O = g.O.ByteSink in
    let K = g.K.Clock in
    let G = g.G.Going in
    let d0 : DialState = dial_state (D.calls c.args.dial.now) (D.faults c.args.dial.now) (D.link_faults c.args.dial.now) in
    let d1 : DialState = dial_state (D.calls c.table_for.new.dial) (D.faults c.table_for.new.dial) (D.link_faults c.table_for.new.dial) in
    let d : DialState = dial_state (D.calls c.run_rounds-ended.new.dial) (D.faults c.run_rounds-ended.new.dial) (D.link_faults c.run_rounds-ended.new.dial) in
    let output : Port =
    port (O.written c.args.out.now) (O.write_faults c.args.out.now) (O.written c.run_rounds-ended.new.out) (O.write_faults c.run_rounds-ended.new.out) in
    let k0 : PaceTells = pace_tells (K.given c.args.clock.now) (K.rests c.args.clock.now) (G.asked c.args.going.now) (G.noes c.args.going.now) in
    let k : PaceTells =
    pace_tells (K.given c.run_rounds-ended.new.clock) (K.rests c.run_rounds-ended.new.clock) (G.asked c.run_rounds-ended.new.going) (G.noes c.run_rounds-ended.new.going) in
    subst (Ends c.args.config d0 d output k0 k) (sym (c.ended_by.ensures ∙ ap ended_by c.status_of.ensures))
    (ends_so c.args.config _ _ _ d0 d1 d output k0 k c.start_of-plan.ensures.plan c.start_of-plan.ensures.named c.start_of-plan.ensures.table
    c.in-Ok.table _ c.run_rounds-ended.result c.in-Ok.ensures.ok c.rows.ensures.rows c.run_rounds-ended.ensures.ok c.run_rounds-ended.ensures.err)
