use Rattle.std.proofs.KnownBytes.{Appends-nil}
use Rattle.command_ends.specs.Ports.{Port, port}
use Rattle.service_calls.specs.Calls.{DialState}
use Rattle.resources_command.specs.Run.{order}
use Rattle.resources_command.proofs.RunLemmas.{none_asked}
use Rattle.resources_command.proofs.run.merge.Goals as goal

pub returns-in-Err-clause-merges : goal.returns-in-Err-clause-merges
returns-in-Err-clause-merges g c =
    let D = g.D.Dial in
    let O = g.O.ByteSink in
    let m : DialState = record { calls = D.calls c.args.dial.now; faults = D.faults c.args.dial.now; link_faults = D.link_faults c.args.dial.now } in
    let output : Port =
    port (O.written c.args.out.now) (O.write_faults c.args.out.now) (O.written c.args.out.now) (O.write_faults c.args.out.now) in
    none_asked c.args.settings.now (order c.args.settings.now) m output (Appends-nil (O.written c.args.out.now))
