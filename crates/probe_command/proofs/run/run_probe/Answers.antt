use Rattle.std.proofs.Common.{inl, inr, map, refl, string_bytes, subst, sym}
use Rattle.command_ends.specs.Ports.{FilesPort, Port, files_port, port}
use Rattle.probe_command.specs.Run.{Run}
use Rattle.probe_rounds.specs.Standing.{PaceTells, pace_tells}
use Rattle.service_calls.specs.Calls.{DialState, dial_state}
use Rattle.probe_command.proofs.run.run_probe.Goals as goal

pub returns-in-Ok-clause-run : goal.returns-in-Ok-clause-run
returns-in-Ok-clause-run g c =
    inr (record {
      config = c.in-Ok.config;
      configures = c.in-Ok.ensures.ok;
      files_are_sound = c.in-Ok.ensures.sound;
      ends = c.probe_over.ensures.ends;
    })

pub returns-in-Err-clause-run : goal.returns-in-Err-clause-run
returns-in-Err-clause-run g c =
    let F = g.F.Files in
    let T = g.T.Files in
    let D = g.D.Dial in
    let O = g.O.ByteSink in
    let K = g.K.Clock in
    let G = g.G.Going in
    let files : FilesPort =
    files_port (F.files c.args.files.now) (F.failed c.args.files.now) (F.faults c.args.files.now)
    (F.files c.configure_probe.new.files) (F.failed c.configure_probe.new.files) (F.faults c.configure_probe.new.files) in
    let tokens : FilesPort =
    files_port (T.files c.args.tokens.now) (T.failed c.args.tokens.now) (T.faults c.args.tokens.now)
    (T.files c.configure_probe.new.tokens) (T.failed c.configure_probe.new.tokens) (T.faults c.configure_probe.new.tokens) in
    let d : DialState = dial_state (D.calls c.args.dial.now) (D.faults c.args.dial.now) (D.link_faults c.args.dial.now) in
    let output : Port =
    port (O.written c.args.out.now) (O.write_faults c.args.out.now) (O.written c.args.out.now) (O.write_faults c.args.out.now) in
    let k : PaceTells = pace_tells (K.given c.args.clock.now) (K.rests c.args.clock.now) (G.asked c.args.going.now) (G.noes c.args.going.now) in
    subst (λ ended. Run (map string_bytes c.args.words.now.items) files tokens d d output k k ended) (sym c.refused.ensures)
    (inl (c.in-Err.ensures.err, refl, refl, refl, refl))
