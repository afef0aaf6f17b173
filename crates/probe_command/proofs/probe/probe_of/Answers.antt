use Rattle.std.proofs.Common.{map, string_bytes}
use Rattle.command_options.specs.Options.{given_of}
use Rattle.probe_command.specs.Probe.{probe_by, probe_names, probe_of}
use Rattle.probe_command.proofs.FaultLemmas.{refused}
use Rattle.probe_command.proofs.probe.probe_of.Goals as goal

pub returns-in-Ok-clause-gives : goal.returns-in-Ok-clause-gives
unfolding probe_of
returns-in-Ok-clause-gives c = rw c.in-Ok.ensures c.probe_by.ensures.gives

pub returns-in-Err-clause-gives : goal.returns-in-Err-clause-gives
unfolding probe_of
returns-in-Err-clause-gives c = refused (given_of probe_names (map string_bytes c.args.words.now)) probe_by c.in-Err.fault c.in-Err.ensures
