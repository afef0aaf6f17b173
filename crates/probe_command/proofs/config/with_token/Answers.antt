use Rattle.std.proofs.Common.{refl}
use Rattle.command_ends.specs.Ports.{FilesPort, files_port}
use Rattle.probe_command.proofs.ConfigLemmas.{untold_so}
use Rattle.probe_command.proofs.config.with_token.Goals as goal

pub returns-in-Ok-clause-ok : goal.returns-in-Ok-clause-ok
returns-in-Ok-clause-ok g c = (refl, refl, c.in-Ok.ensures.ok)

pub returns-in-Err-clause-err : goal.returns-in-Err-clause-err
returns-in-Err-clause-err g c =
    let T = g.T.Files in
    let tokens : FilesPort =
    files_port (T.files c.args.tokens.now) (T.failed c.args.tokens.now) (T.faults c.args.tokens.now)
    (T.files c.read_token.new.tokens) (T.failed c.read_token.new.tokens) (T.faults c.read_token.new.tokens) in
    untold_so c.args.told.token_file c.in-Err.stop tokens _ _ c.in-Err.ensures.err c.token_outcome.ensures
