use Rattle.std.proofs.Common.{map, string_bytes}
use Rattle.command_options.specs.Options.{given_of}
use Rattle.serve_config.specs.Serve.{serve_by, serve_given, serve_names}
use Rattle.serve_config.proofs.FaultLemmas.{refused}
use Rattle.serve_config.proofs.serve.serve_given.Goals as goal

pub returns-in-Ok-clause-gives : goal.returns-in-Ok-clause-gives
unfolding serve_given
returns-in-Ok-clause-gives c = rw c.in-Ok.ensures c.serve_by.ensures.gives

pub returns-in-Err-clause-gives : goal.returns-in-Err-clause-gives
unfolding serve_given
returns-in-Err-clause-gives c = refused (given_of serve_names (map string_bytes c.args.words.now)) serve_by c.in-Err.fault c.in-Err.ensures
