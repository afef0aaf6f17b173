use Rattle.std.proofs.Common.{ap, map, string_bytes}
use Rattle.serve_config.specs.Serve.{serve_given, serve_of, with_flags}
use Rattle.serve_config.proofs.FaultLemmas.{refused}
use Rattle.serve_config.proofs.serve.serve_of.Goals as goal

pub returns-in-Ok-clause-gives : goal.returns-in-Ok-clause-gives
unfolding serve_of
returns-in-Ok-clause-gives c =
    let own = ap (map string_bytes) c.as_slice.ensures.value in
    rw c.in-Ok.ensures (rw own at c.serve_given.ensures.gives)

pub returns-in-Err-clause-gives : goal.returns-in-Err-clause-gives
unfolding serve_of
returns-in-Err-clause-gives c = refused (with_flags (map string_bytes c.args.words.now)) serve_given c.in-Err.fault c.in-Err.ensures
