use Rattle.std.proofs.Common.{map, string_bytes, [], ◌∷◌, codes}
use Rattle.command_options.specs.Options.{given_of}
use Rattle.resources_command.specs.Words.{words_by, words_of}
use Rattle.resources_command.proofs.WordsLemmas.{refused}
use Rattle.resources_command.proofs.words.words_of.Goals as goal

pub returns-in-Ok : goal.returns-in-Ok
unfolding words_of
returns-in-Ok c = rw c.in-Ok.ensures c.words_by.ensures

pub returns-in-Err : goal.returns-in-Err
unfolding words_of
returns-in-Err c =
    refused
    (given_of (codes "apiservices" ∷ codes "endpoints" ∷ codes "previous" ∷ codes "request-timeout-ms" ∷ []) (map string_bytes c.args.words.now))
    words_by c.in-Err.fault c.in-Err.ensures
