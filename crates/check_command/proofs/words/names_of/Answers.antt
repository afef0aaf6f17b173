use Rattle.std.proofs.Common.{ap, codes, map, string_bytes}
use Rattle.command_options.specs.Options.{is_memory, with_flag}
use Rattle.check_command.specs.Words.{names_of, names_of_all}
use Rattle.check_command.proofs.FlagLemmas.{fails_first}
use Rattle.check_command.proofs.words.names_of.Goals as goal

pub returns-in-Ok : goal.returns-in-Ok
unfolding names_of
returns-in-Ok c =
    let own = ap (map string_bytes) c.as_slice.ensures.value in
    rw c.in-Ok.ensures (rw own at c.names_of_all.ensures)

pub returns-in-Err : goal.returns-in-Err
unfolding names_of
returns-in-Err c = fails_first is_memory c.in-Err.fault (with_flag (codes "summary") (map string_bytes c.args.words.now)) names_of_all c.in-Err.ensures
