use Rattle.std.proofs.Common.{map, string_bytes}
use Rattle.command_options.specs.Options.{given_of}
use Rattle.ship_command.specs.Ship.{ship_by, ship_names, ship_of}
use Rattle.ship_command.proofs.FaultLemmas.{refused}
use Rattle.ship_command.proofs.ship.ship_of.Goals as goal

pub returns-in-Ok-clause-gives : goal.returns-in-Ok-clause-gives
unfolding ship_of
returns-in-Ok-clause-gives c = rw c.in-Ok.ensures c.ship_by.ensures.gives

pub returns-in-Err-clause-gives : goal.returns-in-Err-clause-gives
unfolding ship_of
returns-in-Err-clause-gives c = refused (given_of ship_names (map string_bytes c.args.words.now)) ship_by c.in-Err.fault c.in-Err.ensures
