use Rattle.std.proofs.Common.{◌≡◌, map, take}
use Rattle.clap.specs.Words.{app_of}
use Rattle.command_options.specs.Parser.{app_with}
use Rattle.command_options.proofs.given.command_with.Given as goal

-- the command has the options whose names were passed
abbrev pub invariant-loop-name : goal.invariant-loop-name
invariant-loop-name l = app_of l.command ≡ app_with (map (λ own. own.now) (take l.name-index l.names))
