use Rattle.std.proofs.Common.{◌≡◌, map, take, string_bytes}
use Rattle.command_options.specs.Flag.{as_option}
use Rattle.command_options.proofs.flag.as_options.Given as goal

-- the words that were passed are handed on
abbrev pub invariant-loop-word : goal.invariant-loop-word
invariant-loop-word l = map string_bytes l.own.items ≡ map (as_option l.flag) (map string_bytes (take l.word-index l.words))
