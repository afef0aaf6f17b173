use Rattle.std.proofs.Common.{◌≡◌, drop, map, string_bytes}
use Rattle.std.specs.List.{list_any}
use Rattle.command_options.specs.Parser.{is_doubtful}
use Rattle.command_options.proofs.spelling.has_doubtful.Given as goal

-- the words that were passed aren't doubtful
abbrev pub invariant-loop-word : goal.invariant-loop-word
invariant-loop-word l = list_any is_doubtful (map string_bytes (drop l.word-index l.words)) ≡ list_any is_doubtful (map string_bytes l.words)
