use Rattle.std.proofs.Common.{◌≡◌, drop, map, string_bytes}
use Rattle.std.specs.List.{list_any}
use Rattle.command_options.specs.Flag.{is_flag}
use Rattle.command_options.proofs.flag.has_flag.Given as goal

-- no word that was passed is the flag
abbrev pub invariant-loop-word : goal.invariant-loop-word
invariant-loop-word l = list_any (is_flag l.flag) (map string_bytes (drop l.word-index l.words)) ≡ list_any (is_flag l.flag) (map string_bytes l.words)
