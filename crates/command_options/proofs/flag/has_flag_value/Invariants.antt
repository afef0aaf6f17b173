use Rattle.std.proofs.Common.{◌≡◌, drop, map, string_bytes}
use Rattle.std.specs.List.{list_any}
use Rattle.command_options.specs.Flag.{gives_value}
use Rattle.command_options.proofs.flag.has_flag_value.Given as goal

-- the words that were passed give no value
abbrev pub invariant-loop-word : goal.invariant-loop-word
invariant-loop-word l = list_any (gives_value l.flag) (map string_bytes (drop l.word-index l.words)) ≡ list_any (gives_value l.flag) (map string_bytes l.words)
