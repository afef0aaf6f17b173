use Rattle.std.proofs.Common.{◌≡◌, ◌++◌, drop, filter}
use Rattle.token_users.specs.File.{is_some_text, texts_of}
use Rattle.token_users.proofs.groups.kept_parts.Given as goal

abbrev pub invariant-loop-part : goal.invariant-loop-part
invariant-loop-part l =
    l.groups.items ++ filter is_some_text (texts_of (drop l.part-index l.parts)) ≡ filter is_some_text (texts_of l.parts)
