use Rattle.std.proofs.Common.{◌≡◌, drop}
use Rattle.group_resources.specs.Merged.{kept_of}
use Rattle.group_resources.proofs.choice.kept_of.Given as goal

-- none of the lines so far is kept
abbrev pub invariant-loop-line : goal.invariant-loop-line
invariant-loop-line l = kept_of l.version (drop l.line-index l.lines) ≡ kept_of l.version l.lines
