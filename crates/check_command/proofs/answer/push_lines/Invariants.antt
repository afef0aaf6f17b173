use Rattle.std.proofs.Common.{◌≡◌, ◌++◌, take}
use Rattle.check_command.specs.Answer.{lines_text}
use Rattle.check_command.proofs.answer.push_lines.Given as goal

abbrev pub invariant-loop-line : goal.invariant-loop-line
invariant-loop-line l = l.out.items ≡ l.fn.out.items ++ lines_text (take l.line-index l.bad)
