use Rattle.std.proofs.Common.{ℕ, List, ap, sym, ◌∙◌}
use Rattle.group_resources.specs.Lines.{has_version}
use Rattle.group_resources.proofs.ReadingLemmas.{same_version}
use Rattle.group_resources.proofs.reading.next_line.Goals as goal

pub returns-then-is_among-clause-err : goal.returns-then-is_among-clause-err
returns-then-is_among-clause-err c = λ line after is starts.
    same_version c.lines_are_read_back.ensures c.args.bytes.now c.in-Ok.read.0 c.in-Ok.read.1 line after c.args.lines.now c.in-Ok.ensures.ok
    (ap (λ (v : List ℕ). has_version v c.args.lines.now) (sym c.as_str.ensures) ∙ sym c.is_among.ensures ∙ c.if-is_among.true) is starts
