use Rattle.std.proofs.Common.{ℕ, List, [], Bor, sym, ◌∙◌}
use Rattle.request_info.proofs.PartsLemmas.{first_kept, first_dropped, first_of_none}
use Rattle.request_info.proofs.parts.from_first.Goals as goal

abbrev none : Bor (List ℕ)
none = record { ref_ptr = (0, 0); now = [] }

pub returns-then-not-is_empty : goal.returns-then-not-is_empty
returns-then-not-is_empty c =
    first_kept c.loop-i.i c.args.parts.now none c.loop-i-test.true (sym c.if-not-is_empty.ensures) ∙ c.loop-i.invariant

pub loop-i-preserved : goal.loop-i-preserved
loop-i-preserved c =
    first_dropped c.loop-i.i c.args.parts.now none c.loop-i-test.true (sym c.if-not-is_empty.ensures) ∙ c.loop-i.invariant

pub returns : goal.returns
returns c = first_of_none c.loop-i.i c.args.parts.now c.loop-i-test.false ∙ c.loop-i.invariant
