use Rattle.std.proofs.Common.{ℕ, List, [], Bor, arith, sym, ◌∙◌, ap}
use Rattle.std.proofs.lemmas.List.{take_all}
use Rattle.request_info.specs.Parts.{texts_of, to_last}
use Rattle.request_info.proofs.PartsLemmas.{to_last_kept, to_last_dropped, to_last_of_none}
use Rattle.request_info.proofs.parts.to_last.Goals as goal
use Rattle.request_info.proofs.parts.to_last.Goals.{then-not-is_empty, else-not-is_empty}

abbrev none : Bor (List ℕ)
none = record { ref_ptr = (0, 0); now = [] }

pub loop-i-init : goal.loop-i-init
loop-i-init c = record { within = omega arith; kept = to_last_of_none }

pub loop-i-preserved : goal.loop-i-preserved
loop-i-preserved c =
    let parts = c.args.parts.now in
    elim c.if-not-is_empty.branch [
      | then-not-is_empty w ↦ rw w.end-is (record {
        within = omega arith;
        kept = to_last_kept c.loop-i.i parts none c.loop-i-test.true (sym c.is_empty.ensures ∙ w.if-not-is_empty.true);
      })
      | else-not-is_empty w ↦ rw w.end-is (record {
        within = omega (arith, c.loop-i.invariant.within);
        kept = c.loop-i.invariant.kept ∙ to_last_dropped c.loop-i.i parts none c.loop-i-test.true (sym c.is_empty.ensures ∙ w.if-not-is_empty.false);
      })
    ]

pub returns : goal.returns
returns c =
    c.loop-i.invariant.kept ∙ ap (λ parts. to_last (texts_of parts)) (take_all c.loop-i.i c.args.parts.now c.loop-i-test.false)
