use Rattle.std.proofs.Common.{◌-◌, true, false, take, drop, refl, sym, ◌∙◌}
use Rattle.group_resources.proofs.MemberLemmas.{array_found, no_array}
use Rattle.group_resources.proofs.list.array_in.Goals as goal

pub returns-in_err-from : goal.returns-in_err-from
returns-in_err-from c = λ value h w. rw c.from_residual.ensures (no_array c.args.name.now value (c.in_err-from.ensures.found value h w))

pub returns-then-begins : goal.returns-then-begins
returns-then-begins c = λ value h w.
    array_found c.args.whole.now c.args.name.now (take (c.in_ok-from.to - c.in_ok-from.from) (drop c.in_ok-from.from c.args.whole.now)) value
    (c.in_ok-from.from, c.in_ok-from.to) true h w (c.in_ok-from.ensures.found value h w) refl (sym c.begins.ensures ∙ c.if-begins.true)

pub returns-else-begins : goal.returns-else-begins
returns-else-begins c = λ value h w.
    array_found c.args.whole.now c.args.name.now (take (c.in_ok-from.to - c.in_ok-from.from) (drop c.in_ok-from.from c.args.whole.now)) value
    (c.in_ok-from.from, c.in_ok-from.to) false h w (c.in_ok-from.ensures.found value h w) refl (sym c.begins.ensures ∙ c.if-begins.false)
