use Rattle.std.proofs.Common.{◌≡◌, ◌+◌, ◌++◌, length, ap, ◌∙◌, sym, arith, Some, drop, subst}
use Rattle.json_span.specs.Value.{flat}
use Rattle.json_span.proofs.SpanLemmas.{string_ended, value_ended, behind_colon, room}
use Rattle.json_span.proofs.members.entry_at.Goals as goal

pub returns-clause-entry : goal.returns-clause-entry
returns-clause-entry c = λ n v rest e h ends.
    let text = c.args.text.now in
    let i = c.args.at in
    let name = string_ended text n (flat v ++ rest) 58 i c.string_len.result e h.0 c.string_len.ensures.reach in
    let here : drop (i + c.string_len.result + 1) text ≡ flat v ++ rest = subst (λ k. drop (i + k + 1) text ≡ flat v ++ rest) (sym name) (behind_colon text n (flat v ++ rest) i e) in
    let value = value_ended text v rest (i + c.string_len.result + 1) c.value_len.result here h.1 h.2 ends c.value_len.ensures.reach in
    ap (λ k. Some (i + k, i + k + 1 + c.value_len.result)) name ∙ ap (λ k. Some (i + length n, i + length n + 1 + k)) value

pub returns-then-colon-text-clause-entry : goal.returns-then-colon-text-clause-entry
returns-then-colon-text-clause-entry c = λ n v rest e h ends.
    let name = string_ended c.args.text.now n (flat v ++ rest) 58 c.args.at c.string_len.result e h.0 c.string_len.ensures.reach in
    absurd (omega (arith, name, c.if-colon-text.true, room c.args.text.now n (flat v ++ rest) 58 c.args.at c.requires e))
