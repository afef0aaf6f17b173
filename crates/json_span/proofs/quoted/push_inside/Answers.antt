use Rattle.std.proofs.Common.{◌≡◌, ◌+◌, ◌-◌, ◌<◌, ◌++◌, length, take, get_or, ap, sym, ◌∙◌, append_assoc, arith}
use Rattle.std.specs.Prelude.{flat_map}
use Rattle.std.proofs.lemmas.List.{take_all, take_rest}
use Rattle.json_span.specs.Quote.{escaped}
use Rattle.json_span.proofs.QuoteLemmas.{ranged, escaped_more}
use Rattle.json_span.proofs.quoted.push_inside.Goals as goal

pub returns-then-end-text-clause-ok : goal.returns-then-end-text-clause-ok
returns-then-end-text-clause-ok c =
    let text = c.args.text.now in
    let at = c.loop-at.at in
    let n = c.plain_len.result in
    let size : at + n - at ≡ n = omega arith in
    let plain = rw take_rest at c.plain_len.ensures.plain in
    ranged text c.args.out.now.items c.loop-at.out.items _ at n (at + n - at) size plain
    c.loop-at.invariant.1 c.in_ok-extend_from_slice.ensures.items
    ∙ ap (λ l. c.args.out.now.items ++ flat_map escaped l) (take_all (at + n) text (omega arith))

pub loop-at-preserved : goal.loop-at-preserved
loop-at-preserved c =
    let text = c.args.text.now in
    let at = c.loop-at.at in
    let n = c.plain_len.result in
    let before = c.args.out.now.items in
    let size : at + n - at ≡ n = omega arith in
    let plain = rw take_rest at c.plain_len.ensures.plain in
    let more : at + n < length text = omega arith in (
      omega arith,
      c.in_ok-push_escaped.ensures.ok
          ∙ (ap (λ l. l ++ escaped (get_or text (at + n) 0))
          (ranged text before c.loop-at.out.items _ at n (at + n - at) size plain c.loop-at.invariant.1
          c.in_ok-extend_from_slice.ensures.items)
          ∙ (append_assoc before (flat_map escaped (take (at + n) text)) (escaped (get_or text (at + n) 0))
          ∙ ap (λ l. before ++ l) (sym (escaped_more text (at + n) more)))),
    )
