use Rattle.std.proofs.Common.{◌≡◌, ◌-◌, take, drop, refl, sym, ◌∙◌}
use Rattle.std.proofs.lemmas.Bool.Decides.{Decides-eqb}
use Rattle.std.proofs.lemmas.Slice.Eq.{slice_eq-Decides}
use Rattle.json_span.specs.Quote.{quoted}
use Rattle.group_resources.proofs.MemberLemmas.{text_found, no_text}
use Rattle.group_resources.proofs.list.is_text.Goals as goal

pub returns-in_default : goal.returns-in_default
returns-in_default c = λ value h w. no_text c.args.name.now c.args.text.now value (c.in_default.ensures.found value h w)

pub returns : goal.returns
returns c = λ value h w.
    let slice = take (c.in-Some.to - c.in-Some.from) (drop c.in-Some.from c.args.whole.now) in
    let same = slice_eq-Decides Decides-eqb slice c.as_slice.result.now c.eq.result c.eq.ensures in
    let wanted : c.as_slice.result.now ≡ quoted c.args.text.now = c.as_slice.ensures.value ∙ c.in_ok-wanted.ensures in
    text_found c.args.whole.now c.args.name.now c.args.text.now slice value (c.in-Some.from, c.in-Some.to) c.eq.result w
    (c.in-Some.ensures.found value h w) refl (λ t. same.0 t ∙ wanted) (λ s. same.1 (s ∙ sym wanted))
