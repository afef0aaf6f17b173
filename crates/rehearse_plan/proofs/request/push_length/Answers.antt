use Rattle.std.proofs.Common.{sym, ◌∙◌, refl, List, ℕ}
use Rattle.rehearse_plan.proofs.request.push_length.Goals as goal

pub returns-in_ok-push_header : goal.returns-in_ok-push_header
returns-in_ok-push_header c =
    let e = sym c.has_body.ensures ∙ c.if-has_body.true in
    rw (c.in_ok-push_header.ensures, c.as_bytes.ensures.value, c.format.ensures.text, e) (refl {A = List ℕ})
