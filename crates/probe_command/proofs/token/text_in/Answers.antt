use Rattle.std.proofs.Common.{List, ℕ, Some, ap, sym, ◌∙◌}
use Rattle.probe_command.proofs.TokenLemmas.{no_text, text_is}
use Rattle.probe_command.proofs.token.text_in.Goals as goal

pub returns-in-Ok-copy_of : goal.returns-in-Ok-copy_of
returns-in-Ok-copy_of c =
    let h = c.in-Ok.ensures.cases in
    ap (λ (t : List ℕ). Some t) (c.in-Ok-copy_of.ensures ∙ h.0) ∙ sym (text_is c.args.bytes.now h.1)

pub returns-in-Err : goal.returns-in-Err
returns-in-Err c = sym (no_text c.args.bytes.now c.in-Err.ensures.cases.0)
