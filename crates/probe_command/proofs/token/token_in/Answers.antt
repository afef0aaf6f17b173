use Rattle.std.proofs.Common.{◌≡◌, ℕ, List, true, false, ap, sym, subst, ◌∙◌}
use Rattle.std.proofs.lemmas.Result.{IfOk-weaker}
use Rattle.probe_command.specs.Token.{is_line_end, text_in}
use Rattle.probe_command.proofs.TokenLemmas.{no_token, text_of_token}
use Rattle.probe_command.proofs.token.token_in.Goals as goal

pub returns-then-not-is_line_end : goal.returns-then-not-is_line_end
returns-then-not-is_line_end c =
    sym (no_token c.args.bytes.now c.token_size-size.result c.token_size-size.ensures.size
    (subst (λ (r : List ℕ). is_line_end r ≡ false) c.later_bytes-rest.ensures (sym c.is_line_end.ensures ∙ c.if-not-is_line_end.true)))

pub returns : goal.returns
returns c =
    let t = text_of_token c.args.bytes.now c.token_size-size.result c.token_size-size.ensures.size
    (subst (λ (r : List ℕ). is_line_end r ≡ true) c.later_bytes-rest.ensures (sym c.is_line_end.ensures ∙ c.if-not-is_line_end.false)) in
    IfOk-weaker c.text_in.result _ _ (λ own h. h ∙ ap text_in c.first_bytes.ensures ∙ sym t) c.text_in.ensures
