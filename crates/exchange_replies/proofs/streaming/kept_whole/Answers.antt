use Rattle.std.proofs.Common.{◌<◌, List, ℕ, ◌∙◌, sym, ap, subst, refl, length, nat_le, IfOk}
use Rattle.std.specs.Prelude.{option_map}
use Rattle.stage_event.specs.Kept.{IsKept}
use Rattle.exchange_replies.proofs.KeepLemmas.{sent_none, sent_all, kept_some, kept_none}
use Rattle.exchange_replies.proofs.streaming.kept_whole.Goals as goal

pub returns-then-is_head : goal.returns-then-is_head
returns-then-is_head c = λ body h.
    subst (λ (l : List ℕ). IfOk c.kept.result (IsKept c.args.omit l))
    (c.as_slice.ensures ∙ sym (sent_none c.args.request.now c.is_head.result body c.is_head.ensures c.if-is_head.true)) c.kept.ensures

pub returns-in-Some : goal.returns-in-Some
returns-in-Some c = λ body h.
    let got = ap (option_map (λ bytes. bytes.now)) (sym c.in-Some.is) ∙ c.body.ensures ∙ h.shown in
    subst (λ (l : List ℕ). IfOk c.kept-in-Some.result (IsKept c.args.omit l))
    (kept_some (nat_le (length body) 4194304) body c.in-Some.bytes.now got
    ∙ sym (sent_all c.args.request.now c.is_head.result body c.is_head.ensures c.if-is_head.false)) c.kept-in-Some.ensures

pub returns-in-None : goal.returns-in-None
returns-in-None c = λ body h.
    let got = ap (option_map (λ bytes. bytes.now)) (sym c.in-None.is) ∙ c.body.ensures ∙ h.shown in
    subst (λ (l : List ℕ). 4194304 < length l)
    (sym (sent_all c.args.request.now c.is_head.result body c.is_head.ensures c.if-is_head.false))
    (kept_none (nat_le (length body) 4194304) 4194304 body refl got)
