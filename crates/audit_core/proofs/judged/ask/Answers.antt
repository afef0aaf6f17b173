use Rattle.std.proofs.Common.{ap, ◌∙◌}
use Rattle.std.proofs.lemmas.Result.{IfOk-weaker}
use Rattle.request_info.specs.declared.fault.InfoFault.TheVariants.{BadTarget, NoKind}
use Rattle.audit_core.specs.Unread.{is_unread}
use Rattle.audit_core.proofs.JudgedLemmas.{asked_info, asked_fault}
use Rattle.audit_core.proofs.judged.ask.Goals as goal

pub returns-in-Ok-is_unread : goal.returns-in-Ok-is_unread
returns-in-Ok-is_unread c =
    asked_info c.args.request.now c.as_str-method.result.now c.as_str-target.result.now c.in-Ok.info c.in-Ok-is_unread.refused
    c.as_str-method.ensures c.as_str-target.ensures c.in-Ok.ensures (c.in-Ok-is_unread.ensures ∙ ap (λ x. is_unread x c.as_str-target.result.now) c.as_str.ensures)

pub returns-in-Err-BadTarget : goal.returns-in-Err-BadTarget
returns-in-Err-BadTarget c =
    let fault = rw c.in-Err-BadTarget.field-0-is at c.in-Err-BadTarget.ensures in
    IfOk-weaker c.refused.result _ _
    (λ asked h.
    asked_fault c.args.request.now c.as_str-method.result.now c.as_str-target.result.now BadTarget asked
    c.as_str-method.ensures c.as_str-target.ensures fault h.0 h.1)
    c.refused.ensures

pub returns-in-Err-NoKind : goal.returns-in-Err-NoKind
returns-in-Err-NoKind c =
    let fault = rw c.in-Err-NoKind.field-0-is at c.in-Err-NoKind.ensures in
    IfOk-weaker c.refused-in-Err-NoKind.result _ _
    (λ asked h.
    asked_fault c.args.request.now c.as_str-method.result.now c.as_str-target.result.now NoKind asked
    c.as_str-method.ensures c.as_str-target.ensures fault h.0 h.1)
    c.refused-in-Err-NoKind.ensures
