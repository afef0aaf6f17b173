use Rattle.std.proofs.Common.{◌≡◌, Option, sym, ◌∙◌, subst}
use Rattle.front_base.specs.declared.stage.Stage.{Stage}
use Rattle.policy_rules.specs.declared.decision.Decision.{Decision}
use Rattle.audit_check.specs.Agreement.{IsDecided, IsInPlace, decision_on}
use Rattle.audit_check.specs.Conforms.{Orders}
use Rattle.audit_check.specs.Seen.{last_seen}
use Rattle.audit_check.proofs.JudgeLemmas.{ordered}
use Rattle.audit_check.proofs.PlaceLemmas.{in_place}
use Rattle.audit_check.proofs.checker.judge_by.Goals as goal

pub returns-then-not-is_decided : goal.returns-then-not-is_decided
returns-then-not-is_decided c =
    record {
      in_place = in_place c.args.info.now c.args.event.now (sym c.in_ok-is_in_place.ensures ∙ c.if-not-branch.false);
      chosen = c.decide-first.ensures;
      not_decided = λ h. absurd (cc (c.is_decided.ensures.1 h, c.if-not-is_decided.true));
    }

pub returns : goal.returns
returns c =
    let policy = c.args.policy.now in
    let info = c.args.info.now in
    let e = c.args.event.now in
    let agrees : IsInPlace info e = in_place info e (sym c.in_ok-is_in_place.ensures ∙ c.if-not-branch.false) in
    let decided : IsDecided (decision_on policy info e) e = subst (λ (d : Decision). IsDecided d e) c.decide-first.ensures (c.is_decided.ensures.0 c.if-not-is_decided.false) in
    ordered policy c.args.seen.now info e c.order_of.result agrees decided
    (subst (λ (last : Option Stage). Orders last e.stage c.order_of.result) c.last.ensures c.order_of.ensures)
