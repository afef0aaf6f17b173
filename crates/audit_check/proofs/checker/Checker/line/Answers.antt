use Rattle.std.proofs.Common.{sym, ap, ◌∙◌, refl, subst}
use Rattle.audit_check.specs.Conforms.{HasAccepted}
use Rattle.audit_check.specs.Lines.{IsLast}
use Rattle.audit_check.specs.Seen.{Checked, Seen, last_seen}
use Rattle.audit_check.proofs.ConformLemmas.{mark_conforms, line_accepted}
use Rattle.audit_check.proofs.checker.Checker.line.Goals as goal

pub returns-clause-judged : goal.returns-clause-judged
returns-clause-judged g c = λ policy before h.
    mark_conforms c.self.inside.policy policy c.self.inside.seen before c.args.text.now c.in_ok-mark.mark c.in_ok-mark.ensures
    (ap (λ (x : Checked). x.policy) c.self.view_is ∙ h.same)
    (λ id. subst (λ (s : Seen). IsLast before id (last_seen s id)) (sym (ap (λ (x : Checked). x.seen) c.self.view_is)) (h.last id))

pub returns-clause-accepted : goal.returns-clause-accepted
returns-clause-accepted g c = λ policy before h.
    line_accepted c.reads_back.ensures.one c.self.inside.policy policy c.self.inside.seen before c.args.text.now c.in_ok-mark.mark
    (record { policy = c.self.inside.policy; seen = c.note.new.self }) c.in_ok-mark.ensures
    (subst (HasAccepted policy before) (sym c.self.view_is) h) refl c.in_ok-note.ensures.ok
