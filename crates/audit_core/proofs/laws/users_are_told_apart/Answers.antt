use Rattle.std.proofs.Common.{ap}
use Rattle.stage_event.specs.declared.facts.Facts.{Facts}
use Rattle.audit_core.proofs.UserLemmas.{effective_acts, masters_act, owed_show}
use Rattle.audit_core.proofs.laws.users_are_told_apart.Goals as goal

pub returns-clause-effective : goal.returns-clause-effective
returns-clause-effective c = effective_acts

pub returns-clause-masters : goal.returns-clause-masters
returns-clause-masters c = masters_act c.only_masters_act_as_others.ensures

pub returns-clause-shown : goal.returns-clause-shown
returns-clause-shown c set stamp r handling note body x h =
    owed_show c.both_users_are_shown.ensures.user c.both_users_are_shown.ensures.acting set r x.facts
    (ap (λ (f : Facts). f.user) h.facts_are.facts_are) (ap (λ (f : Facts). f.acting) h.facts_are.facts_are)
    x.decision.level x.decision.omit
