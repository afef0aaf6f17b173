use Rattle.std.proofs.Common.{refl, ap, false, true, Some}
use Rattle.audit_core.specs.Errand.{is_unknown}
use Rattle.audit_core.proofs.JudgedLemmas.{in_order, target_bad, unread_bad}
use Rattle.audit_core.proofs.laws.refusals_come_in_order.Goals as goal

pub returns-clause-target : goal.returns-clause-target
returns-clause-target c set r moment fault e = in_order set r moment true _ _ _ (target_bad set r moment fault e) refl refl refl

pub returns-clause-selection : goal.returns-clause-selection
returns-clause-selection c set r moment e = in_order set r moment true _ _ _ (unread_bad set r moment e) refl refl refl

pub returns-clause-token : goal.returns-clause-token
returns-clause-token c set r moment e w = in_order set r moment false true _ _ e (ap is_unknown w) refl refl

pub returns-clause-upgrade : goal.returns-clause-upgrade
returns-clause-upgrade c set r moment e u h = in_order set r moment false false true _ e u h refl

pub returns-clause-acting : goal.returns-clause-acting
returns-clause-acting c set r moment code e u h a = in_order set r moment false false false (Some code) e u h a
