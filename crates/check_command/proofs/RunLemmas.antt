-- What a run finds of all lines, by what it wrote and how it ended.
use Rattle.std.proofs.Common.{◌≡◌, ◌⊎◌, inl, inr, Bool, true, false, refl, sym, ap, ◌∙◌, subst}
use Rattle.std.specs.Prelude.{◌==◌, if◌then◌else◌}
use Rattle.check_command.specs.Checks.{KeepsCount}
use Rattle.check_command.specs.Run.{Answers, FindsAllSo, IsAnswered, ReviewsInput, Tells, review_of, status_by, status_in}
use Rattle.check_command.specs.declared.check.CheckEnd.{CheckEnd}
use Rattle.check_command.specs.declared.check.CheckEnd.TheVariants as end_case
use Rattle.check_command.specs.declared.review.Reviewed.{Reviewed}
use Rattle.command_ends.specs.Ports.{IsSound, Port}
use Rattle.command_ends.specs.declared.status.Status.{Status}
use Rattle.command_ends.specs.declared.status.Status.TheVariants.{Done, Log, ReadFault, NoMemory, WriteFault, NumbersSpent}
use Rattle.policy_rules.specs.declared.policy.Policy.{Policy}

module _ (policy : Policy) (input output : Port) (told : Reviewed) where
  abbrev So : Status → Type 0
  So status = FindsAllSo policy input output told status

  known : (end : CheckEnd) → told.end ≡ end → (status : Status) → status_by end told.bad.count ≡ status → status_in told ≡ status
  known end q status p = ap (λ (x : CheckEnd). status_by x told.bad.count) q ∙ p

  by_count : (none : Bool) → (told.bad.count == 0) ≡ none → (status : Status) → status ≡ status_in told → told.end ≡ end_case.Done
      → ReviewsInput policy input told → IsSound input → Answers output (review_of told) → So status
  by_count true e status s q r i a =
      let is : status_in told ≡ Done = known end_case.Done q Done (ap (λ (b : Bool). if b then Done else Log) e) in
      subst So (sym (s ∙ is)) (is, r, i, a)
  by_count false e status s q r i a =
      let is : status_in told ≡ Log = known end_case.Done q Log (ap (λ (b : Bool). if b then Done else Log) e) in
      subst So (sym (s ∙ is)) (is, r, i, a)

  told_by : (end : CheckEnd) → told.end ≡ end → (status : Status) → status ≡ status_in told → ReviewsInput policy input told
      → KeepsCount input.before.faults input.after.faults end → IsAnswered output end (review_of told) → So status
  told_by end_case.Done q status s r k a = by_count (told.bad.count == 0) refl status s q r k a
  told_by (end_case.Refused why) q status s r k a =
      let is : status_in told ≡ Log = known (end_case.Refused why) q Log refl in
      subst So (sym (s ∙ is)) (is, r, k, a)
  told_by end_case.Cut q status s r k a =
      let is : status_in told ≡ Log = known end_case.Cut q Log refl in
      subst So (sym (s ∙ is)) (is, r, k, a)
  told_by end_case.ReadFault q status s r k a =
      let is : status_in told ≡ ReadFault = known end_case.ReadFault q ReadFault refl in
      subst So (sym (s ∙ is)) (q, r, a)
  told_by end_case.NumbersSpent q status s r k a =
      let is : status_in told ≡ NumbersSpent = known end_case.NumbersSpent q NumbersSpent refl in
      subst So (sym (s ∙ is)) (q, r, k, a)
  told_by end_case.NoMemory q status s r k a =
      let is : status_in told ≡ NoMemory = known end_case.NoMemory q NoMemory refl in
      subst So (sym (s ∙ is)) (r, a)

  pub finds_all : (status : Status) → ReviewsInput policy input told → KeepsCount input.before.faults input.after.faults told.end
      → Tells told.end (status_in told) (review_of told) output status → So status
  finds_all status r k (inl t) = told_by told.end refl status t.0 r k t.1
  finds_all status r k (inr (inl t)) = subst So (sym t.0) (r, t.1)
  finds_all status r k (inr (inr t)) = subst So (sym t.0) (r, t.1)
