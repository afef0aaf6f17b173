-- How a run ends once lines were shipped.
use Rattle.std.proofs.Common.{◌≡◌, ◌≢◌, ◌<◌, ℕ, Bool, true, false, nat_eq, if◌then◌else◌, List, Option, Some, Result, Ok, Err, refl, ap, ap₂, subst, inl, inr, arith}
use Rattle.std.proofs.lemmas.Bool.Decides.{nat_tests}
use Rattle.json_value.specs.Results.{fault_of}
use Rattle.log_ship.specs.Chains.{Side}
use Rattle.log_ship.specs.Shipped.{KeepsCount, Setup, ShipsInput}
use Rattle.log_ship.specs.declared.end.ShipEnd.{ShipEnd}
use Rattle.log_ship.specs.declared.end.ShipEnd.TheVariants as end_case
use Rattle.log_ship.specs.declared.ship.Shipment.{Shipment}
use Rattle.log_ship.specs.declared.tally.Tally.{Tally}
use Rattle.command_ends.specs.Ports.{HasFailed, IsUntouched, Port}
use Rattle.command_ends.specs.declared.status.Status.TheVariants.{Done, NotDelivered}
use Rattle.ship_command.specs.Ended.{EndsSo, IsSummedUp, status_for, status_of}
use Rattle.log_ship.specs.Summaries as summaries
use Rattle.log_ship.specs.declared.summary.Summed.{Summed}
use Rattle.log_ship.specs.declared.summary.Summed.TheVariants as summed_case

none_lost : (n : ℕ) → nat_eq n 0 ≡ true → n ≡ 0
none_lost n e = grind (arith, nat_tests, e)

some_lost : (n : ℕ) → nat_eq n 0 ≡ false → 0 < n
some_lost n e = grind (arith, nat_tests, e)

-- the input failed where it could not be read
pub failed_in : (setup : Setup) (before : ℕ) (p : Side) (left0 left : Option (List ℕ)) (rose : Type 0) (first lines : ℕ) (tally : Tally) (end : ShipEnd) (q : Side)
    → ShipsInput setup before p left0 left rose first lines tally end q → end ≡ end_case.ReadFault → rose
failed_in setup before p left0 left rose first lines tally end_case.Done q s e = absurd (cc e)
failed_in setup before p left0 left rose first lines tally end_case.NotJson q s e = absurd (cc e)
failed_in setup before p left0 left rose first lines tally end_case.TooLong q s e = absurd (cc e)
failed_in setup before p left0 left rose first lines tally end_case.Cut q s e = absurd (cc e)
failed_in setup before p left0 left rose first lines tally end_case.ReadFault q s e = s.ends_by.1
failed_in setup before p left0 left rose first lines tally end_case.NumbersSpent q s e = absurd (cc e)
failed_in setup before p left0 left rose first lines tally end_case.NoMemory q s e = absurd (cc e)

untouched : (p : Port) → summaries.IsUntouched p.before.told p.after.told p.before.faults p.after.faults → IsUntouched p
untouched p u = ap₂ (λ t n. record { told = t; faults = n }) u.written_is u.faults_are

-- nothing is written where the input's end was not reached
not_due : (s : Shipment) (input output : Port) (end : ShipEnd) → s.end ≡ end → end ≢ end_case.Done → IsUntouched output
    → KeepsCount input.before.faults input.after.faults end → (end ≡ end_case.ReadFault → HasFailed input) → EndsSo s input output (status_of end)
not_due s input output end_case.Done e n u k r = absurd (n refl)
not_due s input output end_case.NotJson e n u k r = (ap status_of e, k, u)
not_due s input output end_case.TooLong e n u k r = (ap status_of e, k, u)
not_due s input output end_case.Cut e n u k r = (ap status_of e, k, u)
not_due s input output end_case.ReadFault e n u k r = (e, r refl, u)
not_due s input output end_case.NumbersSpent e n u k r = (e, k, u)
not_due s input output end_case.NoMemory e n u k r = (inr e, k, u)

-- by whether lines are lost
written : (s : Shipment) (input output : Port) → IsSummedUp s input output → (none : Bool) → nat_eq s.tally.lost 0 ≡ none
    → EndsSo s input output (if none then Done else NotDelivered)
written s input output w true e = (none_lost s.tally.lost e, w)
written s input output w false e = (some_lost s.tally.lost e, w)

-- the status says what became of the lines and of the summary
pub ends_so : (s : Shipment) (summed : Summed) (input output : Port)
    → summaries.Sums s output.before.told output.after.told output.before.faults output.after.faults summed
    → KeepsCount input.before.faults input.after.faults s.end → (s.end ≡ end_case.ReadFault → HasFailed input)
    → EndsSo s input output (status_for s.end summed s.tally.lost)
ends_so s summed_case.Written input output w k r =
    written s input output (w.0, subst (λ end. KeepsCount input.before.faults input.after.faults end) w.0 k, w.1.0, w.1.1) (nat_eq s.tally.lost 0) refl
ends_so s summed_case.NotDue input output w k r = not_due s input output s.end refl w.0 (untouched output w.1) k r
ends_so s summed_case.WriteFault input output w k r =
    (w.0, subst (λ end. KeepsCount input.before.faults input.after.faults end) w.0 k, w.1.0, w.1.1)
ends_so s summed_case.NoMemory input output w k r =
    (inl w.0, subst (λ end. KeepsCount input.before.faults input.after.faults end) w.0 k, untouched output w.1)

-- a fault that is answered is the one that is due
pub due : {A E : Type 0} (r : Result A E) (fault : E) → fault_of r ≡ Some fault → r ≡ Err fault
due (Ok a) fault e = absurd (cc e)
due (Err own) fault e = cc e
