-- How rounds of probes end, by what they answer.
use Rattle.std.proofs.Common.{◌≡◌, Bool, true, false, List, Option, None, Result, Ok, Err, IfErr, IfOk, refl, ap, subst, inl, inr}
use Rattle.apiservice_rows.specs.Row.{Row}
use Rattle.apiservice_table.specs.Table.{Table}
use Rattle.service_calls.specs.Calls.{DialState}
use Rattle.probe_command.specs.Listing.{HasNone, HasTable, list_due}
use Rattle.probe_command.specs.Run.{Ends, HasNoRows, Made, MadePart, Starts, due_of, ended_by, ended_without, is_named, out_of, plan_of, status_of}
use Rattle.probe_command.specs.declared.config.ProbeConfig.{ProbeConfig}
use Rattle.probe_command.specs.declared.listing.ListStop.{ListStop}
use Rattle.probe_command.specs.declared.listing.ListStop.TheVariants as list_stop
use Rattle.probe_rounds.specs.Standing.{PaceTells, Probed, ProbedPart}
use Rattle.probe_rounds.specs.declared.plan.ProbePlan.{ProbePlan}
use Rattle.probe_rounds.specs.declared.stop.ProbeStop.{ProbeStop}
use Rattle.probe_rounds.specs.declared.stop.ProbeStop.TheVariants.{WriteFault, NoMemory}
use Rattle.command_ends.specs.Ports.{IsUntouched, Port}

module _ (config : ProbeConfig) (plan : ProbePlan) (named : Bool) (loaded : Table) (d0 d1 d : DialState) (output : Port) (k0 k : PaceTells)
    (plan_is : plan ≡ plan_of config) (named_is : named ≡ is_named config) (loaded_is : loaded ≡ config.loaded.table) where
  starts_so : (table : Table) (rows : List Row) → HasTable (list_due plan.front plan.token) named loaded d0 d1 table → rows ≡ table.rows
      → Starts config d0 d1 rows
  starts_so table rows h r = record {
    table = table;
    has = subst (λ due. HasTable due (is_named config) config.loaded.table d0 d1 table)
        (ap (λ (p : ProbePlan). list_due p.front p.token) plan_is)
        (subst (λ b. HasTable (list_due plan.front plan.token) b config.loaded.table d0 d1 table) named_is
        (subst (λ t. HasTable (list_due plan.front plan.token) named t d0 d1 table) loaded_is h));
    rows_are = r;
  }

  made_by : (refused : Bool) (rows : List Row) → Starts config d0 d1 rows
      → Probed plan rows refused d1 d (out_of output.before) (out_of output.after) k0 k → Made config refused d0 d output k0 k
  made_by refused rows s h = record {
    rows = rows;
    reached = d1;
    starts = s;
    probed = subst (λ x. Probed x rows refused d1 d (out_of output.before) (out_of output.after) k0 k) plan_is h;
  }

  part_by : (stop : ProbeStop) (rows : List Row) → Starts config d0 d1 rows
      → ProbedPart plan rows stop d1 d (out_of output.before) (out_of output.after) k0 k → MadePart config stop d0 d output k0 k
  part_by stop rows s h = record {
    rows = rows;
    reached = d1;
    starts = s;
    probed = subst (λ x. ProbedPart x rows stop d1 d (out_of output.before) (out_of output.after) k0 k) plan_is h;
  }

  pub ends_so : (table : Table) (rows : List Row) (ended : Result Bool ProbeStop) → HasTable (list_due plan.front plan.token) named loaded d0 d1 table
      → rows ≡ table.rows
      → IfOk ended (λ refused. Probed plan rows refused d1 d (out_of output.before) (out_of output.after) k0 k)
      → IfErr ended (λ stop. ProbedPart plan rows stop d1 d (out_of output.before) (out_of output.after) k0 k)
      → Ends config d0 d output k0 k (ended_by (status_of ended))
  ends_so table rows (Ok false) h r ok err = ((made_by false rows (starts_so table rows h r) ok, refl), refl)
  ends_so table rows (Ok true) h r ok err = ((made_by true rows (starts_so table rows h r) ok, refl), refl)
  ends_so table rows (Err WriteFault) h r ok err = ((part_by WriteFault rows (starts_so table rows h r) err, refl), refl)
  ends_so table rows (Err NoMemory) h r ok err = ((inl (part_by NoMemory rows (starts_so table rows h r) err), refl), refl)

  none_by : (own : ListStop) → HasNone (list_due plan.front plan.token) named d0 d own → IsUntouched output → k ≡ k0
      → HasNoRows config own d0 d output k0 k
  none_by own h o e = record {
    none = subst (λ due. HasNone due (is_named config) d0 d own) (ap (λ (p : ProbePlan). list_due p.front p.token) plan_is)
        (subst (λ b. HasNone (list_due plan.front plan.token) b d0 d own) named_is h);
    output_is = o;
    pace_is = e;
  }

  pub none_so : (own : ListStop) → HasNone (list_due plan.front plan.token) named d0 d own → IsUntouched output → k ≡ k0
      → Ends config d0 d output k0 k (ended_without own)
  none_so (list_stop.Fault fault) h o e = ((fault, none_by (list_stop.Fault fault) h o e, refl), refl)
  none_so list_stop.NoMemory h o e = ((inr (none_by list_stop.NoMemory h o e), refl), refl)
