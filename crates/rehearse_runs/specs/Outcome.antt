-- How a rehearsal ends.
use Rattle.std.specs.Prelude.{◌≡◌, ℕ, Option, Some, None, Result, Ok, Err, IfSome, is_some, true}
use Rattle.command_ends.specs.Ports.{Port}
use Rattle.command_ends.specs.declared.status.Status.{Status}
use Rattle.command_ends.specs.declared.status.Status.TheVariants.{Usage, Configuration, NoMemory}
use Rattle.rehearse_runs.specs.Agrees.{Agrees}
use Rattle.rehearse_runs.specs.Told.{Tells}
use Rattle.rehearse_plan.specs.Summary.{summary}
use Rattle.rehearse_plan.specs.Words.{Asked}
use Rattle.rehearse_plan.specs.declared.plan.TheConstants.{BAYS}
use Rattle.rehearse_plan.specs.declared.words.RehearsalFault.{RehearsalFault}
use Rattle.rehearse_plan.specs.declared.words.RehearsalFault.TheVariants as fault
use Rattle.rehearse_runs.specs.Served.{MemEnded, WasServed}
use Rattle.session_core.specs.Diaries.{noted}

-- nothing was written
pub record HasNotRun (out : Port) (ended : Option MemEnded) : Type 0 where
  pub none : ended ≡ None
  pub unwritten : out.after ≡ out.before

-- by threads of this kind
module _ (T : Type 0) where
  -- there was a run of `serve` with these requests, and it agrees with them
  pub record HasRun (bays : ℕ) (plan : Asked) (ended : Option MemEnded) : Type 0 where
    pub ran : is_some ended ≡ true
    pub served : IfSome ended (WasServed T bays plan)
    pub agrees : IfSome ended (Agrees noted plan.start plan.count bays)

  -- a run of a plan, by its status: the output, and the run that is left
  abbrev pub PlanEnds : ℕ → Asked → Port → Option MemEnded → Status → Type 0
  PlanEnds bays plan out ended NoMemory = HasNotRun out ended
  PlanEnds bays plan out ended status = HasRun bays plan ended × Tells (summary plan.start plan.count) out status

  -- by what the words ask for; a number of requests that is refused is told
  abbrev pub Ends : Result Asked RehearsalFault → Port → Option MemEnded → Option ℕ → Status → Type 0
  Ends (Ok plan) out ended refused status = PlanEnds BAYS plan out ended status
  Ends (Err fault.Usage) out ended refused status = (status ≡ Usage) × HasNotRun out ended
  Ends (Err (fault.Count count)) out ended refused status =
      (status ≡ Configuration) × (refused ≡ Some count) × HasNotRun out ended
