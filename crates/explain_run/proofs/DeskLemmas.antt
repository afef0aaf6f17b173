-- How a run ends by its words and files.
use Rattle.std.proofs.Common.{◌≡◌, ℕ, ◌⊎◌, List, Option, Result, Ok, Err, refl, subst, inl, inr, ⊎_elim}
use Rattle.apiservice_rows.specs.Row.{Row}
use Rattle.front_config.specs.Load as load
use Rattle.front_config.specs.Load.{Reads, AreRead, load_of}
use Rattle.command_options.specs.Options as words
use Rattle.front_config.specs.Words.{command_of}
use Rattle.front_config.specs.declared.command.Command.{Command}
use Rattle.front_config.specs.declared.command.Command.TheVariants.{Explain}
use Rattle.front_config.specs.declared.command.ExplainWords.{ExplainWords}
use Rattle.front_config.specs.declared.fault.FileFault.{FileFault}
use Rattle.front_config.specs.declared.fault.LoadFault.{LoadFault}
use Rattle.front_config.specs.declared.fault.LoadFault.TheVariants as load_fault
use Rattle.command_options.specs.declared.ranged.Ranged.{Ranged}
use Rattle.front_config.specs.declared.fault.Which.{Which}
use Rattle.command_options.specs.declared.fault.WordsFault.{WordsFault}
use Rattle.command_options.specs.declared.fault.WordsFault.TheVariants as words_fault
use Rattle.front_config.specs.declared.files.Loaded.{Loaded}
use Rattle.command_ends.specs.Ports.{Told, Port, FilesPort, AreSound, IsUntouched}
use Rattle.explain_run.specs.Desk.{Loads, IsRefused, Configures, Run}
use Rattle.explain_run.specs.Serving.{Serves}
use Rattle.command_ends.specs.Why.{TellsServing, TellsWords, status_of_load, status_of_words, why_of_load}
use Rattle.refusal_text.specs.declared.refusal.Refusal.{Refusal}
use Rattle.explain_run.specs.declared.setup.Setup.{Setup}
use Rattle.command_ends.specs.declared.status.Status.{Status}
use Rattle.command_ends.specs.declared.status.Status.TheVariants.{Done, Usage, Configuration, ReadFault, PortFault, NoMemory, WriteFault, NumbersSpent, Input, Log, NotDelivered, NothingListed}

usage_due : (r : Result Command WordsFault) → words.Gives {A = ExplainWords} Explain (Err words_fault.Usage) r → r ≡ Err words_fault.Usage
usage_due (Ok a) e = absurd (cc e)
usage_due (Err own) e = cc

limits_due : (r : Result Command WordsFault) (option : Ranged) (n : ℕ) → words.Gives {A = ExplainWords} Explain (Err (words_fault.Limits option n)) r
    → r ≡ Err (words_fault.Limits option n)
limits_due (Ok a) option n e = absurd (cc e)
limits_due (Err own) option n e = cc

read_due : (r : Result Loaded LoadFault) (which : Which) → load.Gives (Err (load_fault.ReadFault which)) r → r ≡ Err (load_fault.ReadFault which)
read_due (Ok a) which e = absurd (cc e)
read_due (Err own) which e = cc

file_due : (r : Result Loaded LoadFault) (which : Which) (fault : FileFault) → load.Gives (Err (load_fault.BadFile which fault)) r
    → r ≡ Err (load_fault.BadFile which fault)
file_due (Ok a) which fault e = absurd (cc e)
file_due (Err own) which fault e = cc

-- words that are no command are refused so
pub words_refused : (line : List (List ℕ)) (files : FilesPort) (fault : WordsFault) (why : Option Refusal)
    → words.Gives {A = ExplainWords} Explain (Err fault) (command_of line) → TellsWords fault why
    → IsRefused line files (status_of_words fault) why
words_refused line files words_fault.Usage why h t = (usage_due (command_of line) h, t)
words_refused line files (words_fault.Limits option n) why h t = inl (option, n, limits_due (command_of line) option n h, t)
words_refused line files words_fault.NoMemory why h t = tt

-- what the reads of files gave
abbrev pub loads_of : (line : List (List ℕ)) (told : Told) (explain : ExplainWords) (reads : Reads) (loaded : Result Loaded LoadFault)
    → command_of line ≡ Ok (Explain explain) → AreRead told explain.files reads → load_of explain.files reads ≡ loaded → Loads line told loaded
loads_of line told explain reads loaded c r l = record {
  explain = explain;
  command = c;
  reads = reads;
  read = r;
  load = l;
}

-- files that are not loaded are refused so
pub load_refused : (line : List (List ℕ)) (files : FilesPort) (explain : ExplainWords)
    (reads : Reads) (fault : LoadFault) → command_of line ≡ Ok (Explain explain)
    → AreRead files.before.told explain.files reads → load.Gives (Err fault) (load_of explain.files reads)
    → load.HasCause {A = Loaded} explain.files files.before.faults files.after.faults files.before.failed files.after.failed (Err fault)
    → IsRefused line files (status_of_load fault) (why_of_load explain.files fault)
load_refused line files explain reads (load_fault.ReadFault which) c r h cause =
    let e : load_of explain.files reads ≡ Err (load_fault.ReadFault which) = read_due _ which h in (
      cause.0,
      (which, loads_of line files.before.told explain reads (Err (load_fault.ReadFault which)) c r e, cause.1, refl),
    )
load_refused line files explain reads (load_fault.BadFile which fault) c r h cause =
    let e : load_of explain.files reads ≡ Err (load_fault.BadFile which fault) = file_due _ which fault h in
    inr (which, fault, loads_of line files.before.told explain reads (Err (load_fault.BadFile which fault)) c r e, refl)
load_refused line files explain reads load_fault.NoMemory c r h cause = tt

-- ---- what the words alone decide

module _ (line : List (List ℕ)) (files : FilesPort) (input output : Port) (why : Option Refusal) (large : ℕ) where
  not_served : (set : Setup) (rows : List Row) → Serves set rows input output large Usage → ⊥
  not_served set rows h = h

  pub usage_is : (status : Status) → status ≡ Usage → Run line files input output status why large
      → command_of line ≡ Err words_fault.Usage
  usage_is status e run =
      ⊎_elim
      (λ (q : IsRefused line files Usage why × IsUntouched input × IsUntouched output × (large ≡ 0)). q.0.0)
      (λ (q : (set : Setup) × (rows : List Row) × Configures line files.before.told set rows × AreSound files × Serves set rows input output large Usage × TellsServing Usage why).
      absurd (not_served q.0 q.1 q.4))
      (subst (λ own. Run line files input output own why large) e run)

  misused_by : (status : Status) → command_of line ≡ Err words_fault.Usage → IsRefused line files status why
      → (status ≡ Usage) ⊎ (status ≡ NoMemory)
  misused_by Usage e h = inl refl
  misused_by Done e h = absurd h
  misused_by Configuration e h =
      ⊎_elim
      (λ (q : (option : Ranged) × (n : ℕ) × (command_of line ≡ Err (words_fault.Limits option n)) × TellsWords (words_fault.Limits option n) why).
      absurd (cc (e, q.2)))
      (λ q. absurd (cc (e, q.2.command)))
      h
  misused_by ReadFault e h = absurd (cc (e, h.1.1.command))
  misused_by PortFault e h = absurd h
  misused_by NoMemory e h = inr refl
  misused_by WriteFault e h = absurd h
  misused_by NumbersSpent e h = absurd h
  misused_by Input e h = absurd h
  misused_by Log e h = absurd h
  misused_by NotDelivered e h = absurd h
  misused_by NothingListed e h = absurd h

  pub misused_is : (status : Status) → command_of line ≡ Err words_fault.Usage → Run line files input output status why large
      → (status ≡ Usage) ⊎ (status ≡ NoMemory)
  misused_is status e run =
      ⊎_elim
      (λ (q : IsRefused line files status why × IsUntouched input × IsUntouched output × (large ≡ 0)). misused_by status e q.0)
      (λ (q : (set : Setup) × (rows : List Row) × Configures line files.before.told set rows × AreSound files × Serves set rows input output large status × TellsServing status why).
      absurd (cc (e, q.2.loads.command)))
      run
