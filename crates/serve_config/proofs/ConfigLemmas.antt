-- How a run of `serve` is refused by its words and files.
use Rattle.std.proofs.Common.{◌≡◌, ℕ, false, List, Option, Some, Result, Ok, Err, refl, inl, inr}
use Rattle.command_options.specs.declared.fault.WordsFault.TheVariants as words_fault
use Rattle.front_config.specs.Load as load
use Rattle.front_config.specs.Load.{Reads, AreRead, load_of}
use Rattle.front_config.specs.declared.fault.FileFault.{FileFault}
use Rattle.front_config.specs.declared.fault.LoadFault.{LoadFault}
use Rattle.front_config.specs.declared.fault.LoadFault.TheVariants as load_fault
use Rattle.front_config.specs.declared.fault.Which.{Which}
use Rattle.front_config.specs.declared.files.Loaded.{Loaded}
use Rattle.json_value.specs.Results as results
use Rattle.command_ends.specs.Ports.{FilesPort, Told}
use Rattle.command_ends.specs.Why.{status_of_load, why_of_load}
use Rattle.refusal_text.specs.declared.refusal.Refusal.{Refusal}
use Rattle.serve_config.specs.Config.{IsRefused, Loads, TellsServe, status_of_serve}
use Rattle.serve_config.specs.Serve as serve
use Rattle.serve_config.specs.Serve.{serve_command}
use Rattle.serve_config.specs.declared.fault.ServeFault.{ServeFault}
use Rattle.serve_config.specs.declared.fault.ServeFault.TheVariants.{Words, Listen, Webhook, OwnWebhook}
use Rattle.serve_config.specs.declared.serve.ServeWords.{ServeWords}

abbrev Due : ServeFault → Result ServeWords ServeFault → Type 0
Due fault due = serve.Gives {A = ServeWords} (λ v. v) (Err fault) due

-- a fault that is answered is due, but for memory
due : (r : Result ServeWords ServeFault) (fault : ServeFault) → serve.is_memory fault ≡ false → Due fault r → r ≡ Err fault
due r fault e h = go r (rw e at h)
  where
    go : (r : Result ServeWords ServeFault) → results.fault_of r ≡ Some fault → r ≡ Err fault
    go (Ok a) h = absurd (cc h)
    go (Err own) h = cc

-- words that are refused
pub words_refused : (line : List (List ℕ)) (files : FilesPort) (fault : ServeFault) (why : Option Refusal)
    → Due fault (serve_command line) → TellsServe fault why → IsRefused line files (status_of_serve fault) why
words_refused line files (Words words_fault.Usage) why h t = (due (serve_command line) (Words words_fault.Usage) refl h, t)
words_refused line files (Words (words_fault.Limits option n)) why h t = inl (option, n, (due (serve_command line) (Words (words_fault.Limits option n)) refl h, t))
words_refused line files (Words words_fault.NoMemory) why h t = tt
words_refused line files (Listen text) why h t = inr (inl (text, (due (serve_command line) (Listen text) refl h, t)))
words_refused line files (Webhook url) why h t = inr (inr (inl (url, (due (serve_command line) (Webhook url) refl h, t))))
words_refused line files (OwnWebhook url) why h t = inr (inr (inr (inl (url, (due (serve_command line) (OwnWebhook url) refl h, t)))))

read_due : (r : Result Loaded LoadFault) (which : Which) → load.Gives (Err (load_fault.ReadFault which)) r → r ≡ Err (load_fault.ReadFault which)
read_due (Ok a) which e = absurd (cc e)
read_due (Err own) which e = cc

file_due : (r : Result Loaded LoadFault) (which : Which) (fault : FileFault) → load.Gives (Err (load_fault.BadFile which fault)) r
    → r ≡ Err (load_fault.BadFile which fault)
file_due (Ok a) which fault e = absurd (cc e)
file_due (Err own) which fault e = cc

abbrev loads_of : (line : List (List ℕ)) (told : Told) (serve : ServeWords) (reads : Reads) (loaded : Result Loaded LoadFault)
    → serve_command line ≡ Ok serve → AreRead told serve.files reads → load_of serve.files reads ≡ loaded → Loads line told loaded
loads_of line told serve reads loaded c r l = record {
  serve = serve;
  command = c;
  reads = reads;
  read = r;
  load = l;
}

-- files that are not loaded
pub load_refused : (line : List (List ℕ)) (files : FilesPort) (serve : ServeWords)
    (reads : Reads) (fault : LoadFault) → serve_command line ≡ Ok serve
    → AreRead files.before.told serve.files reads → load.Gives (Err fault) (load_of serve.files reads)
    → load.HasCause {A = Loaded} serve.files files.before.faults files.after.faults files.before.failed files.after.failed (Err fault)
    → IsRefused line files (status_of_load fault) (why_of_load serve.files fault)
load_refused line files serve reads (load_fault.ReadFault which) c r h cause =
    let e : load_of serve.files reads ≡ Err (load_fault.ReadFault which) = read_due _ which h in (
      cause.0,
      (which, loads_of line files.before.told serve reads (Err (load_fault.ReadFault which)) c r e, cause.1, refl),
    )
load_refused line files serve reads (load_fault.BadFile which fault) c r h cause =
    let e : load_of serve.files reads ≡ Err (load_fault.BadFile which fault) = file_due _ which fault h in
    inr (inr (inr (inr (which, fault, loads_of line files.before.told serve reads (Err (load_fault.BadFile which fault)) c r e, refl))))
load_refused line files serve reads load_fault.NoMemory c r h cause = tt
