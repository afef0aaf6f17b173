-- How a run of `probe` is refused by its words and files.
use Rattle.std.proofs.Common.{◌≡◌, ℕ, false, List, Option, Some, Result, Ok, Err, None, OnOk, refl, sym, subst, inl, inr}
use Rattle.command_options.specs.declared.fault.WordsFault.TheVariants as words_fault
use Rattle.front_config.specs.Load as load
use Rattle.front_config.specs.Load.{Reads, AreRead, load_of}
use Rattle.front_config.specs.declared.fault.FileFault.{FileFault}
use Rattle.front_config.specs.declared.fault.LoadFault.{LoadFault}
use Rattle.front_config.specs.declared.fault.LoadFault.TheVariants as load_fault
use Rattle.front_config.specs.declared.fault.Which.{Which}
use Rattle.front_config.specs.declared.files.Loaded.{Loaded}
use Rattle.json_value.specs.Results as results
use Rattle.command_ends.specs.Ports.{FilesPort, Told}
use Rattle.command_ends.specs.Why.{status_of_load, why_of_load}
use Rattle.refusal_text.specs.declared.refusal.Refusal.{Refusal}
use Rattle.command_ends.specs.declared.status.Status.{Status}
use Rattle.command_ends.specs.declared.status.Status.TheVariants as status_case
use Rattle.probe_command.specs.Config.{IsRefused, IsUntold, Loads, TellsProbe, Untold, status_of_probe}
use Rattle.probe_command.specs.Token.{EndsSo, IsRefusedSo}
use Rattle.probe_command.specs.declared.token.TokenStop.{TokenStop}
use Rattle.probe_command.specs.declared.token.TokenStop.TheVariants as stop
use Rattle.probe_command.specs.Probe as probe
use Rattle.probe_command.specs.Probe.{probe_command}
use Rattle.probe_command.specs.declared.fault.ProbeFault.{ProbeFault}
use Rattle.probe_command.specs.declared.fault.ProbeFault.TheVariants.{Words, Front, Token}
use Rattle.probe_command.specs.declared.probe.ProbeWords.{ProbeWords}

abbrev Due : ProbeFault → Result ProbeWords ProbeFault → Type 0
Due fault due = probe.Gives {A = ProbeWords} (λ v. v) (Err fault) due

-- a fault that is answered is due, but for memory
due : (r : Result ProbeWords ProbeFault) (fault : ProbeFault) → probe.is_memory fault ≡ false → Due fault r → r ≡ Err fault
due r fault e h = go r (rw e at h)
  where
    go : (r : Result ProbeWords ProbeFault) → results.fault_of r ≡ Some fault → r ≡ Err fault
    go (Ok a) h = absurd (cc h)
    go (Err own) h = cc

-- words that are refused
pub words_refused : (line : List (List ℕ)) (files tokens : FilesPort) (fault : ProbeFault) (why : Option Refusal)
    → Due fault (probe_command line) → TellsProbe fault why → IsRefused line files tokens (status_of_probe fault) why
words_refused line files tokens (Words words_fault.Usage) why h t = (due (probe_command line) (Words words_fault.Usage) refl h, t)
words_refused line files tokens (Words (words_fault.Limits option n)) why h t = inl (option, n, (due (probe_command line) (Words (words_fault.Limits option n)) refl h, t))
words_refused line files tokens (Words words_fault.NoMemory) why h t = tt
words_refused line files tokens (Front text) why h t = inr (inl (text, (due (probe_command line) (Front text) refl h, t)))
words_refused line files tokens Token why h t = inr (inr (inl (due (probe_command line) Token refl h, t)))

read_due : (r : Result Loaded LoadFault) (which : Which) → load.Gives (Err (load_fault.ReadFault which)) r → r ≡ Err (load_fault.ReadFault which)
read_due (Ok a) which e = absurd (cc e)
read_due (Err own) which e = cc

file_due : (r : Result Loaded LoadFault) (which : Which) (fault : FileFault) → load.Gives (Err (load_fault.BadFile which fault)) r
    → r ≡ Err (load_fault.BadFile which fault)
file_due (Ok a) which fault e = absurd (cc e)
file_due (Err own) which fault e = cc

abbrev loads_of : (line : List (List ℕ)) (told : Told) (asked : ProbeWords) (reads : Reads) (loaded : Result Loaded LoadFault)
    → probe_command line ≡ Ok asked → AreRead told asked.files reads → load_of asked.files reads ≡ loaded → Loads line told loaded
loads_of line told asked reads loaded c r l = record {
  asked = asked;
  command = c;
  reads = reads;
  read = r;
  load = l;
}

-- files that are not loaded
pub load_refused : (line : List (List ℕ)) (files tokens : FilesPort) (asked : ProbeWords)
    (reads : Reads) (fault : LoadFault) → probe_command line ≡ Ok asked
    → AreRead files.before.told asked.files reads → load.Gives (Err fault) (load_of asked.files reads)
    → load.HasCause {A = Loaded} asked.files files.before.faults files.after.faults files.before.failed files.after.failed (Err fault)
    → IsRefused line files tokens (status_of_load fault) (why_of_load asked.files fault)
load_refused line files tokens asked reads (load_fault.ReadFault which) c r h cause =
    let e : load_of asked.files reads ≡ Err (load_fault.ReadFault which) = read_due _ which h in
    inl (cause.0, (which, loads_of line files.before.told asked reads (Err (load_fault.ReadFault which)) c r e, cause.1, refl))
load_refused line files tokens asked reads (load_fault.BadFile which fault) c r h cause =
    let e : load_of asked.files reads ≡ Err (load_fault.BadFile which fault) = file_due _ which fault h in
    inr (inr (inr (inl (which, fault, loads_of line files.before.told asked reads (Err (load_fault.BadFile which fault)) c r e, refl))))
load_refused line files tokens asked reads load_fault.NoMemory c r h cause = tt

-- ---- the file with a token

pub untold_so : (name : Option (List ℕ)) (own : TokenStop) (tokens : FilesPort) (status : Status) (why : Option Refusal)
    → IsRefusedSo tokens.before.told tokens.before.faults tokens.after.faults tokens.before.failed tokens.after.failed name own
    → EndsSo name own status why → IsUntold name tokens status why
untold_so None own tokens status why h e = absurd h
untold_so (Some name) stop.NotRead tokens status why h e =
    subst (λ (s : Status). IsUntold (Some name) tokens s why) (sym e.0)
    (record { own = name; named = refl; rose = h.0; noted = h.1; why_is = e.1 })
untold_so (Some name) stop.NotAToken tokens status why h e =
    subst (λ (s : Status). IsUntold (Some name) tokens s why) (sym e.0) (record { own = name; named = refl; holds = h; why_is = e.1 })
untold_so (Some name) stop.NoMemory tokens status why h e = subst (λ (s : Status). IsUntold (Some name) tokens s why) (sym e) tt

pub token_refused : (line : List (List ℕ)) (files tokens : FilesPort) (asked : ProbeWords) (reads : Reads) (loaded : Loaded) (status : Status)
    (why : Option Refusal) → probe_command line ≡ Ok asked → AreRead files.before.told asked.files reads → load_of asked.files reads ≡ Ok loaded
    → IsUntold asked.token_file tokens status why → IsRefused line files tokens status why
token_refused line files tokens asked reads loaded status_case.Configuration why c r l h =
    inr (inr (inr (inr (record { loaded = loaded; loads = loads_of line files.before.told asked reads (Ok loaded) c r l; untold = h }))))
token_refused line files tokens asked reads loaded status_case.ReadFault why c r l h =
    inr (record { loaded = loaded; loads = loads_of line files.before.told asked reads (Ok loaded) c r l; untold = h })
token_refused line files tokens asked reads loaded status_case.NoMemory why c r l h = tt
token_refused line files tokens asked reads loaded status_case.Done why c r l h = absurd h
token_refused line files tokens asked reads loaded status_case.Usage why c r l h = absurd h
token_refused line files tokens asked reads loaded status_case.PortFault why c r l h = absurd h
token_refused line files tokens asked reads loaded status_case.WriteFault why c r l h = absurd h
token_refused line files tokens asked reads loaded status_case.NumbersSpent why c r l h = absurd h
token_refused line files tokens asked reads loaded status_case.Input why c r l h = absurd h
token_refused line files tokens asked reads loaded status_case.Log why c r l h = absurd h
token_refused line files tokens asked reads loaded status_case.NotDelivered why c r l h = absurd h
token_refused line files tokens asked reads loaded status_case.NothingListed why c r l h = absurd h

-- ---- answers

pub on_ok : {A B : Type 0} (r : Result A B) (P : Type 0) → P → OnOk r P
on_ok (Ok a) P p = p
on_ok (Err e) P p = tt
