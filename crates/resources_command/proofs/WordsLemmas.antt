-- Words that are no command line of `resources`.
use Rattle.std.proofs.Common.{◌≡◌, ℕ, Bool, true, false, List, Option, Some, None, Result, Ok, Err, refl, inl, inr}
use Rattle.json_value.specs.Results.{◌>>=◌, Unless, fault_of}
use Rattle.command_ends.specs.Ports.{FilesPort}
use Rattle.command_ends.specs.Why.{TellsWords, status_of_words}
use Rattle.command_ends.specs.declared.status.Status.{Status}
use Rattle.command_ends.specs.declared.status.Status.TheVariants as status_case
use Rattle.command_options.specs.Options.{Fails, Gives, is_memory}
use Rattle.command_options.specs.declared.fault.WordsFault.{WordsFault}
use Rattle.command_options.specs.declared.fault.WordsFault.TheVariants as fault
use Rattle.refusal_text.specs.declared.refusal.Refusal.{Refusal}
use Rattle.resources_command.specs.Config.{FilesEnd, IsRefused}
use Rattle.resources_command.specs.Words.{resources_command}
use Rattle.resources_command.specs.declared.previous.PreviousRefusal.{PreviousRefusal}
use Rattle.resources_command.specs.declared.words.ResourcesWords.{ResourcesWords}

-- the fault of words is that of all
pub refused : {A B : Type 0} (words : Result A WordsFault) (next : A → Result B WordsFault) (fault : WordsFault)
    → Fails fault (fault_of words) → Fails fault (fault_of (words >>= next))
refused (Err own) next fault h = h
refused (Ok a) next fault h = go (is_memory fault) h
  where
    go : (b : Bool) → Unless b (fault_of (Ok a) ≡ Some fault) → Unless b (fault_of (next a) ≡ Some fault)
    go true h = tt
    go false h = absurd (cc h)

err_due : (due : Result ResourcesWords WordsFault) (own : WordsFault) → fault_of due ≡ Some own → due ≡ Err own
err_due (Ok words) own e = absurd (cc e)
err_due (Err due) own e = cc

pub words_refused : (words : List (List ℕ)) (files : FilesPort) (own : WordsFault) (why : Option Refusal)
    → Gives {A = ResourcesWords} (λ v. v) (Err own) (resources_command words) → TellsWords own why
    → IsRefused words files (status_of_words own) why None
words_refused words files fault.Usage why g t = (err_due (resources_command words) fault.Usage g, t, refl)
words_refused words files (fault.Limits option n) why g t =
    inl (option, n, err_due (resources_command words) (fault.Limits option n) g, t, refl)
words_refused words files fault.NoMemory why g t = tt

-- the words are taken, and the files end the run
pub files_refused : (words : List (List ℕ)) (files : FilesPort) (own : ResourcesWords) (status : Status) (why : Option Refusal)
    (previous : Option PreviousRefusal) → resources_command words ≡ Ok own → FilesEnd own files status why previous
    → IsRefused words files status why previous
files_refused words files own status_case.Configuration why previous c h = inr (own, c, h)
files_refused words files own status_case.ReadFault why previous c h = (own, c, h)
files_refused words files own status_case.NoMemory why previous c h = tt
files_refused words files own status_case.Done why previous c h = absurd h
files_refused words files own status_case.Usage why previous c h = absurd h
files_refused words files own status_case.PortFault why previous c h = absurd h
files_refused words files own status_case.WriteFault why previous c h = absurd h
files_refused words files own status_case.NumbersSpent why previous c h = absurd h
files_refused words files own status_case.Input why previous c h = absurd h
files_refused words files own status_case.Log why previous c h = absurd h
files_refused words files own status_case.NotDelivered why previous c h = absurd h
files_refused words files own status_case.NothingListed why previous c h = absurd h
