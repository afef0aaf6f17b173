-- What a whole run wrote, and what a later run makes of it.
use Rattle.std.proofs.Common.{◌≡◌, ◌≢◌, ℕ, ◌<◌, ◌⊎◌, Bool, true, false, List, [], length, Option, Some, None, Result, Ok, Err, refl, ap, sym, subst, ◌∙◌, inl, inr}
use Rattle.std.specs.Io.KnownBytes.{Appends}
use Rattle.command_ends.specs.Ports.{Told}
use Rattle.command_ends.specs.declared.status.Status.{Status}
use Rattle.command_ends.specs.declared.status.Status.TheVariants as status_case
use Rattle.front_base.specs.declared.file.TheConstants.{MOST_FILE_BYTES}
use Rattle.front_ports.specs.FileMap.{HasFile, HasLongFile, file_of}
use Rattle.group_resources.specs.Lines.{AreLines, IsDocument, document}
use Rattle.group_resources.specs.Reading.{Answers, AreBack, BadAt}
use Rattle.group_resources.specs.declared.line.MergedLine.{MergedLine}
use Rattle.group_resources.specs.declared.merged.MergedFault.{MergedFault}
use Rattle.group_resources.specs.declared.merged.MergedFault.TheVariants as merged_fault
use Rattle.refusal_text.specs.declared.refusal.Refusal.{Refusal}
use Rattle.resource_fetch.specs.declared.listing.Listing.{Listing}
use Rattle.resources_command.specs.Config.{AreLoaded, BadPrevious, Configures, FilesEnd, HasPrevious, IsBadPrevious, IsRefused, UnreadFile, UnreadPrevious}
use Rattle.resources_command.specs.Run.{FetchesAll, Merges, MergesTo, asked, end_of, merged, order}
use Rattle.resources_command.specs.Words.{resources_command}
use Rattle.resources_command.specs.declared.previous.PreviousFault.{PreviousFault}
use Rattle.resources_command.specs.declared.previous.PreviousFault.TheVariants as previous_fault
use Rattle.resources_command.specs.declared.previous.PreviousRefusal.{PreviousRefusal}
use Rattle.resources_command.specs.declared.settings.Settings.{Settings}
use Rattle.resources_command.specs.declared.words.ResourcesWords.{ResourcesWords}
use Rattle.resources_laws.specs.Runs.{BeginsWith, GoesOn, IsRun, MayBeRefused, Ran, Wrote, WroteDocument}
use Rattle.service_calls.specs.Calls.{DialState}

-- ---- a whole run

abbrev pub MergedLaw : Type 0
MergedLaw = (words : List (List ℕ)) (told : Told) (settings : Settings) (m n : DialState) (gots : List Listing) → Configures words told settings
    → FetchesAll (asked settings (order settings)) m n gots → AreLines (merged settings.previous (order settings) gots)

appended : (before after : Option (List ℕ)) (text bytes : List ℕ) → before ≡ Some [] → after ≡ Some bytes → Appends before after text → bytes ≡ text
appended before after text bytes e f h =
    subst (λ (o : Option (List ℕ)). Appends (Some []) o text) f (subst (λ (o : Option (List ℕ)). Appends o after text) e h)

-- no such run was refused
not_refused : (listed : Bool) (ran : Ran) → IsRefused ran.words ran.files (end_of listed) ran.why ran.previous → ⊥
not_refused true ran h = h.2
not_refused false ran h = h.2

merges_of : (listed : Bool) (ran : Ran) (settings : Settings)
    → MergesTo settings (order settings) ran.dial ran.dialed ran.output ran.notes (end_of listed)
    → Merges settings (order settings) listed ran.dial ran.dialed ran.output ran.notes
merges_of true ran settings h = h
merges_of false ran settings h = h

whole : MergedLaw → (ran : Ran) (bytes : List ℕ) (w : Wrote ran bytes) → IsRun ran → WroteDocument ran bytes
whole law ran bytes w (inl h) =
    absurd (not_refused w.listed ran (subst (λ (s : Status). IsRefused ran.words ran.files s ran.why ran.previous) w.ended h.0))
whole law ran bytes w (inr h) =
    let settings = h.0 in
    let merges = merges_of w.listed ran settings
    (subst (λ (s : Status). MergesTo settings (order settings) ran.dial ran.dialed ran.output ran.notes s) w.ended h.3) in
    record {
      settings = settings;
      configures = h.1;
      listed = w.listed;
      merges = merges;
      document = record {
        text = appended ran.output.before.told ran.output.after.told (document (merged settings.previous (order settings) merges.gots)) bytes
            w.empty w.whole merges.writes;
        lines_are = law ran.words ran.files.before.told settings ran.dial ran.dialed merges.gots h.1 merges.fetches;
      };
    }

pub wrote_document : MergedLaw → (ran : Ran) (bytes : List ℕ) → Wrote ran bytes → WroteDocument ran bytes
wrote_document law ran bytes w = whole law ran bytes w w.run

-- ---- a later run

abbrev pub BackLaw : Type 0
BackLaw = (bytes : List ℕ) (lines : List MergedLine) (answer : Result (List MergedLine) MergedFault) → IsDocument bytes lines → Answers bytes answer
    → AreBack lines answer

abbrev pub OneLaw : Type 0
OneLaw = (bytes : List ℕ) (a b : List MergedLine) → IsDocument bytes a → IsDocument bytes b → a ≡ b

module _ (back : BackLaw) (one : OneLaw) (later : Ran) (bytes : List ℕ) (lines : List MergedLine) (d : IsDocument bytes lines)
    (b : BeginsWith later bytes) where
  -- the file of that name has no other bytes
  only : (name read : List ℕ) → b.own.previous ≡ Some name → HasFile later.files.before.told name read → read ≡ bytes
  only name read e h =
      let same : b.name ≡ name = cc (sym b.named ∙ e) in
      let found : file_of name b.held ≡ Some read = subst (λ (t : Told). HasFile t name read) b.told h in
      let has : file_of name b.held ≡ Some bytes = subst (λ (n : List ℕ). file_of n b.held ≡ Some bytes) same b.has in
      cc (sym found ∙ has)

  long : (name : List ℕ) → b.own.previous ≡ Some name → HasLongFile later.files.before.told name → MOST_FILE_BYTES < length bytes
  long name e h =
      let found = subst (λ (t : Told). HasLongFile t name) b.told h in
      let has : HasFile later.files.before.told name found.0 = subst (λ (t : Told). HasFile t name found.0) (sym b.told) found.1 in
      subst (λ (read : List ℕ). MOST_FILE_BYTES < length read) (only name found.0 e has) found.2

  bad : (name : List ℕ) (fault : PreviousFault) → b.own.previous ≡ Some name → IsBadPrevious later.files.before.told name fault
      → MayBeRefused bytes fault
  bad name previous_fault.NotRead e h = tt
  bad name previous_fault.TooLong e h = long name e h
  bad name (previous_fault.BadLine at) e h =
      let same : h.0 ≡ bytes = only name h.0 e h.1 in
      back bytes lines (Err (merged_fault.BadLine at)) d (subst (λ (read : List ℕ). BadAt read at) same h.2)

  -- the words say one thing
  own_is : (own : ResourcesWords) → resources_command later.words ≡ Ok own → own ≡ b.own
  own_is own e = cc (sym e ∙ b.command)

  -- ---- why it was refused

  abbrev Says : Option PreviousRefusal → Type 0
  Says previous = (own : PreviousRefusal) → previous ≡ Some own → MayBeRefused bytes own.fault

  says_none : (previous : Option PreviousRefusal) → previous ≡ None → Says previous
  says_none previous e = λ own f. absurd (cc (sym e ∙ f))

  says_bad : (own : ResourcesWords) (why : Option Refusal) (previous : Option PreviousRefusal) → own ≡ b.own
      → BadPrevious later.files.before.told own.previous why previous → Says previous
  says_bad own why previous is h = λ refused e.
      let same : h.refused ≡ refused = cc (sym h.previous_is ∙ e) in
      let named : b.own.previous ≡ Some h.refused.name = ap (λ (w : ResourcesWords). w.previous) (sym is) ∙ h.named in
      subst (λ (r : PreviousRefusal). MayBeRefused bytes r.fault) same (bad h.refused.name h.refused.fault named h.bad)

  says_unread : (own : ResourcesWords) (why : Option Refusal) (previous : Option PreviousRefusal)
      → UnreadPrevious later.files.before.failed later.files.after.failed own.previous why previous → Says previous
  says_unread own why previous h = λ refused e.
      let same : h.refused ≡ refused = cc (sym h.previous_is ∙ e) in
      subst (λ (r : PreviousRefusal). MayBeRefused bytes r.fault) same
      (subst (λ (f : PreviousFault). MayBeRefused bytes f) (sym h.fault_is) tt)

  unread_says : (own : ResourcesWords) (why : Option Refusal) (previous : Option PreviousRefusal)
      → UnreadFile own later.files why previous
      ⊎ (AreLoaded later.files.before.told own × UnreadPrevious later.files.before.failed later.files.after.failed own.previous why previous)
      → Says previous
  unread_says own why previous (inl h) = says_none previous h.nothing
  unread_says own why previous (inr h) = says_unread own why previous h.1

  files_say : (own : ResourcesWords) (status : Status) (why : Option Refusal) (previous : Option PreviousRefusal) → own ≡ b.own
      → status ≢ status_case.NoMemory → FilesEnd own later.files status why previous → Says previous
  files_say own status_case.Configuration why previous is some (inl h) = says_none previous h.nothing
  files_say own status_case.Configuration why previous is some (inr h) = says_bad own why previous is h.1
  files_say own status_case.ReadFault why previous is some h = unread_says own why previous h.1
  files_say own status_case.NoMemory why previous is some h = absurd (some refl)
  files_say own status_case.Done why previous is some h = absurd h
  files_say own status_case.Usage why previous is some h = absurd h
  files_say own status_case.PortFault why previous is some h = absurd h
  files_say own status_case.WriteFault why previous is some h = absurd h
  files_say own status_case.NumbersSpent why previous is some h = absurd h
  files_say own status_case.Input why previous is some h = absurd h
  files_say own status_case.Log why previous is some h = absurd h
  files_say own status_case.NotDelivered why previous is some h = absurd h
  files_say own status_case.NothingListed why previous is some h = absurd h

  refusal_says : (status : Status) (why : Option Refusal) (previous : Option PreviousRefusal) → status ≢ status_case.NoMemory
      → IsRefused later.words later.files status why previous → Says previous
  refusal_says status_case.Usage why previous some h = says_none previous h.2
  refusal_says status_case.NoMemory why previous some h = absurd (some refl)
  refusal_says status_case.Configuration why previous some (inl h) = says_none previous h.4
  refusal_says status_case.Configuration why previous some (inr h) =
      files_say h.0 status_case.Configuration why previous (own_is h.0 h.1) some h.2
  refusal_says status_case.ReadFault why previous some h = files_say h.0 status_case.ReadFault why previous (own_is h.0 h.1) some h.2
  refusal_says status_case.Done why previous some h = absurd h.2
  refusal_says status_case.PortFault why previous some h = absurd h.2
  refusal_says status_case.WriteFault why previous some h = absurd h.2
  refusal_says status_case.NumbersSpent why previous some h = absurd h.2
  refusal_says status_case.Input why previous some h = absurd h.2
  refusal_says status_case.Log why previous some h = absurd h.2
  refusal_says status_case.NotDelivered why previous some h = absurd h.2
  refusal_says status_case.NothingListed why previous some h = absurd h.2

  -- ---- its lines

  previous_is : (settings : Settings) → Configures later.words later.files.before.told settings → settings.previous ≡ lines
  previous_is settings c =
      let own : c.own ≡ b.own = own_is c.own c.command in
      let named : c.own.previous ≡ Some b.name = ap (λ (w : ResourcesWords). w.previous) own ∙ b.named in
      let has : HasPrevious later.files.before.told (Some b.name) settings.previous =
      subst (λ (name : Option (List ℕ)). HasPrevious later.files.before.told name settings.previous) named c.says.previous_is in
      let same : has.0 ≡ bytes = only b.name has.0 b.named has.1 in
      one bytes settings.previous lines (subst (λ (read : List ℕ). IsDocument read settings.previous) same has.2) d

  pub goes_on : IsRun later → GoesOn later bytes lines
  goes_on (inl h) =
      inl (record {
        refused = h.0;
        previous = λ own some e. refusal_says later.status later.why later.previous some h.0 own e;
        asked = h.1;
        untouched = h.2;
        noted = h.3;
      })
  goes_on (inr h) =
      inr (record {
        settings = h.0;
        configures = h.1;
        previous_is = previous_is h.0 h.1;
        sound = h.2;
        merges = h.3;
        why_is = h.4;
        nothing = h.5;
      })
