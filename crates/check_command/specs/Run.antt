-- A run of the command `check`.
use Rattle.std.specs.Prelude.{◌≡◌, ℕ, ◌-◌, ◌==◌, ◌⊎◌, nat_lt, Bool, true, false, List, [], ◌∷◌, Option, Some, None, if◌then◌else◌}
use Rattle.std.specs.Io.KnownBytes.{Appends}
use Rattle.check_command.specs.Answer.{answer_text, review_text}
use Rattle.check_command.specs.Checks.{Checks}
use Rattle.check_command.specs.Config.{Configures, IsRefused}
use Rattle.check_command.specs.Reviews.{Reviews}
use Rattle.check_command.specs.Words.{asks_all}
use Rattle.check_command.specs.declared.bad_lines.BadLine.{BadLine}
use Rattle.check_command.specs.declared.check.CheckEnd.{CheckEnd}
use Rattle.check_command.specs.declared.check.CheckEnd.TheVariants as end_case
use Rattle.check_command.specs.declared.check.Checked.{Checked}
use Rattle.check_command.specs.declared.review.Reviewed.{Reviewed}
use Rattle.front_ports.specs.Written.{AppendsFront}
use Rattle.policy_rules.specs.declared.policy.Policy.{Policy}
use Rattle.command_ends.specs.Ports.{AreSound, FilesPort, HasFailed, IsSound, IsUntouched, Port}
use Rattle.command_ends.specs.declared.status.Status.{Status}
use Rattle.command_ends.specs.declared.status.Status.TheVariants.{Done, Log, ReadFault, NoMemory, WriteFault, NumbersSpent}
use Rattle.refusal_text.specs.declared.refusal.Refusal.{Refusal}
use Rattle.refusal_text.specs.declared.refusal.Refusal.TheVariants as refusal

-- the text was written
abbrev pub Answers : Port → List ℕ → Type 0
Answers output text = Appends output.before.told output.after.told text × IsSound output

-- a prefix of the text was written, and then a write failed
abbrev pub AnswersPart : Port → List ℕ → Type 0
AnswersPart output text = HasFailed output × AppendsFront output.before.told output.after.told text

-- ---- up to the first line that doesn't conform

abbrev pub ChecksInput : Policy → Port → Checked → Type 0
ChecksInput policy input told = Checks policy input.before.told input.after.told (HasFailed input) told.lines told.end

abbrev pub answer_of : Checked → List ℕ
answer_of told = answer_text told.lines told.end

-- the status that tells how far a log conforms
abbrev pub status_of : CheckEnd → Status
status_of end_case.Done = Done
status_of (end_case.Refused why) = Log
status_of end_case.Cut = Log
status_of end_case.ReadFault = ReadFault
status_of end_case.NumbersSpent = NumbersSpent
status_of end_case.NoMemory = NoMemory

-- what each status says of what was found, the others being none that this run has
abbrev pub FindsSo : Policy → Port → Port → Checked → Status → Type 0
FindsSo policy input output told Done = (told.end ≡ end_case.Done) × ChecksInput policy input told × IsSound input × Answers output (answer_of told)
FindsSo policy input output told Log = (status_of told.end ≡ Log) × ChecksInput policy input told × IsSound input × Answers output (answer_of told)
FindsSo policy input output told ReadFault = (told.end ≡ end_case.ReadFault) × ChecksInput policy input told × IsUntouched output
FindsSo policy input output told NumbersSpent =
    (told.end ≡ end_case.NumbersSpent) × ChecksInput policy input told × IsSound input × IsUntouched output
FindsSo policy input output told WriteFault = ChecksInput policy input told × AnswersPart output (answer_of told)
FindsSo policy input output told NoMemory = ChecksInput policy input told × IsUntouched output
FindsSo policy input output told _ = ⊥

abbrev pub ChecksLog : Policy → Port → Port → Status → Option Checked → Type 0
ChecksLog policy input output status checked = (told : Checked) × (checked ≡ Some told) × FindsSo policy input output told status

-- ---- all lines

abbrev pub ReviewsInput : Policy → Port → Reviewed → Type 0
ReviewsInput policy input told = Reviews policy input.before.told input.after.told (HasFailed input) told.lines told.bad told.end

abbrev pub review_of : Reviewed → List ℕ
review_of told = review_text told.lines told.bad

-- the status that tells whether all lines conform
abbrev pub status_by : CheckEnd → ℕ → Status
status_by end_case.Done count = if count == 0 then Done else Log
status_by (end_case.Refused why) count = Log
status_by end_case.Cut count = Log
status_by end_case.ReadFault count = ReadFault
status_by end_case.NumbersSpent count = NumbersSpent
status_by end_case.NoMemory count = NoMemory

abbrev pub status_in : Reviewed → Status
status_in told = status_by told.end told.bad.count

abbrev pub FindsAllSo : Policy → Port → Port → Reviewed → Status → Type 0
FindsAllSo policy input output told Done = (status_in told ≡ Done) × ReviewsInput policy input told × IsSound input × Answers output (review_of told)
FindsAllSo policy input output told Log = (status_in told ≡ Log) × ReviewsInput policy input told × IsSound input × Answers output (review_of told)
FindsAllSo policy input output told ReadFault = (told.end ≡ end_case.ReadFault) × ReviewsInput policy input told × IsUntouched output
FindsAllSo policy input output told NumbersSpent =
    (told.end ≡ end_case.NumbersSpent) × ReviewsInput policy input told × IsSound input × IsUntouched output
FindsAllSo policy input output told WriteFault = ReviewsInput policy input told × AnswersPart output (review_of told)
FindsAllSo policy input output told NoMemory = ReviewsInput policy input told × IsUntouched output
FindsAllSo policy input output told _ = ⊥

-- the first line that doesn't conform, as a check tells it that looks no further: the log may end within it
abbrev pub end_at : CheckEnd → ℕ → BadLine → CheckEnd
end_at end_case.Cut lines first = if nat_lt lines first.number then end_case.Cut else end_case.Refused first.why
end_at _ lines first = end_case.Refused first.why

abbrev pub first_of : List BadLine → ℕ → CheckEnd → Checked
first_of [] lines end = record { lines = lines; end = end }
first_of (first ∷ others) lines end = record { lines = first.number - 1; end = end_at end lines first }

abbrev pub ReviewsLog : Policy → Port → Port → Status → Option Checked → Type 0
ReviewsLog policy input output status checked =
    (told : Reviewed) × (checked ≡ Some (first_of told.bad.first.items told.lines told.end)) × FindsAllSo policy input output told status

-- ---- a run

-- the input or the output that failed
abbrev pub why_of : Status → Option Refusal
why_of ReadFault = Some refusal.Input
why_of WriteFault = Some refusal.Output
why_of _ = None

-- a log is checked up to its first line that doesn't conform, or all of it
abbrev pub LogIsChecked : Bool → Policy → Port → Port → Status → Option Checked → Type 0
LogIsChecked false policy input output status checked = ChecksLog policy input output status checked
LogIsChecked true policy input output status checked = ReviewsLog policy input output status checked

-- it is refused before it reads or writes anything
abbrev pub RefusesRun : List (List ℕ) → FilesPort → Port → Port → Status → Option Refusal → Option Checked → Type 0
RefusesRun words files input output status why checked =
    IsRefused words files status why × IsUntouched input × IsUntouched output × (checked ≡ None)

-- the policy was read, and the log of its input is checked
abbrev pub ChecksRun : List (List ℕ) → FilesPort → Port → Port → Status → Option Refusal → Option Checked → Type 0
ChecksRun words files input output status why checked =
    (policy : Policy) × Configures words files.before.told policy × AreSound files
    × LogIsChecked (asks_all words) policy input output status checked × (why ≡ why_of status)

abbrev pub Run : List (List ℕ) → FilesPort → Port → Port → Status → Option Refusal → Option Checked → Type 0
Run words files input output status why checked =
    RefusesRun words files input output status why checked ⊎ ChecksRun words files input output status why checked

-- ---- for private clauses

-- what is written where nothing fails
abbrev pub IsAnswered : Port → CheckEnd → List ℕ → Type 0
IsAnswered output end_case.Done text = Answers output text
IsAnswered output (end_case.Refused why) text = Answers output text
IsAnswered output end_case.Cut text = Answers output text
IsAnswered output _ text = IsUntouched output

-- the text was written, or a prefix of it where a write failed; or memory ran out, and nothing was
abbrev pub Tells : CheckEnd → Status → List ℕ → Port → Status → Type 0
Tells end done text output status =
    ((status ≡ done) × IsAnswered output end text)
    ⊎ ((status ≡ WriteFault) × AnswersPart output text)
    ⊎ ((status ≡ NoMemory) × IsUntouched output)

abbrev pub Writes : Status → List ℕ → Port → Status → Type 0
Writes done text output status = ((status ≡ done) × Answers output text) ⊎ ((status ≡ WriteFault) × AnswersPart output text)

abbrev pub WritesIf : Status → List ℕ → Port → Status → Type 0
WritesIf done text output status = Writes done text output status ⊎ ((status ≡ NoMemory) × IsUntouched output)
