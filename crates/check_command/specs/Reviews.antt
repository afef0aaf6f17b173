-- Which lines of a whole log don't conform to a policy. A line that doesn't is as if it weren't there for those after it.
use Rattle.std.specs.Prelude.{◌≡◌, ◌≢◌, ◌<◌, ◌≤◌, ◌+◌, ◌⊎◌, ℕ, Bool, false, List, [], ◌∷◌, ◌++◌, length, take, Option, Some, None}
use Rattle.std.specs.Io.KnownBytes.{Consumes, IsAtEnd}
use Rattle.audit_check.specs.Conforms.{Conforms, HasAccepted}
use Rattle.audit_check.specs.Seen.{Checked}
use Rattle.audit_check.specs.declared.fault.LineFault.{LineFault}
use Rattle.audit_check.specs.declared.fault.LineFault.TheVariants as fault
use Rattle.check_command.specs.Checks.{AreShort, EndsNext, IsCut, IsFault}
use Rattle.check_command.specs.declared.bad_lines.BadLine.{BadLine}
use Rattle.check_command.specs.declared.bad_lines.BadLines.{BadLines}
use Rattle.check_command.specs.declared.bad_lines.TheConstants.{MOST_LISTED}
use Rattle.check_command.specs.declared.check.CheckEnd.{CheckEnd}
use Rattle.check_command.specs.declared.check.CheckEnd.TheVariants.{Done, Refused, Cut, ReadFault, NumbersSpent, NoMemory}
use Rattle.check_command.specs.declared.review.Reviewed.{Reviewed}
use Rattle.front_base.specs.declared.audit_id.TheConstants.{MOST_REQUESTS}
use Rattle.front_base.specs.declared.line.TheConstants.{MOST_LINE_BYTES}
use Rattle.log_lines.specs.Lines.{HasNoFeed, ReadsLines, StartsTooLong, StartsWithLine}
use Rattle.log_lines.specs.Seen.{Seen}
use Rattle.policy_rules.specs.declared.policy.Policy.{Policy}

-- of these lines, the first of which has that number, those don't conform. Each is judged after the lines before it that do; after all
-- of them these are the lines that do
abbrev pub Judged : Policy → ℕ → List (List ℕ) → List (List ℕ) → List BadLine → List (List ℕ) → Type 0
Judged policy number before [] bad after = (bad ≡ []) × (after ≡ before)
Judged policy number before (line ∷ lines) bad after =
    (Conforms policy before line × Judged policy (number + 1) (before ++ line ∷ []) lines bad after)
    ⊎ ((why : LineFault) × (others : List BadLine) × IsFault policy before line why
    × (bad ≡ record { number = number; why = why } ∷ others) × Judged policy (number + 1) before lines others after)

-- the first of these are listed, and all are counted
pub record Lists (listed : BadLines) (bad : List BadLine) : Type 0 where
  pub first : listed.first.items ≡ take MOST_LISTED bad
  pub count : listed.count ≡ length bad

-- the bytes taken begin with so many lines, of which those don't conform, and this is what comes after them
pub record Passed (policy : Policy) (left0 left : Option (List ℕ)) (count : ℕ) (bad : List BadLine) (rest : List ℕ) : Type 0 where
  pub lines : List (List ℕ)
  pub taken : List ℕ
  pub consumed : Consumes left0 left taken
  pub reads : ReadsLines taken lines rest
  pub short : AreShort lines
  pub conforming : List (List ℕ)
  pub judged : Judged policy 1 [] lines bad conforming
  pub count_is : length lines ≡ count
  pub few : count ≤ MOST_REQUESTS

-- those lines, and the one after so many lines, whose form is wrong
abbrev pub and_last : List BadLine → ℕ → List BadLine
and_last bad count = bad ++ record { number = count + 1; why = fault.Form } ∷ []

-- What a review of a log comes to. The log ends after so many lines, or with one more that is cut, or that has too many bytes; or it could
-- not be read to its end. Where memory ran out, so many lines were judged of what was taken until then
abbrev pub Reviews : Policy → Option (List ℕ) → Option (List ℕ) → Type 0 → ℕ → BadLines → CheckEnd → Type 0
Reviews policy left0 left rose count listed Done =
    (bad : List BadLine) × Passed policy left0 left count bad [] × IsAtEnd left × Lists listed bad
Reviews policy left0 left rose count listed (Refused why) =
    (bad : List BadLine) × (rest : List ℕ) × Passed policy left0 left count bad rest × (count < MOST_REQUESTS) × StartsTooLong rest
    × (why ≡ fault.Form) × Lists listed (and_last bad count)
Reviews policy left0 left rose count listed Cut =
    (bad : List BadLine) × (rest : List ℕ) × Passed policy left0 left count bad rest × (count < MOST_REQUESTS) × IsCut left rest
    × Lists listed (and_last bad count)
Reviews policy left0 left rose count listed ReadFault =
    (bad : List BadLine) × (rest : List ℕ) × Passed policy left0 left count bad rest × HasNoFeed rest × rose × Lists listed bad
Reviews policy left0 left rose count listed NumbersSpent =
    (bad : List BadLine) × (rest : List ℕ) × Passed policy left0 left count bad rest × (count ≡ MOST_REQUESTS) × (rest ≢ [])
    × Lists listed bad
Reviews policy left0 left rose count listed NoMemory =
    (then : Option (List ℕ)) × (bad : List BadLine) × (rest : List ℕ) × Passed policy left0 then count bad rest × Lists listed bad

-- ---- for private clauses

-- a line stood next, and was judged; these bytes are held after it
pub record IsJudged (policy : Policy) (before : List (List ℕ)) (bad : List BadLine) (count : ℕ) (left0 left : Option (List ℕ)) (held0 held : List ℕ)
    (spent : Bool) (checked : Checked) (listed : BadLines) : Type 0 where
  pub bytes : List ℕ
  pub seen : Seen left0 left held0 bytes
  pub line : List ℕ
  pub starts : StartsWithLine bytes line held
  pub short : length line ≤ MOST_LINE_BYTES
  pub few : spent ≡ false
  pub verdict : (Conforms policy before line × HasAccepted policy (before ++ line ∷ []) checked × Lists listed bad)
      ⊎ ((why : LineFault) × IsFault policy before line why × HasAccepted policy before checked
      × Lists listed (bad ++ record { number = count + 1; why = why } ∷ []))

abbrev pub ReviewsNext : Policy → List (List ℕ) → List BadLine → ℕ → Option (List ℕ) → Option (List ℕ) → List ℕ → List ℕ → Bool → Type 0 → Checked → BadLines
    → Option CheckEnd → Type 0
ReviewsNext policy before bad count left0 left held0 held spent rose checked listed None =
    IsJudged policy before bad count left0 left held0 held spent checked listed
ReviewsNext policy before bad count left0 left held0 held spent rose checked listed (Some end) =
    EndsNext policy before left0 left held0 held spent rose end × Lists listed bad

-- so far: these lines were read from the bytes taken and judged, and these bytes are held
pub record SoFar (policy : Policy) (left0 left : Option (List ℕ)) (held : List ℕ) (count : ℕ) (checked : Checked) (listed : BadLines) : Type 0 where
  pub bad : List BadLine
  pub passed : Passed policy left0 left count bad held
  pub accepted : HasAccepted policy passed.conforming checked
  pub lists : Lists listed bad
  pub fewer : listed.count ≤ count

-- what is listed stays
abbrev pub KeepsList : BadLines → BadLines → Type 0
KeepsList old new = (bad : List BadLine) → Lists old bad → Lists new bad

-- one more line is listed, whose form is wrong, unless memory ran out
abbrev pub EndsWithLast : BadLines → ℕ → CheckEnd → Reviewed → Type 0
EndsWithLast old count end r =
    ((r.end ≡ NoMemory) × KeepsList old r.bad)
    ⊎ ((r.end ≡ end) × ((bad : List BadLine) → Lists old bad → Lists r.bad (and_last bad count)))

-- how a review ends that stopped so
abbrev pub EndsAs : BadLines → ℕ → CheckEnd → Reviewed → Type 0
EndsAs old count (Refused why) r = EndsWithLast old count (Refused why) r
EndsAs old count Cut r = EndsWithLast old count Cut r
EndsAs old count Done r = (r.end ≡ Done) × KeepsList old r.bad
EndsAs old count ReadFault r = (r.end ≡ ReadFault) × KeepsList old r.bad
EndsAs old count NumbersSpent r = (r.end ≡ NumbersSpent) × KeepsList old r.bad
EndsAs old count NoMemory r = (r.end ≡ NoMemory) × KeepsList old r.bad
