-- What `check` writes.
use Rattle.std.specs.Prelude.{ℕ, ◌+◌, ◌-◌, ◌==◌, ◌^◌, min, List, [], ◌++◌, codes, flat_map, if◌then◌else◌}
use Rattle.std.specs.Fmt.{decimal}
use Rattle.audit_check.specs.declared.fault.LineFault.{LineFault}
use Rattle.audit_check.specs.declared.fault.LineFault.TheVariants as fault
use Rattle.check_command.specs.declared.bad_lines.BadLine.{BadLine}
use Rattle.check_command.specs.declared.bad_lines.BadLines.{BadLines}
use Rattle.check_command.specs.declared.check.CheckEnd.{CheckEnd}
use Rattle.check_command.specs.declared.check.CheckEnd.TheVariants.{Done, Refused, Cut, ReadFault, NumbersSpent, NoMemory}

abbrev pub word_of : LineFault → List ℕ
word_of fault.Form = codes "form"
word_of fault.Place = codes "place"
word_of (fault.Level first) = codes "level"
word_of (fault.Stage before) = codes "stage"
word_of fault.NoMemory = []

-- the number of a line that doesn't conform, counted from 1, and why
abbrev pub line_text : ℕ → LineFault → List ℕ
line_text number why = codes "line " ++ (decimal number ++ (codes " " ++ (word_of why ++ codes "\n")))

-- the first one, after so many that conform
abbrev pub refused_text : ℕ → LineFault → List ℕ
refused_text lines why = line_text (min (lines + 1) (2 ^ 64 - 1)) why

-- how many lines of events there are
abbrev pub events_text : ℕ → List ℕ
events_text lines = codes "events " ++ (decimal lines ++ codes "\n")

-- after so many lines that conform
abbrev pub answer_text : ℕ → CheckEnd → List ℕ
answer_text lines Done = events_text lines
answer_text lines (Refused why) = refused_text lines why
answer_text lines Cut = refused_text lines fault.Form
answer_text lines ReadFault = []
answer_text lines NumbersSpent = []
answer_text lines NoMemory = []

abbrev pub lines_text : List BadLine → List ℕ
lines_text bad = flat_map (λ (line : BadLine). line_text line.number line.why) bad

-- the lines that are listed, and how many don't conform
abbrev pub bad_text : BadLines → List ℕ
bad_text bad = lines_text bad.first.items ++ (codes "bad lines " ++ (decimal bad.count ++ codes "\n"))

-- of a whole log of so many lines
abbrev pub review_text : ℕ → BadLines → List ℕ
review_text lines bad = if bad.count == 0 then events_text lines else bad_text bad
