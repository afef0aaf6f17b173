-- Reading an earlier document, for private clauses.
use Rattle.std.specs.Prelude.{ℕ, List, Option, Some, Result, Ok, Err}
use Rattle.front_ports.specs.Cause.{Rose}
use Rattle.front_ports.specs.FileMap.{HasFile, HasLongFile, Notes}
use Rattle.front_ports.specs.declared.files.FileFail.{FileFail}
use Rattle.front_ports.specs.declared.files.FileFail.TheVariants as fail
use Rattle.group_resources.specs.Lines.{IsDocument}
use Rattle.group_resources.specs.Reading.{BadAt}
use Rattle.group_resources.specs.declared.line.MergedLine.{MergedLine}
use Rattle.command_ends.specs.Ports.{Told}
use Rattle.resources_command.specs.declared.previous.PreviousFault.TheVariants as fault
use Rattle.resources_command.specs.declared.previous.PreviousStop.{PreviousStop}
use Rattle.resources_command.specs.declared.previous.PreviousStop.TheVariants.{Refused, NoMemory}

abbrev pub stop_of : FileFail → PreviousStop
stop_of fail.Fault = Refused fault.NotRead
stop_of fail.TooLong = Refused fault.TooLong
stop_of fail.NoMemory = NoMemory

-- the bytes are a document of these lines, or are refused
abbrev pub IsIn : List ℕ → Result (List MergedLine) PreviousStop → Type 0
IsIn bytes (Ok lines) = IsDocument bytes lines
IsIn bytes (Err (Refused fault.NotRead)) = ⊥
IsIn bytes (Err (Refused fault.TooLong)) = ⊥
IsIn bytes (Err (Refused (fault.BadLine at))) = BadAt bytes at
IsIn bytes (Err NoMemory) = Unit {0}

-- the file of that name is a document of these lines
abbrev pub HasDocument : Told → List ℕ → List MergedLine → Type 0
HasDocument told name lines = (bytes : List ℕ) × HasFile told name bytes × IsDocument bytes lines

-- why it is refused, by the files' count of faults and the name of the last that failed. Otherwise what is told of that stays
abbrev pub IsRefusedSo : Told → List ℕ → ℕ → ℕ → Option (Option (List ℕ)) → Option (Option (List ℕ)) → PreviousStop → Type 0
IsRefusedSo told name before after failed now (Refused fault.NotRead) = Rose before after × Notes failed now (Some name)
IsRefusedSo told name before after failed now (Refused fault.TooLong) = HasLongFile told name
IsRefusedSo told name before after failed now (Refused (fault.BadLine at)) = (bytes : List ℕ) × HasFile told name bytes × BadAt bytes at
IsRefusedSo told name before after failed now NoMemory = Unit {0}
