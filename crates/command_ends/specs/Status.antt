-- The statuses that the program ends with.
use Rattle.std.specs.Prelude.{ℕ}
use Rattle.command_ends.specs.declared.status.Status.{Status}
use Rattle.command_ends.specs.declared.status.Status.TheVariants.{Done, Usage, Configuration, ReadFault, PortFault, NoMemory, WriteFault, NumbersSpent, Input, Log, NotDelivered, NothingListed}

abbrev pub code_of : Status → ℕ
code_of Done = 0
code_of Usage = 2
code_of Configuration = 3
code_of ReadFault = 4
code_of PortFault = 5
code_of NoMemory = 6
code_of WriteFault = 7
code_of NumbersSpent = 8
code_of Input = 9
code_of Log = 10
code_of NotDelivered = 11
code_of NothingListed = 12
