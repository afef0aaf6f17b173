-- Whether a text was written.
use Rattle.std.specs.Prelude.{◌≡◌, ℕ, List}
use Rattle.std.specs.Io.KnownBytes.{Appends}
use Rattle.front_ports.specs.Cause.{Rose}
use Rattle.front_ports.specs.Written.{AppendsFront}
use Rattle.command_ends.specs.Ports.{Port}
use Rattle.command_ends.specs.declared.status.Status.{Status}
use Rattle.command_ends.specs.declared.status.Status.TheVariants.{Done, WriteFault}

-- by the status: all of it, or a prefix and a fault that is counted
abbrev pub Tells : List ℕ → Port → Status → Type 0
Tells text out Done = Appends out.before.told out.after.told text × (out.after.faults ≡ out.before.faults)
Tells text out WriteFault = AppendsFront out.before.told out.after.told text × Rose out.before.faults out.after.faults
Tells text out _ = ⊥
