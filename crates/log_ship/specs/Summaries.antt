-- What is written of lines that were shipped.
use Rattle.std.specs.Prelude.{◌≡◌, ◌≢◌, ℕ, List, [], ◌++◌, Option, codes}
use Rattle.std.specs.Fmt.{decimal}
use Rattle.std.specs.Io.KnownBytes.{Appends}
use Rattle.front_ports.specs.Cause.{Rose}
use Rattle.front_ports.specs.Written.{AppendsFront}
use Rattle.log_ship.specs.declared.end.ShipEnd.TheVariants.{Done}
use Rattle.log_ship.specs.declared.ship.Shipment.{Shipment}
use Rattle.log_ship.specs.declared.summary.Summed.{Summed}
use Rattle.log_ship.specs.declared.summary.Summed.TheVariants.{Written, NotDue, WriteFault, NoMemory}

-- a name and its number, and what comes below
abbrev pub row : List ℕ → ℕ → List ℕ → List ℕ
row name number below = name ++ (decimal number ++ (codes "\n" ++ below))

-- how many lines were read, posted and lost, and how many posts there were
abbrev pub summary_of : Shipment → List ℕ
summary_of s =
    row (codes "lines ") s.lines (row (codes "posted ") s.tally.posted (row (codes "lost ") s.tally.lost (row (codes "posts ") s.tally.posts [])))

-- nothing was written
pub record IsUntouched (written0 written : Option (List ℕ)) (faults0 faults : ℕ) : Type 0 where
  pub written_is : written ≡ written0
  pub faults_are : faults ≡ faults0

-- a summary was written, or a prefix of it where a write failed, or nothing where memory ran out
abbrev pub Writes : Shipment → Option (List ℕ) → Option (List ℕ) → ℕ → ℕ → Summed → Type 0
Writes s written0 written faults0 faults Written = Appends written0 written (summary_of s) × (faults ≡ faults0)
Writes s written0 written faults0 faults WriteFault = AppendsFront written0 written (summary_of s) × Rose faults0 faults
Writes s written0 written faults0 faults NoMemory = IsUntouched written0 written faults0 faults
Writes s written0 written faults0 faults NotDue = ⊥

-- a summary is written where the input's end was reached, and nothing else is
abbrev pub Sums : Shipment → Option (List ℕ) → Option (List ℕ) → ℕ → ℕ → Summed → Type 0
Sums s written0 written faults0 faults NotDue = (s.end ≢ Done) × IsUntouched written0 written faults0 faults
Sums s written0 written faults0 faults summed = (s.end ≡ Done) × Writes s written0 written faults0 faults summed
