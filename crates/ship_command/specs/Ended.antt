-- How a run of `ship` ends.
use Rattle.std.specs.Prelude.{◌≡◌, ◌<◌, ◌⊎◌, ℕ, nat_eq, if◌then◌else◌, List, Option, Some, None, option_map}
use Rattle.std.specs.Io.KnownBytes.{Appends}
use Rattle.front_ports.specs.Written.{AppendsFront}
use Rattle.front_plants.specs.declared.call.PlantFail.{PlantFail}
use Rattle.front_plants.specs.declared.call.PlantFail.TheVariants as plant_fail
use Rattle.log_ship.specs.declared.end.ShipEnd.{ShipEnd}
use Rattle.log_ship.specs.declared.end.ShipEnd.TheVariants as end_case
use Rattle.log_ship.specs.declared.ship.Shipment.{Shipment}
use Rattle.command_ends.specs.Ports.{HasFailed, IsSound, IsUntouched, Port}
use Rattle.command_ends.specs.Why.{TellsWords, status_of_words}
use Rattle.command_ends.specs.declared.status.Status.{Status}
use Rattle.command_ends.specs.declared.status.Status.TheVariants.{Done, Configuration, Log, ReadFault, PortFault, NoMemory, NotDelivered, WriteFault, NumbersSpent}
use Rattle.refusal_text.specs.declared.refusal.Refusal.{Refusal}
use Rattle.refusal_text.specs.declared.refusal.Refusal.TheVariants as refusal
use Rattle.ship_command.specs.declared.ended.Shipped.{Shipped}
use Rattle.retry_throttle.specs.Clocks.{ClockTells}
use Rattle.log_ship.specs.Summaries.{summary_of}
use Rattle.log_ship.specs.declared.summary.Summed.{Summed}
use Rattle.log_ship.specs.declared.summary.Summed.TheVariants as summed_case
use Rattle.ship_command.specs.declared.fault.ShipFault.{ShipFault}
use Rattle.ship_command.specs.declared.fault.ShipFault.TheVariants.{Words, Webhook}
use Rattle.truncate_backend.specs.Tries.{SinkTells}

-- what contracts see of what a run leaves: its sink and its clock by what they tell
pub record Left : Type 0 where
  pub status : Status
  pub why : Option Refusal
  pub shipment : Option Shipment
  pub sink : Option SinkTells
  pub clock : Option ClockTells

abbrev pub left_by : {H K : Type 0} → (H → SinkTells) → (K → ClockTells) → Shipped H K → Left
left_by tells clock shipped = record {
  status = shipped.status;
  why = shipped.why;
  shipment = shipped.shipment;
  sink = option_map tells shipped.sink;
  clock = option_map clock shipped.clock;
}

-- ---- once lines were shipped

abbrev pub status_of : ShipEnd → Status
status_of end_case.Done = Done
status_of end_case.NotJson = Log
status_of end_case.TooLong = Log
status_of end_case.Cut = Log
status_of end_case.ReadFault = ReadFault
status_of end_case.NumbersSpent = NumbersSpent
status_of end_case.NoMemory = NoMemory

-- the same once the summary is written, or can't be, and so many lines are lost
abbrev pub status_for : ShipEnd → Summed → ℕ → Status
status_for end summed_case.Written lost = (if nat_eq lost 0 then Done else NotDelivered)
status_for end summed_case.NotDue lost = status_of end
status_for end summed_case.WriteFault lost = WriteFault
status_for end summed_case.NoMemory lost = NoMemory

-- the input or the output that failed
abbrev pub why_of : Status → Option Refusal
why_of ReadFault = Some refusal.Input
why_of WriteFault = Some refusal.Output
why_of _ = None

-- the input's end was reached, and the summary is written
abbrev pub IsSummedUp : Shipment → Port → Port → Type 0
IsSummedUp s input output =
    (s.end ≡ end_case.Done) × IsSound input × Appends output.before.told output.after.told (summary_of s) × IsSound output

-- what each status says, the others being none that such a run has: the summary is written where the input's end was reached, and nothing
-- else is. Where lines are lost the status isn't that of an input whose lines are all posted
abbrev pub EndsSo : Shipment → Port → Port → Status → Type 0
EndsSo s input output Done = (s.tally.lost ≡ 0) × IsSummedUp s input output
EndsSo s input output NotDelivered = (0 < s.tally.lost) × IsSummedUp s input output
EndsSo s input output Log = (status_of s.end ≡ Log) × IsSound input × IsUntouched output
EndsSo s input output ReadFault = (s.end ≡ end_case.ReadFault) × HasFailed input × IsUntouched output
EndsSo s input output NumbersSpent = (s.end ≡ end_case.NumbersSpent) × IsSound input × IsUntouched output
EndsSo s input output WriteFault =
    (s.end ≡ end_case.Done) × IsSound input × AppendsFront output.before.told output.after.told (summary_of s) × HasFailed output
EndsSo s input output NoMemory = ((s.end ≡ end_case.Done) ⊎ (s.end ≡ end_case.NoMemory)) × IsSound input × IsUntouched output
EndsSo s input output _ = ⊥

-- ---- before

abbrev pub status_of_ship : ShipFault → Status
status_of_ship (Words fault) = status_of_words fault
status_of_ship (Webhook url) = Configuration

-- some word, the option and its number, or the URL
abbrev pub TellsShip : ShipFault → Option Refusal → Type 0
TellsShip (Words fault) why = TellsWords fault why
TellsShip (Webhook url) why = why ≡ Some (refusal.Webhook url)

abbrev pub status_of_fail : PlantFail → Status
status_of_fail (plant_fail.Port fault) = PortFault
status_of_fail plant_fail.NoMemory = NoMemory
