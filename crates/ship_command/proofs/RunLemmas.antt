-- What a run of `ship` comes to.
use Rattle.std.proofs.Common.{◌≡◌, ℕ, List, [], ◌∷◌, ◌++◌, Option, Some, None, Err, IfSome, sym, ap, subst, inl, inr, ◌∙◌, append_assoc}
use Rattle.command_options.specs.declared.fault.WordsFault.TheVariants as words_fault
use Rattle.front_plants.specs.Fresh.{IsNewSink, Openings, hook_opens}
use Rattle.front_plants.specs.Plants.{Called, PlantTells}
use Rattle.front_plants.specs.declared.call.PlantCall.TheVariants as calls
use Rattle.front_ports.specs.Told.{Grows}
use Rattle.log_ship.specs.Shipped.{KeepsCount}
use Rattle.log_ship.specs.declared.ship.Shipment.{Shipment}
use Rattle.command_ends.specs.Ports.{HasFailed, Port}
use Rattle.command_ends.specs.declared.status.Status.{Status}
use Rattle.refusal_text.specs.declared.refusal.Refusal.{Refusal}
use Rattle.ship_command.specs.Ended.{Left, EndsSo, TellsShip, status_for, status_of_ship, why_of}
use Rattle.ship_command.specs.Run.{Refuses, RunsOver}
use Rattle.ship_command.proofs.EndLemmas.{due, ends_so, failed_in}
use Rattle.retry_throttle.specs.Clocks.{ClockTells}
use Rattle.log_ship.specs.Paces.{before_of, setup_of, told_by}
use Rattle.log_ship.specs.Runs.{Ships}
use Rattle.log_ship.specs.Summaries.{Sums}
use Rattle.log_ship.specs.declared.summary.Summed.{Summed}
use Rattle.ship_command.specs.Ship as words_spec
use Rattle.ship_command.specs.Ship.{ship_command}
use Rattle.ship_command.specs.declared.fault.ShipFault.{ShipFault}
use Rattle.ship_command.specs.declared.fault.ShipFault.TheVariants.{Words, Webhook}
use Rattle.ship_command.specs.declared.ship.ShipWords.{ShipWords}
use Rattle.truncate_backend.specs.Tries.{SinkTells}

grows_on : {T : Type 0} (a b c : Option (List T)) (xs ys : List T) → Grows a b xs → Grows b c ys → Grows a c (xs ++ ys)
grows_on None None c xs ys p q = q
grows_on None (Some b) c xs ys p q = cc p
grows_on (Some a) None None xs ys p q = tt
grows_on (Some a) None (Some c) xs ys p q = cc q
grows_on (Some a) (Some b) None xs ys p q = tt
grows_on (Some a) (Some b) (Some c) xs ys p q = q ∙ (ap (λ l. l ++ ys) p ∙ append_assoc a xs ys)

module _ {C : Type 0} (told : ShipWords) (opens : Openings) (m n : PlantTells C) (input output : Port) (left : Left) where
  pub shipped_so : (k : PlantTells C) (sink0 : SinkTells) (clock0 : ClockTells) (shipment : Shipment) (summed : Summed) (sink : SinkTells)
      (clock : ClockTells) → Called m (calls.Hook told.url ∷ []) k → k.faults ≡ m.faults → Called k (calls.Clock ∷ []) n → n.faults ≡ k.faults
      → IsNewSink (hook_opens opens told.url) sink0 → IfSome clock0.given (λ moments. moments ≡ [])
      → Ships told.pace (told_by sink0 clock0) input.before.told input.after.told (HasFailed input) shipment (told_by sink clock)
      → Sums shipment output.before.told output.after.told output.before.faults output.after.faults summed
      → KeepsCount input.before.faults input.after.faults shipment.end
      → left.status ≡ status_for shipment.end summed shipment.tally.lost → left.why ≡ why_of left.status → left.shipment ≡ Some shipment
      → left.sink ≡ Some sink → left.clock ≡ Some clock → RunsOver told opens m n input output left
  shipped_so k sink0 clock0 shipment summed sink clock hooked hook_sound clocked clock_sound new_sink no_moment ships sums keeps status why shipment_is
      sink_is clock_is = inr (record {
        called = record {
          made = record { grows = grows_on m.made k.made n.made (calls.Hook told.url ∷ []) (calls.Clock ∷ []) hooked.made.grows clocked.made.grows };
          due = clocked.due ∙ hooked.due;
        };
        none_failed = clock_sound ∙ hook_sound;
        opened = told_by sink0 clock0;
        new_sink = new_sink;
        no_moment = no_moment;
        shipment = shipment;
        new = told_by sink clock;
        ships = ships;
        ends = subst (λ (s : Status). EndsSo shipment input output s) (sym status)
            (ends_so shipment summed input output sums keeps
            (failed_in (setup_of told.pace) (before_of told.pace) ships.start input.before.told input.after.told (HasFailed input) shipment.passed shipment.lines shipment.tally shipment.end
            ships.stop ships.ships));
        why_is = why;
        shipment_is = shipment_is;
        sink_is = sink_is;
        clock_is = clock_is;
      })

-- words that are refused, by the fault that is answered
pub refuses : (words : List (List ℕ)) (fault : ShipFault) (status : Status) (why : Option Refusal)
    → words_spec.Gives {A = ShipWords} {B = ShipWords} (λ v. v) (Err fault) (ship_command words)
    → status ≡ status_of_ship fault → TellsShip fault why → Refuses words status why
refuses words (Words words_fault.Usage) status why h e t = subst (λ (s : Status). Refuses words s why) (sym e) (due (ship_command words) (Words words_fault.Usage) h, t)
refuses words (Words (words_fault.Limits option n)) status why h e t =
    subst (λ (s : Status). Refuses words s why) (sym e) (inl (option, n, (due (ship_command words) (Words (words_fault.Limits option n)) h, t)))
refuses words (Words words_fault.NoMemory) status why h e t = subst (λ (s : Status). Refuses words s why) (sym e) tt
refuses words (Webhook url) status why h e t = subst (λ (s : Status). Refuses words s why) (sym e) (inr (url, (due (ship_command words) (Webhook url) h, t)))
