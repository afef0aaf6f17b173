-- What a turn leaves, as the code makes it.
use Rattle.std.proofs.Common.{◌≡◌, ℕ, true, Bool, List, Option, Some, length, take, refl}
use Rattle.std.specs.Prelude.{option_map}
use Rattle.apiservice_rows.specs.Row.{Row}
use Rattle.apiservice_table.specs.Changes.{after, refusal}
use Rattle.apiservice_table.specs.declared.change.Change.{Change}
use Rattle.apiservice_table.specs.declared.change.ChangeFault.{ChangeFault}
use Rattle.audit_core.specs.Routing.{row_for}
use Rattle.model_sinks.specs.Fixed.{Fixed, setup_of}
use Rattle.model_sinks.specs.Running.{TurnsTo}
use Rattle.stage_event.specs.declared.facts.Kept.{Kept}
use Rattle.model_worlds.specs.Steps.{can_decide, can_find, change_refusal, changed, changes_with, decided_with, found, found_with, in_exchange, row_at}
use Rattle.model_worlds.specs.declared.state.Bay.{Bay}
use Rattle.model_worlds.specs.declared.state.Open.{Open}
use Rattle.model_worlds.specs.declared.state.Shared.{Shared}
use Rattle.model_worlds.specs.declared.step.StepAnswer.TheVariants.{Found, Changed}

pub found_turn : (own : Fixed) (keep : Bool → List ℕ → Kept) (seen : ℕ) (sh : Shared) (b : Bay) (o : Open)
    (current : Option Open) (row : Option Row) → b.current ≡ Some o → can_find seen sh b o ≡ true
    → row ≡ row_for (after own.opening (take seen sh.changes)) o.exchange.errand
    → current ≡ option_map (found_with seen) b.current
    → TurnsTo (in_exchange (found (setup_of own keep) seen) sh b) sh b sh (record b { seen = seen; current = current })
    (Found row)
unfolding row_at
found_turn own keep seen sh b o current row at can is now = rw (is, now, at, can) (refl, refl, refl)

pub changed_turn : (own : Fixed) (keep : Bool → List ℕ → Kept) (sh new : Shared) (b : Bay) (o : Open) (change : Change)
    (current : Option Open) (seen : ℕ) (fault : Option ChangeFault) → b.current ≡ Some o
    → o.exchange.asked ≡ Some change → can_decide o ≡ true
    → fault ≡ refusal (after own.opening sh.changes) change
    → new ≡ record sh { changes = changes_with sh.changes change fault }
    → seen ≡ length (changes_with sh.changes change fault)
    → current ≡ option_map (decided_with (length sh.changes)) b.current
    → TurnsTo (in_exchange (changed (setup_of own keep)) sh b) sh b new (record b { seen = seen; current = current })
    (Changed fault)
unfolding change_refusal
changed_turn own keep sh new b o change current seen fault at asks can is made count now =
    rw (made, count, now, at, asks, can, is) (refl, refl, refl)
