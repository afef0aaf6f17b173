use Rattle.std.proofs.Common.{List, [], ◌∷◌, ℕ, ap, option_map, subst}
use Rattle.front_plants.specs.Fresh.{IsNewSink, hook_opens}
use Rattle.front_plants.specs.Plants.{Called}
use Rattle.front_plants.specs.declared.call.PlantCall.TheVariants as calls
use Rattle.retry_throttle.specs.Clocks.{clock_tells}
use Rattle.ship_command.specs.Ended.{left_by}
use Rattle.ship_command.proofs.RunLemmas.{shipped_so}
use Rattle.ship_command.proofs.run.ship_over.Goals as goal

pub returns-clause-over : goal.returns-clause-over
returns-clause-over g c =
    let tells = g.P.Plant.tells in
    let clock = clock_tells g.P.K.Clock.given g.P.K.Clock.last g.P.K.Clock.rests in
    let o = c.in-Ok.ensures in
    let k = c.clock-clock.ensures in
    let s = c.ship_input.ensures in
    let e = c.shipped.ensures in
    shipped_so c.args.told.now g.P.Plant.opens (tells c.args.plant.now) (tells c.clock-clock.new.self) _ _
    (left_by g.P.H.BatchSink.tells clock c.shipped.result) (tells c.hook.new.self) (g.P.H.BatchSink.tells c.in-Ok.sink)
    (clock c.clock-clock.result) c.ship_input.result.shipment c.ship_input.result.summed
    (g.P.H.BatchSink.tells c.ship_input.result.sink) (clock c.ship_input.result.clock)
    (subst (λ (url : List ℕ). Called (tells c.args.plant.now) (calls.Hook url ∷ []) (tells c.hook.new.self)) c.as_str.ensures o.called)
    o.cause k.called k.faults
    (subst (λ (url : List ℕ). IsNewSink (hook_opens g.P.Plant.opens url) (g.P.H.BatchSink.tells c.in-Ok.sink)) c.as_str.ensures o.fresh)
    k.fresh.no_moment s.ships s.sums s.told e.status e.why e.parts.0 (ap (option_map g.P.H.BatchSink.tells) e.parts.1)
    (ap (option_map clock) e.parts.2)
