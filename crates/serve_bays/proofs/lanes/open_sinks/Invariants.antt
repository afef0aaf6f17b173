use Rattle.std.proofs.Common.{◌≡◌, length, All}
use Rattle.std.specs.Prelude.{replicate}
use Rattle.front_plants.specs.Fresh.{IsNewSink}
use Rattle.serve_bays.specs.Sides.{side_call, side_opens}
use Rattle.truncate_backend.specs.Told.{Joined}
use Rattle.serve_bays.proofs.lanes.open_sinks.Given as goal

abbrev pub invariant-loop : goal.invariant-loop
invariant-loop g l = record {
  count : length l.sinks.items ≡ l.counter;
  new : All (λ sink. IsNewSink (side_opens g.P.Plant.opens l.fn.options g.Q.SinkSide.sink) (g.Q.S.BatchSink.tells sink)) l.sinks.items;
  faults : (g.P.Plant.tells l.plant).faults ≡ (g.P.Plant.tells l.initial.plant).faults;
  made : Joined (g.P.Plant.tells l.initial.plant).made (replicate l.counter (side_call l.fn.options g.Q.SinkSide.sink)) (g.P.Plant.tells l.plant).made;
  due : (g.P.Plant.tells l.plant).due ≡ (g.P.Plant.tells l.initial.plant).due;
}
