use Rattle.std.proofs.Common.{ℕ, sym, subst, Option, List}
use Rattle.front_plants.specs.declared.call.PlantCall.{PlantCall}
use Rattle.serve_bays.specs.LaneCalls.{CalledInPart}
use Rattle.serve_bays.specs.Lanes.{AreAllotted}
use Rattle.serve_bays.specs.Sides.{side_call, side_opens}
use Rattle.serve_bays.proofs.CallLemmas.{called_batch, in_part_all, in_part_batch, in_part_none, in_part_own, on_err, part_whole}
use Rattle.serve_bays.proofs.MadeLemmas.{made_batch, made_none, made_own, same_allots}
use Rattle.serve_bays.proofs.lanes.side_lanes.Goals as goal

pub returns-in_ok-off_lanes-in-Off-clause-made : goal.returns-in_ok-off_lanes-in-Off-clause-made
returns-in_ok-off_lanes-in-Off-clause-made g c =
    let o = c.args.options.now in
    made_none g.Q.S.BatchSink g.P.K.Clock (side_opens g.P.Plant.opens o g.Q.SinkSide.sink) (side_call o g.Q.SinkSide.sink) c.args.mode o.bays
    o.buffer o.limits _ _ _ c.in-Off.is c.in_ok-off_lanes-in-Off.ensures.lanes c.in_ok-off_lanes-in-Off.ensures.drain

pub returns-in_ok-queued_lanes-in-Batch-clause-made : goal.returns-in_ok-queued_lanes-in-Batch-clause-made
returns-in_ok-queued_lanes-in-Batch-clause-made g c =
    let o = c.args.options.now in
    let allots = c.in_ok-allots-in-Batch in
    let sink = c.in_ok-sink-in-Batch in
    made_batch g.Q.S.BatchSink g.P.K.Clock (side_opens g.P.Plant.opens o g.Q.SinkSide.sink) (side_call o g.Q.SinkSide.sink) c.args.mode o.bays
    o.buffer o.limits _ _ allots.allots.items (g.Q.S.BatchSink.tells sink.sink) _ _ c.in-Batch.is
    (called_batch _ _ c.args.mode allots.allots.items _ _ _ _ c.in-Batch.is allots.ensures.allotted.count allots.ensures.called
    sink.ensures.called.made c.clock-clock.ensures.called.made)
    (subst (λ (said : ℕ → Option ℕ). AreAllotted said o.bays allots.allots.items) (sym (same_allots g.P.Plant.opens o g.Q.SinkSide.sink))
    allots.ensures.allotted) sink.ensures.fresh c.in_ok-queued_lanes-in-Batch.ensures

pub returns-in_ok-own_lanes-in-Blocking-clause-made : goal.returns-in_ok-own_lanes-in-Blocking-clause-made
returns-in_ok-own_lanes-in-Blocking-clause-made g c =
    let o = c.args.options.now in
    let own = c.in_ok-sinks-in-Blocking in
    let made = c.in_ok-own_lanes-in-Blocking.ensures in
    made_own g.Q.S.BatchSink g.P.K.Clock (side_opens g.P.Plant.opens o g.Q.SinkSide.sink) (side_call o g.Q.SinkSide.sink) c.args.mode o.bays
    o.buffer o.limits _ _ own.sinks.items _ _ c.in-Blocking.is made.lanes own.ensures.count own.ensures.new made.drain own.ensures.called

pub returns-in_err-off_lanes-in-Off-clause-stopped : goal.returns-in_err-off_lanes-in-Off-clause-stopped
returns-in_err-off_lanes-in-Off-clause-stopped g c =
    let o = c.args.options.now in
    on_err _ _ (in_part_none (side_call o g.Q.SinkSide.sink) o.bays c.args.mode _)

pub returns-in_err-allots-in-Batch-clause-stopped : goal.returns-in_err-allots-in-Batch-clause-stopped
returns-in_err-allots-in-Batch-clause-stopped g c =
    let o = c.args.options.now in
    let call = side_call o g.Q.SinkSide.sink in
    on_err _ _ (subst (λ (z : Option (List PlantCall)). CalledInPart call o.bays c.args.mode (g.P.Plant.tells c.args.plant.now).made z)
    (sym c.in_err-allots-in-Batch.ensures.uncalled) (in_part_none call o.bays c.args.mode _))

pub returns-in_err-sink-in-Batch-clause-stopped : goal.returns-in_err-sink-in-Batch-clause-stopped
returns-in_err-sink-in-Batch-clause-stopped g c =
    let o = c.args.options.now in
    let allots = c.in_ok-allots-in-Batch in
    on_err _ _ (in_part_batch (side_call o g.Q.SinkSide.sink) o.bays c.args.mode allots.allots.items _ _ _ c.in-Batch.is allots.ensures.allotted.count
    allots.ensures.called c.in_err-sink-in-Batch.ensures.called.made)

pub returns-in_err-queued_lanes-in-Batch-clause-stopped : goal.returns-in_err-queued_lanes-in-Batch-clause-stopped
returns-in_err-queued_lanes-in-Batch-clause-stopped g c =
    let o = c.args.options.now in
    let allots = c.in_ok-allots-in-Batch in
    on_err _ _ (in_part_all (side_call o g.Q.SinkSide.sink) o.bays allots.allots.items c.args.mode _ _
    (called_batch _ _ c.args.mode allots.allots.items _ _ _ _ c.in-Batch.is allots.ensures.allotted.count allots.ensures.called
    c.in_ok-sink-in-Batch.ensures.called.made c.clock-clock.ensures.called.made))

pub returns-in_err-sinks-in-Blocking-clause-stopped : goal.returns-in_err-sinks-in-Blocking-clause-stopped
returns-in_err-sinks-in-Blocking-clause-stopped g c =
    let o = c.args.options.now in
    on_err _ _ (in_part_own (side_call o g.Q.SinkSide.sink) o.bays c.args.mode _ _ c.in-Blocking.is c.in_err-sinks-in-Blocking.ensures.stopped)

pub returns-in_err-own_lanes-in-Blocking-clause-stopped : goal.returns-in_err-own_lanes-in-Blocking-clause-stopped
returns-in_err-own_lanes-in-Blocking-clause-stopped g c =
    let o = c.args.options.now in
    on_err _ _ (in_part_own (side_call o g.Q.SinkSide.sink) o.bays c.args.mode _ _ c.in-Blocking.is
    (part_whole _ _ _ c.in_ok-sinks-in-Blocking.ensures.called))
