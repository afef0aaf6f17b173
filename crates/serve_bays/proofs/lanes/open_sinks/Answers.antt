use Rattle.std.proofs.Common.{arith, ap, ◌∙◌, ◌∷◌, [], ◌+◌, ◌++◌, length, length-append}
use Rattle.front_plants.specs.Fresh.{IsNewSink}
use Rattle.serve_bays.specs.Sides.{side_call, side_opens}
use Rattle.serve_bays.proofs.CallLemmas.{joins_as, on_err, part_of_equal, replicate_next}
use Rattle.serve_bays.proofs.Lists.{all_more}
use Rattle.serve_bays.proofs.lanes.open_sinks.Goals as goal

pub loop-preserved : goal.loop-preserved
loop-preserved g c =
    let i = c.loop.invariant in
    let e = c.push_reserved.ensures.items ∙ ap (λ l. l ++ c.in_ok-sink.sink ∷ []) c.reserve.ensures.items in
    let s = c.in_ok-sink.ensures in
    let o = c.args.options.now in
    record {
      count = omega (arith, ap length e, length-append c.loop.sinks.items (c.in_ok-sink.sink ∷ []), i.count);
      new = all_more (λ x. IsNewSink (side_opens g.P.Plant.opens o g.Q.SinkSide.sink) (g.Q.S.BatchSink.tells x)) _ _ c.in_ok-sink.sink e i.new s.fresh;
      faults = s.cause ∙ i.faults;
      made = joins_as _ _ _ _ _ _ i.made s.called.made (replicate_next c.loop.counter (side_call o g.Q.SinkSide.sink));
      due = s.called.due ∙ i.due;
    }

pub returns-then-is_err-clause-stopped : goal.returns-then-is_err-clause-stopped
returns-then-is_err-clause-stopped g c =
    part_of_equal _ _ (side_call c.args.options.now g.Q.SinkSide.sink) c.loop.counter c.args.options.now.bays (omega (arith, c.loop.auto.counter-end))
    c.loop.invariant.made

pub returns-in_err-sink-clause-stopped : goal.returns-in_err-sink-clause-stopped
returns-in_err-sink-clause-stopped g c =
    let call = side_call c.args.options.now g.Q.SinkSide.sink in
    on_err _ _ (part_of_equal _ _ call (c.loop.counter + 1) c.args.options.now.bays (omega (arith, c.loop-test.true))
    (joins_as _ _ _ _ _ _ c.loop.invariant.made c.open.ensures.called.made (replicate_next c.loop.counter call)))
