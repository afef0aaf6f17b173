use Rattle.std.proofs.Common.{ap, ◌∙◌, ◌∷◌, [], arith, length, length-append}
use Rattle.any_lane.specs.declared.lane.AnyLane.TheVariants.{Off}
use Rattle.sink_lanes.proofs.Parts.{off_none, off_more}
use Rattle.sink_lanes.proofs.making.off_lanes.Goals as goal

pub loop-init : goal.loop-init
loop-init g c = record { off = off_none _ c.new-lanes.ensures.items; count = ap length c.new-lanes.ensures.items }

pub loop-preserved : goal.loop-preserved
loop-preserved g c =
    let i = c.loop.invariant in
    let e = c.in_ok-push.ensures.items in
    record {
      off = off_more _ _ e i.off;
      count = omega (arith, ap length e, length-append c.loop.lanes.items (Off 0 ∷ []), i.count);
    }
