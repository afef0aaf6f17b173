use Rattle.std.proofs.Common.{arith, sym, ap, ◌∙◌, ◌≡◌, ◌++◌, [], ◌∷◌, length-append, subst, slice_get, IfSome, ℕ}
use Rattle.bench_queue.proofs.Walks.{next_whole, next_below, next_at}
use Rattle.shared_queue.specs.Lanes.{lane_bay}
use Rattle.bench_queue.proofs.shared.roles_of.Goals as goal

pub invariant_of-pusher : goal.invariant_of-pusher
invariant_of-pusher g c =
    let i = c.loop-lane.invariant in
    let whole = i.whole ∙ ap (λ z. c.loop-lane.yielded ++ z) c.in-Some.ensures.steps.0 in
    let at = next_at (λ k l. lane_bay l ≡ k) c.loop-lane.yielded _ c.in-Some.lane
    (subst (λ z. (k : ℕ) → IfSome (slice_get z k) (λ l. lane_bay l ≡ k)) whole c.requires.bays) in
    record { bay_is = at ∙ sym i.count }

pub loop-lane-preserved : goal.loop-lane-preserved
loop-lane-preserved g c =
    let i = c.loop-lane.invariant in
    let below = next_below c.args.lanes.items c.loop-lane.yielded _ _ c.in-Some.lane i.whole c.in-Some.ensures.steps.0 in
    record {
      whole = next_whole c.args.lanes.items c.loop-lane.yielded _ _ c.in-Some.lane i.whole c.in-Some.ensures.steps.0;
      count = omega (arith, below, i.count, c.requires.few, c.saturating_add-bay.ensures, length-append c.loop-lane.yielded (c.in-Some.lane ∷ []));
    }
