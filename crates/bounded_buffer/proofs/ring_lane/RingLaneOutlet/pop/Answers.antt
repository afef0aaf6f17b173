use Rattle.std.proofs.Common.{[], ◌∷◌, List, ap, refl}
use Rattle.front_base.specs.Line.{Line}
use Rattle.bounded_buffer.proofs.RingLemmas.{pop-told}
use Rattle.bounded_buffer.proofs.ring_lane.RingLaneOutlet.pop.Goals as goal

pub returns-in-Some-clause-popped : goal.returns-in-Some-clause-popped
returns-in-Some-clause-popped c =
    let s = c.args.self.now in
    let e = c.in-Some.ensures.items in (
      pop-told s.told s.copies.lines s.queue.items c.pop_front.new.self.items c.in-Some.line e s.held s.parts,
      refl,
      record { before = []; after = []; rest = c.pop_front.new.self.items; was = ap (λ (l : List Line). l ∷ []) e; is = refl },
    )
