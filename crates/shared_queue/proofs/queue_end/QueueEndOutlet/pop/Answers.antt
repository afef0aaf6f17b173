use Rattle.std.proofs.Common.{ap, ◌∙◌, subst, sym, refl, arith, Some}
use Rattle.truncate_backend.specs.Outlets.{TakesOne}
use Rattle.crossbeam_queue.specs.Passes.{view}
use Rattle.shared_queue.specs.declared.views.View.{View}
use Rattle.shared_queue.specs.Ends.{lefts}
use Rattle.shared_queue.proofs.Steps.{accounts}
use Rattle.shared_queue.proofs.Ends.{drains, after_pop, ends_on, takes, none_left}
use Rattle.shared_queue.proofs.queue_end.QueueEndOutlet.pop.Goals as goal

pub pop_as-requires-clause-rule : goal.pop_as-requires-clause-rule
pop_as-requires-clause-rule g c = (drains _ _ c.args.self.now.ends.0 c.args.self.now.ends.1, accounts _ _ c.args.self.now.ends.0 c.args.self.now.ends.1)

pub invariant_of-self : goal.invariant_of-self
invariant_of-self g c =
    let w = view c.pop_as.new.pass in
    let a = after_pop c.args.self.now.capacity c.pop_as.result (view c.args.self.now.pass) w c.pop_as.ensures.rule c.args.self.now.in_order c.args.self.now.parts in
    let e = ends_on c.pop_as.result (view c.args.self.now.pass) w c.pop_as.ensures.rule c.args.self.now.ends in
    record { tied = (c.pop_as.ensures.queue.0 ∙ c.args.self.now.tied.0, c.pop_as.ensures.queue.2 ∙ c.args.self.now.tied.1); ends = e; in_order = a.0; parts = a.1 }

pub returns-in-Some-clause-popped : goal.returns-in-Some-clause-popped
returns-in-Some-clause-popped g c = let r = c.in-Some.ensures.rule in (
  record { grows = ap (λ (v : View). v.taken) r.0 },
  refl,
  subst (λ (w : View). TakesOne (lefts (view c.args.self.now.pass)) c.in-Some.line (lefts w)) (sym r.0) (takes _ _ _ r.1.1 c.args.self.now.in_order),
)

pub returns-in-None-clause-popped : goal.returns-in-None-clause-popped
returns-in-None-clause-popped g c =
    let r = c.in-None.ensures.rule in
    let e = c.saturating_add-self.ensures in (
      ap (λ (v : View). Some v.taken) r.0,
      record { later = omega (arith, e); rose = omega (arith, e) },
      none_left _ r.1.0 r.1.1 r.1.2,
      ap (λ (v : View). Some (lefts v)) r.0,
    )
