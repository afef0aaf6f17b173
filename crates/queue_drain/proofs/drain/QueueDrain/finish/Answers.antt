use Rattle.std.proofs.Common.{refl, ap, sym, ◌∙◌, arith, Some, ◌∷◌}
use Rattle.shared_queue.specs.Queues.{end_accepted, end_capacity, end_tells}
use Rattle.queue_drain.proofs.AccountLemmas.{pumps_keep, ends_drain, first_given, one_later}
use Rattle.queue_drain.proofs.drain.QueueDrain.finish.Goals as goal

pub returns-clause-ends : goal.returns-clause-ends
returns-clause-ends g c =
    let laws = c.tries_join.ensures in
    let parts = c.pops_keep_the_parts.ensures in
    let end = c.finish-end.result in
    let is = c.finish-end.ensures in
    let after = c.flush_all-more.new in
    let says = c.flush_all-more.ensures in
    let x = c.saturating_add.ensures in
    let y = c.saturating_add-2.ensures in
    let w = says.moved.written_is in
    let l = says.moved.lost_is in
    let tells = g.S.BatchSink.tells in
    let flushed = says.flushed in
    let kept = pumps_keep parts.pop (end_accepted end) (end_capacity end) (flushed.last ∷ flushed.before) c.args.self.drainer
    flushed.between c.later-now.result (end_tells end) (end_tells after.outlet) (tells c.args.self.sink) flushed.tells
    flushed.pumps is.parts in
    ends_drain laws.lines laws.done laws.faults laws.refusals laws.cause c.args.self.drainer after.self _ c.args.lanes.items (end_accepted end) _ _
    (end_tells end) (end_tells after.outlet) (tells c.args.self.sink) (tells after.sink) c.args.self.began _ c.later-now.result
    _ _ _ _ _ _ _ _ _ _ _ _
    says.moved (ap (λ z. Some z) is.end.taken) refl c.later-now.ensures.least.0 c.later-now.ensures.last c.now.ensures.given c.now.ensures.later
    (omega arith) (omega arith) c.requires.accounts says.pending
    is.end.accepted (parts.drained _ _ _ (end_capacity end) kept says.left.1) (c.fulls-fulls.ensures ∙ is.end.fulls) c.micros.ensures.value c.micros-2.ensures.value

pub returns-clause-timed : goal.returns-clause-timed
returns-clause-timed g c =
    let ends = (returns-clause-ends g c).in_time.turned in
    record {
      first = first_given _ _ _ ends.given_are ends.first;
      last = c.now.ensures.last
          ∙ sym (c.micros-2.ensures.value ∙ c.later-now.ensures.last (one_later _ _ _ c.requires.accounts.clock_is c.now.ensures.later));
    }
