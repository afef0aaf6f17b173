use Rattle.std.proofs.Common.{refl, arith}
use Rattle.queue_drain.proofs.AccountLemmas.{accounts_more}
use Rattle.queue_drain.proofs.drain.QueueDrain.step.Goals as goal

pub returns : goal.returns
returns g c =
    let laws = c.tries_join.ensures in
    let wrote = c.wrote.ensures in
    let lost = c.lost.ensures in
    let x = c.saturating_add-self.ensures in
    let y = c.saturating_add-self-2.ensures in
    let pumped = c.pump-answer.ensures in
    record {
      same = record { limits = pumped.moved.moved.limits; home = pumped.home };
      accounts = λ a.
          accounts_more laws.lines laws.done laws.faults laws.refusals laws.cause c.args.self.now.drainer c.pump-answer.new.self
          _ _ _ _ _ _ _ _ _ _ _ _ _ _ _ _ _ _ _ _ _ _
          pumped.moved pumped.young refl refl c.later-now.ensures.least.0 c.later-now.ensures.last c.now.ensures.given c.now.ensures.later
          c.now.ensures.last (omega arith) (omega arith) a;
      sent = pumped.sent;
    }
