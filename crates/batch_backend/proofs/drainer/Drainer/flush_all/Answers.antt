use Rattle.std.proofs.Common.{arith, ap, ◌∷◌}
use Rattle.batch_backend.specs.Batches.{Drained}
use Rattle.batch_backend.proofs.TryLaws.{TryLaws, JoinLaws}
use Rattle.batch_backend.proofs.FlushLemmas.{flush-moved, flush-moved-put, flush-pends, flush-pends-put}
use Rattle.batch_backend.proofs.PartLemmas.{parts-moved}
use Rattle.batch_backend.proofs.SentLemmas.{SentLaws, put_sent, pumps_sent}
use Rattle.batch_backend.proofs.drainer.Drainer.flush_all.Goals as goal

pub returns-then-is_empty-clause-moved : goal.returns-then-is_empty-clause-moved
returns-then-is_empty-clause-moved g c =
    let law : TryLaws = record {
      lines = c.tries_join.ensures.lines;
      done = c.tries_join.ensures.done;
      faults = c.tries_join.ensures.faults;
      refusals = c.tries_join.ensures.refusals;
      one_lines = c.one_try.ensures.lines;
      one_done = c.one_try.ensures.done;
      one_lost = c.one_try.ensures.lost;
    } in
    let joins : JoinLaws = record { lines = c.lists_join.ensures.lines; tries = c.lists_join.ensures.tries } in
    flush-moved _ _ _ _ _ _ _ _ _ c.pump_all-written.ensures.pumped law joins

pub returns-then-is_empty-clause-parts : goal.returns-then-is_empty-clause-parts
returns-then-is_empty-clause-parts g c = λ h.
    let law : TryLaws = record {
      lines = c.tries_join.ensures.lines;
      done = c.tries_join.ensures.done;
      faults = c.tries_join.ensures.faults;
      refusals = c.tries_join.ensures.refusals;
      one_lines = c.one_try.ensures.lines;
      one_done = c.one_try.ensures.done;
      one_lost = c.one_try.ensures.lost;
    } in
    let joins : JoinLaws = record { lines = c.lists_join.ensures.lines; tries = c.lists_join.ensures.tries } in
    let m = flush-moved _ _ _ _ _ _ _ _ _ c.pump_all-written.ensures.pumped law joins in
    parts-moved law _ _ _ _ _ _ _ _ m.moved (flush-pends _ _ _ _ _ _ _ _ _ c.pump_all-written.ensures.pumped) h

pub returns-clause-moved : goal.returns-clause-moved
returns-clause-moved g c =
    let law : TryLaws = record {
      lines = c.tries_join.ensures.lines;
      done = c.tries_join.ensures.done;
      faults = c.tries_join.ensures.faults;
      refusals = c.tries_join.ensures.refusals;
      one_lines = c.one_try.ensures.lines;
      one_done = c.one_try.ensures.done;
      one_lost = c.one_try.ensures.lost;
    } in
    let joins : JoinLaws = record { lines = c.lists_join.ensures.lines; tries = c.lists_join.ensures.tries } in
    let e = c.put_due-answer.ensures in
    let a = c.wrote.ensures in
    let b = c.lost.ensures in
    let x = c.saturating_add.ensures in
    let y = c.saturating_add-2.ensures in
    flush-moved-put _ _ _ _ _ _ _ _ _ c.pump_all-written.ensures.pumped law joins c.put_due-answer.new.self
    (g.S.BatchSink.tells c.put_due-answer.new.sink) c.put_due-answer.result c.saturating_add.result c.saturating_add-2.result
    (ap (λ (z : Drained). z.limits) e.left) (ap (λ (z : Drained). z.pending.lines) e.left) e.within e.put
    (omega arith) (omega arith)

pub returns-clause-parts : goal.returns-clause-parts
returns-clause-parts g c = λ h.
    let law : TryLaws = record {
      lines = c.tries_join.ensures.lines;
      done = c.tries_join.ensures.done;
      faults = c.tries_join.ensures.faults;
      refusals = c.tries_join.ensures.refusals;
      one_lines = c.one_try.ensures.lines;
      one_done = c.one_try.ensures.done;
      one_lost = c.one_try.ensures.lost;
    } in
    let e = c.put_due-answer.ensures in
    let m = (returns-clause-moved g c).moved in
    parts-moved law c.args.self.now c.put_due-answer.new.self _ _ _ _ _ _ m
    (flush-pends-put _ _ _ _ _ _ _ _ _ c.pump_all-written.ensures.pumped c.put_due-answer.new.self
    (ap (λ (z : Drained). z.limits) e.left) (ap (λ (z : Drained). z.pending.lines) e.left)) h

pub returns-then-is_empty-clause-sent : goal.returns-then-is_empty-clause-sent
returns-then-is_empty-clause-sent g c =
    let keeps = c.tries_keep_what_was_sent.ensures in
    let law : SentLaws = record { one = keeps.one; none = keeps.none; join = keeps.join } in
    let p = c.pump_all-written.ensures.pumped in
    pumps_sent law (p.last ∷ p.before) c.args.self.now c.pump_all-written.new.self c.args.now _ _ _ _ p.pumps

pub returns-clause-sent : goal.returns-clause-sent
returns-clause-sent g c =
    let keeps = c.tries_keep_what_was_sent.ensures in
    let law : SentLaws = record { one = keeps.one; none = keeps.none; join = keeps.join } in
    let p = c.pump_all-written.ensures.pumped in
    keeps.join (g.S.BatchSink.tells c.args.sink.now) (g.S.BatchSink.tells c.pump_all-written.new.sink)
    (g.S.BatchSink.tells c.put_due-answer.new.sink)
    (pumps_sent law (p.last ∷ p.before) c.args.self.now c.pump_all-written.new.self c.args.now _ _ _ _ p.pumps)
    (put_sent law _ _ _ c.put_due-answer.result c.put_due-answer.ensures.put)
