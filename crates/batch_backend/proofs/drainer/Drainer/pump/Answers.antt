use Rattle.batch_backend.proofs.TryLaws.{TryLaws}
use Rattle.batch_backend.proofs.PumpLemmas.{moved-from, young-from}
use Rattle.batch_backend.proofs.PartLemmas.{parts-moved, pends-on}
use Rattle.batch_backend.proofs.SentLemmas.{SentLaws, pump_sent}
use Rattle.batch_backend.proofs.drainer.Drainer.pump.Goals as goal

pub returns-clause-moved : goal.returns-clause-moved
returns-clause-moved g c =
    let law : TryLaws = record {
      lines = c.tries_join.ensures.lines;
      done = c.tries_join.ensures.done;
      faults = c.tries_join.ensures.faults;
      refusals = c.tries_join.ensures.refusals;
      one_lines = c.one_try.ensures.lines;
      one_done = c.one_try.ensures.done;
      one_lost = c.one_try.ensures.lost;
    } in
    let d = c.args.self.now in
    let e = c.pump_once.new.self in
    let o = g.U.Outlet.tells c.args.outlet.now in
    let n = g.U.Outlet.tells c.pump_once.new.outlet in
    let s = g.S.BatchSink.tells c.args.sink.now in
    let t = g.S.BatchSink.tells c.pump_once.new.sink in
    moved-from law d e c.args.now o n s t c.pump_once.result c.pump_once.ensures.pumped

pub returns-clause-young : goal.returns-clause-young
returns-clause-young g c =
    young-from c.args.self.now c.pump_once.new.self c.args.now _ _ _ _ c.pump_once.result c.pump_once.ensures.pumped

pub returns-clause-parts : goal.returns-clause-parts
returns-clause-parts g c = λ h.
    let law : TryLaws = record {
      lines = c.tries_join.ensures.lines;
      done = c.tries_join.ensures.done;
      faults = c.tries_join.ensures.faults;
      refusals = c.tries_join.ensures.refusals;
      one_lines = c.one_try.ensures.lines;
      one_done = c.one_try.ensures.done;
      one_lost = c.one_try.ensures.lost;
    } in
    let d = c.args.self.now in
    let e = c.pump_once.new.self in
    let o = g.U.Outlet.tells c.args.outlet.now in
    let n = g.U.Outlet.tells c.pump_once.new.outlet in
    let s = g.S.BatchSink.tells c.args.sink.now in
    let t = g.S.BatchSink.tells c.pump_once.new.sink in
    parts-moved law d e o n s t _ _ (moved-from law d e c.args.now o n s t c.pump_once.result c.pump_once.ensures.pumped).moved
    (pends-on d e c.args.now o n s t c.pump_once.result c.pump_once.ensures.pumped) h

pub returns-clause-sent : goal.returns-clause-sent
returns-clause-sent g c =
    let keeps = c.tries_keep_what_was_sent.ensures in
    let law : SentLaws = record { one = keeps.one; none = keeps.none; join = keeps.join } in
    pump_sent law c.args.self.now c.pump_once.new.self c.args.now _ _ _ _ c.pump_once.result c.pump_once.ensures.pumped
