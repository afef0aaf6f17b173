use Rattle.std.proofs.Common.{◌≡◌, arith, sym, refl, ◌∙◌, false}
use Rattle.batch_backend.specs.Pumps.{is_rest}
use Rattle.batch_backend.proofs.FlushLemmas.{none-yet, pump-more}
use Rattle.batch_backend.proofs.PumpLemmas.{less-work}
use Rattle.batch_backend.proofs.drainer.Drainer.pump_all.Goals as goal

pub pumps-init : goal.pumps-init
pumps-init g c =
    (none-yet c.args.self.now c.args.now (g.U.Outlet.tells c.args.outlet.now) (g.S.BatchSink.tells c.args.sink.now) c.requires, refl)

pub pumps-smaller : goal.pumps-smaller
pumps-smaller g c =
    let n = g.U.Outlet.tells c.pumps.outlet in
    let m = g.U.Outlet.tells c.pump_once-answer.new.outlet in
    let t = g.S.BatchSink.tells c.pumps.sink in
    let u = g.S.BatchSink.tells c.pump_once-answer.new.sink in
    let r : is_rest c.pump_once-answer.result ≡ false = sym c.rests.ensures ∙ c.if-rests.false in
    less-work c.pumps.self c.pump_once-answer.new.self c.args.now n m t u c.pump_once-answer.result
    c.pump_once-answer.ensures.pumped c.pumps.invariant.0.told r

pub pumps-preserved : goal.pumps-preserved
pumps-preserved g c =
    let o = g.U.Outlet.tells c.args.outlet.now in
    let n = g.U.Outlet.tells c.pumps.outlet in
    let m = g.U.Outlet.tells c.pump_once-answer.new.outlet in
    let s = g.S.BatchSink.tells c.args.sink.now in
    let t = g.S.BatchSink.tells c.pumps.sink in
    let u = g.S.BatchSink.tells c.pump_once-answer.new.sink in
    let r : is_rest c.pump_once-answer.result ≡ false = sym c.rests.ensures ∙ c.if-rests.false in
    let a = c.wrote.ensures in
    let b = c.lost.ensures in
    let x = c.saturating_add-written.ensures in
    let y = c.saturating_add-unwritten.ensures in (
      pump-more c.args.self.now c.pumps.self c.pump_once-answer.new.self c.args.now o n m s t u
          c.pumps.written c.pumps.unwritten c.saturating_add-written.result c.saturating_add-unwritten.result
          c.pump_once-answer.result c.pumps.invariant.0 c.pump_once-answer.ensures.pumped r (omega arith) (omega arith),
      c.pump_once-answer.ensures.home ∙ c.pumps.invariant.1,
    )
