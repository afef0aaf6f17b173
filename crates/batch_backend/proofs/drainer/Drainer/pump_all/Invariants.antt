use Rattle.std.proofs.Common.{◌≡◌}
use Rattle.batch_backend.specs.Flushes.{PumpedOn, work_left}
use Rattle.batch_backend.proofs.drainer.Drainer.pump_all.Given as goal

abbrev pub invariant-pumps : goal.invariant-pumps
invariant-pumps g l =
    PumpedOn l.fn.self l.fn.now (g.U.Outlet.tells l.fn.outlet) (g.S.BatchSink.tells l.fn.sink) l.written l.unwritten
    l.self (g.U.Outlet.tells l.outlet) (g.S.BatchSink.tells l.sink)
    × (g.U.Outlet.home l.outlet ≡ g.U.Outlet.home l.fn.outlet)

abbrev pub decreases-pumps : goal.decreases-pumps
decreases-pumps g l = work_left l.self (g.U.Outlet.tells l.outlet)
