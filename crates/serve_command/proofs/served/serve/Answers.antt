use Rattle.std.proofs.Common.{inr, subst, map, string_bytes}
use Rattle.command_ends.specs.Ports.{files_port}
use Rattle.serve_command.proofs.RunLemmas.{Ran, runs}
use Rattle.serve_roles.specs.Doors.{bay_handles}
use Rattle.shared_runs.specs.Runs.{shared_routes}
use Rattle.serve_command.proofs.served.serve.Goals as goal

pub returns-in-Ok-clause-run : goal.returns-in-Ok-clause-run
returns-in-Ok-clause-run g c =
    let F = g.F.Files in
    let h = bay_handles shared_routes g.P.L.Dial g.P.W.BatchSink g.P.H.BatchSink g.P.K.Clock g.P.Y.Diary g.P.D.Door
    g.P.D.C.Source g.P.D.C.ByteSink g.P.D.C.Conn in
    let T = g.row.P-Rt.Denot in
    let opens = g.P.Plant.opens in
    let run = c.in-Ok.run' in
    let home = run.routes.home in
    let before = g.P.Plant.tells c.args.plant.now in
    let after = g.P.Plant.tells c.run-ended.new.plant in
    let ended = c.run-ended.result.ended in
    let counted = c.run-ended.result.counted in
    let words = map string_bytes c.args.words.now.items in
    let files =
    files_port (F.files c.args.files.now) (F.failed c.args.files.now) (F.faults c.args.files.now)
    (F.files c.configure.new.files) (F.failed c.configure.new.files) (F.faults c.configure.new.files) in
    let ran = subst (λ own. Ran h T opens home before after ended counted run.words own.listen run.settings run.routes.opening)
    c.words.ensures c.run-ended.ensures.ran in
    inr (runs h T opens home before after ended counted words files run c.in-Ok.ensures.ok c.ended_so.result ran c.ended_so.ensures)
