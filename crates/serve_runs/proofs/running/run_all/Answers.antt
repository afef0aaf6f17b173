use denote.Exit.{no}
use denote.Param.Send.{param_send, arg_send}
use Rattle.std.proofs.Common.{arith}
use Rattle.serve_runs.proofs.RunLemmas.{pairs_count}
use Rattle.serve_runs.proofs.SendLemmas.{role_send}
use Rattle.serve_runs.proofs.running.run_all.Goals as goal

pub run_and_end-requires-send-B : goal.run_and_end-requires-send-B
run_and_end-requires-send-B g c κs within =
    let b = c.type_bounds in
    param_send 1 _ (arg_send _ no _ (role_send _ _ _ _ _ _ _ _ b.send-R b.send-L b.send-W b.send-H b.send-T b.sync-T b.send-K b.send-Y b.send-D))

pub run_and_end-requires-after_bounds : goal.run_and_end-requires-after_bounds
run_and_end-requires-after_bounds g c κs within ran drain bays log lives valid also met =
    let n = pairs_count _ _ _ bays in
    (omega (arith, n, c.requires.room), (omega (arith, n, c.requires.log_room), c.requires.log ran.items drain bays log))
