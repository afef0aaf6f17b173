use Rattle.std.proofs.Common.{slice_get, subst}
use Rattle.alike_exchanges.specs.Alike.{AlikeExchanges}
use Rattle.alike_requests.specs.Seen.{noted_by}
use Rattle.alike_runs.proofs.ServingLemmas.{seen_are, seen_noted}
use Rattle.alike_runs.proofs.laws.alike_requests_make_alike_bays.Goals as goal
use Rattle.alike_runs.specs.TwoRuns.{run_seen}
use Rattle.front_plants.specs.Fresh.{log_opens, hook_opens}
use Rattle.role_threads.specs.Lists.{AllPairs}
use Rattle.serve_roles.specs.Doors.{bay_handles}
use Rattle.serve_runs.specs.Served.{run_exchanges}

pub returns : goal.returns
returns g c set options one other runs alike =
    let h = bay_handles g.R.Routes g.P.L.Dial g.P.W.BatchSink g.P.H.BatchSink g.P.K.Clock g.P.Y.Diary g.P.D.Door
    g.P.D.C.Source g.P.D.C.ByteSink g.P.D.C.Conn in
    let log = log_opens g.P.Plant.opens in
    let hook = hook_opens g.P.Plant.opens options.hook_url in
    let door = c.a_door_notes_its_requests.ensures in
    λ bay.
    subst (λ xs. AllPairs AlikeExchanges xs (run_exchanges runs.also bay))
    (seen_are h set log hook runs.ran.boot runs.before.due runs.tables runs.ran.logs runs.ran.hooks door.noted bay (slice_get one.bays.items bay)
    (runs.ran.each bay))
    (subst (λ ys. AllPairs AlikeExchanges (noted_by (run_seen runs.ran bay)) ys)
    (seen_are h set log hook runs.also.boot runs.begun.due runs.others runs.also.logs runs.also.hooks door.noted bay (slice_get other.bays.items bay)
    (runs.also.each bay))
    (c.alike_requests_are_noted_alike.ensures set (run_seen runs.ran bay) (run_seen runs.also bay)
    (seen_noted h set log hook runs.ran.boot runs.before.due runs.tables runs.ran.logs runs.ran.hooks door.each bay (slice_get one.bays.items bay)
    (runs.ran.each bay))
    (seen_noted h set log hook runs.also.boot runs.begun.due runs.others runs.also.logs runs.also.hooks door.each bay (slice_get other.bays.items bay)
    (runs.also.each bay))
    (alike bay)))
