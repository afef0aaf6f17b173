use Rattle.std.proofs.Common.{ℕ, ◌<◌, List, map, length, refl, subst, All}
use Rattle.std.proofs.lemmas.List.{length-map}
use Rattle.front_plants.specs.Fresh.{log_opens, hook_opens}
use Rattle.route_history.specs.declared.entry.Entry.{Entry}
use Rattle.serve_roles.specs.Doors.{bay_handles}
use Rattle.shared_runs.specs.Runs.{shared_routes}
use Rattle.shared_runs.specs.Unnamed.{routes_of}
use Rattle.route_laws.proofs.BayLemmas.{each_decided}
use Rattle.route_laws.proofs.laws.each_change_is_made_by_a_request.Goals as goal

pub returns : goal.returns
returns g c set options home opening before after left run =
    let h = bay_handles shared_routes g.P.L.Dial g.P.W.BatchSink g.P.H.BatchSink g.P.K.Clock g.P.Y.Diary g.P.D.Door
    g.P.D.C.Source g.P.D.C.ByteSink g.P.D.C.Conn in
    let made = run.made refl in
    let ends = run.ended.bays.items in
    let opens = g.P.Plant.opens in
    record {
      by = subst (λ (n : ℕ). All (λ (entry : Entry). entry.bay < n) run.history) (length-map ends routes_of) made.by;
      each =
          each_decided h set (log_opens opens) (hook_opens opens options.hook_url) run.run.boot before.due run.tables run.run.logs run.run.hooks home opening
          run.history (λ r. refl) (λ r. refl) (λ r. refl) ends run.run.each run.fresh made.own run.one;
    }
