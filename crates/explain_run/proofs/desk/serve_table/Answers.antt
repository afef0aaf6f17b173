use Rattle.std.proofs.Common.{ap, subst, ◌∙◌, refl}
use Rattle.apiservice_table.specs.Changes.{after}
use Rattle.command_ends.specs.Ports.{Port, port}
use Rattle.explain_run.specs.Serving.{Serves}
use Rattle.explain_run.proofs.ServingLemmas.{none_served}
use Rattle.explain_run.proofs.desk.serve_table.Goals as goal

pub returns-in-Ok-clause-run : goal.returns-in-Ok-clause-run
returns-in-Ok-clause-run g c =
    let routes = c.in-Ok.routes in
    let same = ap (after routes.opening) c.in-Ok.ensures.seen ∙ c.in-Ok.ensures.opening in
    let input : Port =
    port (g.S.Source.left c.args.input.now) (g.S.Source.read_faults c.args.input.now)
    (g.S.Source.left c.serve_requests.new.input) (g.S.Source.read_faults c.serve_requests.new.input) in
    let output : Port =
    port (g.O.ByteSink.written c.args.out.now) (g.O.ByteSink.write_faults c.args.out.now)
    (g.O.ByteSink.written c.serve_requests.new.out) (g.O.ByteSink.write_faults c.serve_requests.new.out) in
    subst
    (λ rows. Serves c.args.setup.now rows input output c.serve_requests.new.progress.too_large c.serve_requests.result)
    same c.serve_requests.ensures.run

pub returns-in-Err-clause-run : goal.returns-in-Err-clause-run
returns-in-Err-clause-run g c = none_served _ _ _ _ _ c.requires refl refl
