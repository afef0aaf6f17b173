use Rattle.std.proofs.Common.{◌≡◌, ◌≤◌, ◌-◌, ◌*◌}
use Rattle.apiservice_table.specs.Changes.{rows_of}
use Rattle.front_base.specs.declared.audit_id.TheConstants.{MOST_REQUESTS}
use Rattle.explain_run.specs.Serving.{Served}
use Rattle.explain_run.proofs.serving.serve_requests.Given as goal

abbrev pub invariant-serving : goal.invariant-serving
invariant-serving g l = record {
  served : Served l.setup (rows_of l.fn.routes) (rows_of l.routes) (g.S.Source.left l.fn.input) (g.S.Source.left l.input) l.edge (g.O.ByteSink.written l.fn.out) (g.O.ByteSink.written l.out) l.pending.items l.number l.progress.too_large;
  few : l.number ≤ MOST_REQUESTS;
  counted : l.progress.too_large ≤ 3 * l.number;
  read_later : g.S.Source.read_faults l.fn.input ≤ g.S.Source.read_faults l.input;
  read_sound : g.S.Source.read_faults l.input ≡ g.S.Source.read_faults l.fn.input;
  write_sound : g.O.ByteSink.write_faults l.out ≡ g.O.ByteSink.write_faults l.fn.out;
}

abbrev pub decreases-serving : goal.decreases-serving
decreases-serving g l = MOST_REQUESTS - l.number
