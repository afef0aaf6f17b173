use Rattle.std.proofs.Common.{ℕ}
use Rattle.std.proofs.lemmas.Result.{IfOk-weaker}
use Rattle.apiservice_table.specs.Changes.{rows_of}
use Rattle.explain_run.specs.Lines.{Adds, Writes}
use Rattle.explain_run.proofs.LinesLemmas.{adds_here}
use Rattle.explain_run.proofs.lines.add_lines.Goals as goal

pub returns-clause-adds : goal.returns-clause-adds
returns-clause-adds c =
    let set = c.args.setup.now in
    let x = c.in_ok-answered.answered in
    let old = c.args.lines.now.items in
    let new = c.push_text.new.lines.items in
    IfOk-weaker c.push_text.result
    (λ (n : ℕ). Writes set c.args.number x old new n)
    (λ (n : ℕ). Adds set c.args.number c.args.request.now (rows_of c.args.routes.now) (rows_of c.settle.new.routes) old new n)
    (λ n w.
    adds_here c.one_thread_decides.ensures.routed c.one_thread_decides.ensures.rows set c.args.number c.args.request.now
    c.args.routes.now c.settle.new.routes c.stamp_of-stamp.result x c.as_slice.result.now old new n
    c.as_slice.ensures c.stamp_of-stamp.ensures c.settle.ensures.fixed c.in_ok-answered.ensures.settles w.0 w.1)
    c.push_text.ensures.ok
