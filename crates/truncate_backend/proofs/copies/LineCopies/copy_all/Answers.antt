use Rattle.truncate_backend.proofs.CopyLemmas.{copied_more, fit_rest}
use Rattle.truncate_backend.proofs.copies.LineCopies.copy_all.Goals as goal

pub loop-line-preserved : goal.loop-line-preserved
loop-line-preserved c =
    let i = c.loop-line.invariant in
    record {
      copied = copied_more c.args.self.now c.loop-line.self c.copy.new.self c.args.lines.now c.loop-line.line-index c.line-item.result c.loop-line-test.true c.line-item.is i.copied c.copy.ensures;
      fits = fit_rest c.loop-line.self c.copy.new.self c.args.lines.now c.loop-line.line-index c.line-item.result c.loop-line-test.true c.line-item.is i.fits c.copy.ensures;
    }
