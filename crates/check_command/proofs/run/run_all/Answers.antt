use Rattle.std.proofs.Common.{List, Some, ap, ◌∙◌}
use Rattle.check_command.specs.Run.{first_of}
use Rattle.check_command.specs.declared.bad_lines.BadLine.{BadLine}
use Rattle.check_command.proofs.RunLemmas.{finds_all}
use Rattle.command_ends.specs.Ports.{port}
use Rattle.check_command.proofs.run.run_all.Goals as goal

pub returns-clause-run : goal.returns-clause-run
returns-clause-run g c =
    let told = c.review_log-review.result in
    let left = g.S.Source.left in
    let reads = g.S.Source.read_faults in
    let written = g.O.ByteSink.written in
    let writes = g.O.ByteSink.write_faults in (
      told,
      ap Some (c.first_of-checked.ensures ∙ ap (λ (bad : List BadLine). first_of bad told.lines told.end) c.as_slice.ensures.value),
      finds_all c.args.policy
          (port (left c.args.input.now) (reads c.args.input.now) (left c.review_log-review.new.input) (reads c.review_log-review.new.input))
          (port (written c.args.out.now) (writes c.args.out.now) (written c.tell_review-status.new.out) (writes c.tell_review-status.new.out))
          told c.tell_review-status.result c.review_log-review.ensures.reviews c.review_log-review.ensures.told c.tell_review-status.ensures.tells,
    )
