use Rattle.std.proofs.Common.{rules}
use Rattle.case_runs.proofs.run.run_words.Goals as goal

pub run_configured-requires-clause-options : goal.run_configured-requires-clause-options
run_configured-requires-clause-options g c = search (rules, c.can_run.ensures.options)
