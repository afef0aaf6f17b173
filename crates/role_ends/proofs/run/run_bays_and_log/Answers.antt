use Rattle.std.proofs.Common.{rules}
use Rattle.role_ends.proofs.run.run_bays_and_log.Goals as goal

pub returns : goal.returns
returns g c = record {
  ran = c.join-log.result.1;
  drain = c.join-log.result.0;
  bays_ran = search (rules, c.join-log.ensures.second);
  log_ran = search (rules, c.join-log.ensures.first);
  left_is = search (rules, c.end.ensures);
}
