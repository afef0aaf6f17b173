use Rattle.std.proofs.Common.{◌∙◌}
use Rattle.rehearse_setting.proofs.ports.door.Goals as goal

pub returns-clause-sent : goal.returns-clause-sent
returns-clause-sent c = record {
  conn = c.in_ok-conn.conn;
  only = c.in_ok-new.ensures.left ∙ c.in_ok-vec.ensures.items;
  input = c.in_ok-conn.ensures.input ∙ (c.script.ensures ∙ c.in_ok-input.ensures);
  from = c.in_ok-conn.ensures.peer;
}
