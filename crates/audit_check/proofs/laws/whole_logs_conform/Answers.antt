use Rattle.std.proofs.Common.{[]}
use Rattle.audit_check.proofs.LogLemmas.{each_stands, rise_after, all_conform}
use Rattle.audit_check.proofs.laws.whole_logs_conform.Goals as goal

pub returns : goal.returns
returns c =
    record {
      each = λ policy lines h. each_stands policy [] lines h;
      order = λ policy lines h. rise_after c.reads_back.ensures.one policy [] lines h;
      enough = λ policy lines stand rise. all_conform policy [] lines stand rise;
    }
