use Rattle.audit_reader.proofs.PartLemmas.{Laws}
use Rattle.audit_reader.proofs.RoundTripLemmas.{event_again}
use Rattle.audit_reader.proofs.laws.each_is_read.Goals as goal

pub returns : goal.returns
returns c =
    let law : Laws = record {
      commas = c.members_read_back.ensures.commas;
      texts = c.members_read_back.ensures.texts;
      objects = c.members_read_back.ensures.objects;
      values = c.members_read_back.ensures.values;
      one_length = c.one_length.ensures;
      id = c.stamps_read_back.ensures.id;
      id_valid = c.stamps_read_back.ensures.utf8;
      moment = c.stamps_read_back.ensures.moment;
    } in
    event_again law
