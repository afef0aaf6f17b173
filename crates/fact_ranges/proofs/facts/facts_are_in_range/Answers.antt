use Rattle.fact_ranges.proofs.facts.facts_are_in_range.Goals as goal

pub returns : goal.returns
returns c =
    record {
      boot = c.id_is.ensures.boot;
      bay = c.id_is.ensures.bay;
      number = c.id_is.ensures.number;
      target = c.text_is.ensures;
      verb = c.text_is-2.ensures;
      named = c.named_is.ensures;
      user = c.user_is.ensures;
      acting = c.acting_is.ensures;
      peer = c.peer_is.ensures;
      agent = c.text_is-3.ensures;
      status = c.status_is.ensures;
      received = c.moment_is.ensures;
      started = c.moment_is-2.ensures;
      complete = c.moment_is-3.ensures;
    }
