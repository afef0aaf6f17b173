use Rattle.std.proofs.Common.{ap, sym, ◌∙◌, inl}
use Rattle.audit_core.specs.Answer.{body_of}
use Rattle.audit_core.specs.Errand.{attributes_in}
use Rattle.audit_core.specs.Exchange.{facts_by, sent_body}
use Rattle.audit_check.proofs.laws.own_lines.Goals as goal

pub returns : goal.returns
returns c = λ set stamp r handling note body x max before tokens answered in_range others.
    let known = answered.facts_are in
    c.recorded_lines.ensures.conform set stamp r x.decision x.facts max before tokens
    (record {
      decision_is = answered.decision_is;
      request_is = known.request_is;
      reply_is = inl (sent_body r.head.method (body_of handling note body), known.reply_is);
      facts_are = known.facts_are
          ∙ ap (λ n. facts_by stamp r (attributes_in set r) n x.facts.request x.facts.reply) (sym (ap (λ f. f.status) known.facts_are));
    })
    in_range others
