use Rattle.http_head.specs.Legal.{AreLegalHeaders, IsLegalRequest}
use Rattle.forward_link.specs.Forwarded.{forwarded}
use Rattle.forward_link.proofs.LegalLemmas.{read_head, forwarded_legal}
use Rattle.forward_link.proofs.laws.forwarded_heads_are_read_back.Goals as goal

pub returns-clause-parts : goal.returns-clause-parts
returns-clause-parts c = read_head

pub returns-clause-legal : goal.returns-clause-legal
returns-clause-legal c = λ head user target id size legal name groups to.
    forwarded_legal head.headers user target id size legal.headers name groups to

pub returns-clause-back : goal.returns-clause-back
returns-clause-back c = λ head user target id size after legal name groups to few short.
    let headers : AreLegalHeaders (forwarded head user target id size).headers = record {
      legal = forwarded_legal head.headers user target id size legal.headers name groups to;
      few = few;
    } in
    let whole : IsLegalRequest (forwarded head user target id size) = record {
      method = legal.method;
      target = legal.target;
      text = legal.text;
      headers = headers;
    } in
    c.written_heads_are_read_back.ensures.request (forwarded head user target id size) after whole short
