use Rattle.forward_link.specs.Forwarded.{host_of}
use Rattle.forward_link.proofs.LawLemmas.{one_host, one_audit, one_connection, one_length, no_coding}
use Rattle.forward_link.proofs.laws.forwarded_heads_are_framed.Goals as goal

pub returns-clause-host : goal.returns-clause-host
returns-clause-host c = λ head user target id size. one_host (host_of target) head.headers user id size

pub returns-clause-audit : goal.returns-clause-audit
returns-clause-audit c = λ head user target id size. one_audit head.headers user id size

pub returns-clause-close : goal.returns-clause-close
returns-clause-close c = λ head user target id size. one_connection head.headers user id size

pub returns-clause-length : goal.returns-clause-length
returns-clause-length c = λ head user target id size. one_length head.headers user id size

pub returns-clause-coding : goal.returns-clause-coding
returns-clause-coding c = λ head user target id size. no_coding head.headers user id size
