use Rattle.forward_link.specs.Forwarded.{host_of}
use Rattle.forward_link.proofs.LawLemmas.{one_user, all_groups, nobody_else, no_credentials, nobody_acts, no_hops, one_dashed_user, all_dashed_groups, nobody_else_dashed, nobody_acts_dashed}
use Rattle.forward_link.proofs.laws.the_door_says_who_asks.Goals as goal

pub returns-clause-user : goal.returns-clause-user
returns-clause-user c = λ head user target id size. one_user head.headers user id size

pub returns-clause-groups : goal.returns-clause-groups
returns-clause-groups c = λ head user target id size. all_groups head.headers user id size

pub returns-clause-nobody_else : goal.returns-clause-nobody_else
returns-clause-nobody_else c = λ head user target id size. nobody_else head.headers user id size

pub returns-clause-credentials : goal.returns-clause-credentials
returns-clause-credentials c = λ head user target id size. no_credentials head.headers user id size

pub returns-clause-acting : goal.returns-clause-acting
returns-clause-acting c = λ head user target id size. nobody_acts head.headers user (host_of target) id size

pub returns-clause-hops : goal.returns-clause-hops
returns-clause-hops c = λ head user target id size. no_hops head.headers

pub returns-clause-dashed_user : goal.returns-clause-dashed_user
returns-clause-dashed_user c = λ head user target id size. one_dashed_user head.headers user id size

pub returns-clause-dashed_groups : goal.returns-clause-dashed_groups
returns-clause-dashed_groups c = λ head user target id size. all_dashed_groups head.headers user id size

pub returns-clause-dashed_else : goal.returns-clause-dashed_else
returns-clause-dashed_else c = λ head user target id size. nobody_else_dashed head.headers user id size

pub returns-clause-dashed_acting : goal.returns-clause-dashed_acting
returns-clause-dashed_acting c = λ head user target id size. nobody_acts_dashed head.headers user (host_of target) id size
