use Rattle.token_users.specs.Act.{masters}
use Rattle.token_users.specs.Who.{user_of}
use Rattle.token_users.proofs.ActLemmas.{acts_as, has_contains}
use Rattle.token_users.proofs.laws.only_masters_act_as_others.Goals as goal

pub returns : goal.returns
returns c = λ asker head user h. has_contains masters (user_of asker).groups (acts_as asker head user h).master
