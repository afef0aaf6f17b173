use Rattle.command_options.proofs.ClapLemmas.{as_texts, finds, takes}
use Rattle.command_options.proofs.laws.clap_agrees.Goals as goal

pub returns-clause-taken : goal.returns-clause-taken
returns-clause-taken c = λ names words sure utf8. takes names words sure (as_texts words utf8)

pub returns-clause-found : goal.returns-clause-found
returns-clause-found c = λ names words given name sure utf8. finds names words sure (as_texts words utf8) given name
