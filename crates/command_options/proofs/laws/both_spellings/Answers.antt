use Rattle.command_options.proofs.SpellingLemmas as lemma
use Rattle.command_options.proofs.laws.both_spellings.Goals as goal

pub returns : goal.returns
returns c = lemma.both_spellings
