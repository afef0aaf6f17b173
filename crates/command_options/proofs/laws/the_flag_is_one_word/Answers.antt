use Rattle.command_options.proofs.FlagLemmas.{flag_in_front}
use Rattle.command_options.proofs.laws.the_flag_is_one_word.Goals as goal

pub returns : goal.returns
returns c = λ flag names words given known plain h. flag_in_front flag names known plain words given h
