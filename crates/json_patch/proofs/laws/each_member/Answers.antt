use Rattle.json_patch.proofs.MergeLaws.{found_in}
use Rattle.json_patch.proofs.laws.each_member.Goals as goal

pub returns-clause-found : goal.returns-clause-found
returns-clause-found c = λ target changes name h. found_in name target changes h
