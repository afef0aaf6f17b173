use Rattle.avail_probe.proofs.PatchLemmas.{other_members, says}
use Rattle.avail_probe.proofs.laws.patches_change_the_status_alone.Goals as goal

pub returns-clause-others : goal.returns-clause-others
returns-clause-others c = λ target conditions name other. other_members c.each_member.ensures.found target conditions name other

pub returns-clause-says : goal.returns-clause-says
returns-clause-says c = λ target known report place. says c.each_member.ensures.found target known report place
