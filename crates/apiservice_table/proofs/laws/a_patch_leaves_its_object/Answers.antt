use Rattle.std.proofs.Common.{sym}
use Rattle.apiservice_table.proofs.PatchLemmas.{name_of, taken_so, left_so}
use Rattle.apiservice_table.proofs.laws.a_patch_leaves_its_object.Goals as goal

pub returns-clause-taken : goal.returns-clause-taken
returns-clause-taken c = λ name patch rows new made. taken_so name patch rows new made

pub returns-clause-left : goal.returns-clause-left
returns-clause-left c = λ name patch rows new made.
    sym (left_so name patch rows new made (name_of c.a_patch_keeps_the_name.ensures name patch rows new made))
