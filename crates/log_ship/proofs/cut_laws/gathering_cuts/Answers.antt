use Rattle.log_ship.proofs.CutLemmas as cuts
use Rattle.log_ship.proofs.cut_laws.gathering_cuts.Goals as goal

pub returns-clause-none : goal.returns-clause-none
returns-clause-none c limits = cuts.none limits

pub returns-clause-joins : goal.returns-clause-joins
returns-clause-joins c limits lines batches pending x h a e = cuts.joins limits lines batches pending x h a e

pub returns-clause-begins : goal.returns-clause-begins
returns-clause-begins c limits lines batches pending x a e = cuts.begins limits lines batches pending x a e

pub returns-clause-ends : goal.returns-clause-ends
returns-clause-ends c limits lines batches a = cuts.ends limits lines batches a

pub returns-clause-ends_with : goal.returns-clause-ends_with
returns-clause-ends_with c limits lines batches x xs a = cuts.ends_with limits lines batches x xs a

pub returns-clause-numbers : goal.returns-clause-numbers
returns-clause-numbers c n texts text = cuts.numbers n texts text
