use Rattle.discovery_merge.proofs.SortLemmas.{sorted_is, sorted_rises, sorted_stable}
use Rattle.discovery_merge.proofs.laws.one_stable_sort.Goals as goal

pub returns-clause-sorted : goal.returns-clause-sorted
returns-clause-sorted c = λ order rows total. sorted_rises order total rows

pub returns-clause-stable : goal.returns-clause-stable
returns-clause-stable c = λ order rows total. sorted_stable order total rows

pub returns-clause-alone : goal.returns-clause-alone
returns-clause-alone c = λ order rows other total up stable. sorted_is order total rows other up stable
