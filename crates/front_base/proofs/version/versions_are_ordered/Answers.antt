use Rattle.front_base.proofs.VersionLemmas.{version_total, equal_versions}
use Rattle.front_base.proofs.version.versions_are_ordered.Goals as goal

pub returns-clause-total : goal.returns-clause-total
returns-clause-total c = version_total

pub returns-clause-equal : goal.returns-clause-equal
returns-clause-equal c = equal_versions
