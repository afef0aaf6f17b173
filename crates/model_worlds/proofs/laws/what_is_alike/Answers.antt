use Rattle.model_worlds.proofs.ExampleLemmas.{none_alike, metadata_alike, bodies_alike, managed_alike, replies_alike, apis_alike}
use Rattle.model_worlds.proofs.laws.what_is_alike.Goals as goal

pub returns-clause-none : goal.returns-clause-none
returns-clause-none c = none_alike

pub returns-clause-metadata : goal.returns-clause-metadata
returns-clause-metadata c = metadata_alike

pub returns-clause-bodies : goal.returns-clause-bodies
returns-clause-bodies c = bodies_alike

pub returns-clause-managed : goal.returns-clause-managed
returns-clause-managed c = managed_alike c.one_kept.ensures.alike

pub returns-clause-replies : goal.returns-clause-replies
returns-clause-replies c = replies_alike

pub returns-clause-apis : goal.returns-clause-apis
returns-clause-apis c = apis_alike
