use Rattle.body_frames.proofs.FirstLemmas.{first_some, first_one, whole_more, refused_more}
use Rattle.body_frames.proofs.laws.first_bodies.Goals as goal

pub returns-clause-some : goal.returns-clause-some
returns-clause-some c = first_some

pub returns-clause-one : goal.returns-clause-one
returns-clause-one c = first_one

pub returns-clause-whole : goal.returns-clause-whole
returns-clause-whole c = whole_more

pub returns-clause-refused : goal.returns-clause-refused
returns-clause-refused c = refused_more
