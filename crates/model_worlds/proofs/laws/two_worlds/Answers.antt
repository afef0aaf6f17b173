use Rattle.std.proofs.Common.{ap}
use Rattle.model_worlds.specs.Steps.{sink_at}
use Rattle.model_worlds.specs.Worlds.{sink_bytes}
use Rattle.model_worlds.proofs.WorldLemmas.{worlds_low, worlds_shared, worlds_taken, worlds_answers}
use Rattle.model_worlds.proofs.laws.two_worlds.Goals as goal

pub returns-clause-low : goal.returns-clause-low
returns-clause-low c setup s t these those e h = worlds_low setup these those s t e h

pub returns-clause-shared : goal.returns-clause-shared
returns-clause-shared c setup s t these those e h = worlds_shared setup these those s t e h

pub returns-clause-taken : goal.returns-clause-taken
returns-clause-taken c setup s t these those e h = worlds_taken setup these those s t e h

pub returns-clause-answers : goal.returns-clause-answers
returns-clause-answers c setup s t these those e h = worlds_answers setup these those s t e h

pub returns-clause-bytes : goal.returns-clause-bytes
returns-clause-bytes c setup s t these those sink text e h =
    ap (λ sh. sink_bytes text (sink_at sh sink)) (worlds_shared setup these those s t e h)
