use Rattle.std.proofs.Common.{refl}
use Rattle.stage_event.proofs.ViewLemmas.{event-views, view-other, view-long, view-short, event-none, event-unnamed}
use Rattle.stage_event.proofs.laws.levels_hide.Goals as goal
use Rattle.front_base.specs.declared.level.Level.TheVariants.{Metadata, Request}
use Rattle.stage_event.specs.Views.{with_bodies, with_start}

pub returns-clause-metadata : goal.returns-clause-metadata
returns-clause-metadata c = λ stage facts request reply. event-views stage Metadata (with_bodies request reply facts) facts refl

pub returns-clause-request : goal.returns-clause-request
returns-clause-request c = λ stage facts reply. event-views stage Request (with_bodies facts.request reply facts) facts refl

pub returns-clause-long_running : goal.returns-clause-long_running
returns-clause-long_running c = λ stage level facts reply h.
    event-views stage level (with_bodies facts.request reply facts) facts (view-long level facts reply h)

pub returns-clause-start : goal.returns-clause-start
returns-clause-start c = λ stage level facts started h.
    event-views stage level (with_start started facts) facts (view-short level facts started h)

pub returns-clause-other : goal.returns-clause-other
returns-clause-other c = λ stage level facts request reply h.
    event-views stage level (with_bodies request reply facts) facts (view-other level facts request reply h)

pub returns-clause-none : goal.returns-clause-none
returns-clause-none c = event-none

pub returns-clause-unnamed : goal.returns-clause-unnamed
returns-clause-unnamed c = event-unnamed
