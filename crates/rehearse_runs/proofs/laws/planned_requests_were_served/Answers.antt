use Rattle.std.proofs.Common.{slice_get}
use Rattle.front_plants.specs.Fresh.{log_opens, hook_opens}
use Rattle.front_plants.specs.MemorySinks.{told_openings}
use Rattle.shared_runs.specs.Setup.{settings_of, options_of}
use Rattle.rehearse_runs.proofs.DiaryLemmas.{as_planned}
use Rattle.rehearse_runs.proofs.laws.planned_requests_were_served.Goals as goal

pub returns : goal.returns
returns g c bays plan ended was agrees =
    let config = was.config in
    let options = options_of config.words config.words.listen in
    λ bay.
    as_planned (settings_of config.words config.loaded) (log_opens told_openings) (hook_opens told_openings options.hook_url) was.run.boot
    was.before.due was.tables was.run.logs was.run.hooks plan.start plan.count bays bay (slice_get ended.bays.items bay) (was.run.each bay)
    (agrees.each bay)
