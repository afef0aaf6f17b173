use Rattle.std.proofs.Common.{◌≡◌, ◌∙◌, ap}
use Rattle.model_requests.proofs.FinishLemmas.{noted_as}
use Rattle.model_requests.proofs.finishing.note_finished.Goals as goal
use Rattle.model_requests.specs.Turns.{finished_by}
use Rattle.model_sinks.specs.Fixed.{setup_of}
use Rattle.stage_event.specs.declared.facts.Kept.{Kept}

pub returns-in-Ok-clause-ok : goal.returns-in-Ok-clause-ok
returns-in-Ok-clause-ok c =
    let put : c.replace-seen.new.dest ≡ c.args.reply = cc in
    λ keep. noted_as (setup_of c.args.setup.now keep) c.args.link c.args.status c.replace-seen.new.dest c.args.moment
    c.args.opened.now c.in-Ok.waiting (c.in-Ok.ensures keep)
    ∙ ap (λ (k : Kept). finished_by (setup_of c.args.setup.now keep) c.args.link c.args.status k c.args.moment c.args.opened.now)
    put
