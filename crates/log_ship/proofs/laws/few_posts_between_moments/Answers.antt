use Rattle.log_ship.specs.Paces.{rules_of}
use Rattle.log_ship.proofs.StartLemmas.{from_full}
use Rattle.log_ship.proofs.laws.few_posts_between_moments.Goals as goal

pub returns : goal.returns
returns c pace old start stop batches ends a b begins posted =
    c.few_posts_between.ensures (rules_of pace) start.sink.text pace.rate pace.burst begins.first batches posted.outcomes stop.bucket a b
    (from_full pace old start stop batches ends begins posted)
