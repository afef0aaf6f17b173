use Rattle.std.proofs.lemmas.Result.{IfOk-weaker, IfErr-weaker}
use Rattle.body_frames.proofs.FirstLemmas.{feeds, refuses}
use Rattle.body_frames.proofs.decoder.Decoder.feed.Goals as goal

pub returns-clause-took : goal.returns-clause-took
returns-clause-took c =
    IfOk-weaker c.feed_place.result _ _
    (λ fed h. feeds c.self.inside.place c.args.self.now c.feed_place.new.place c.args.piece.now fed.taken fed.from fed.to c.self.view_is h)
    c.feed_place.ensures.took

pub returns-clause-err : goal.returns-clause-err
returns-clause-err c =
    IfErr-weaker c.feed_place.result _ _
    (λ fault h. refuses c.self.inside.place c.args.self.now c.feed_place.new.place c.args.piece.now fault c.self.view_is h)
    c.feed_place.ensures.err
