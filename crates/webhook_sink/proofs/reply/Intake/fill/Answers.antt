use Rattle.std.proofs.Common.{refl, sym, ◌∙◌}
use Rattle.webhook_sink.proofs.ReplyLemmas.{seen-join, searched_at}
use Rattle.webhook_sink.proofs.reply.Intake.fill.Goals as goal

pub reading-preserved : goal.reading-preserved
reading-preserved g c =
    let i = c.reading.invariant in
    let r = c.in-Ok.ensures.ok.seen in
    record {
      seen = seen-join _ _ _ _ _ _ i.seen r;
      searched =
          searched_at _ _ _ (sym r.all)
          (c.searches_go_on.ensures _ r.taken _
          (searched_at _ _ _ c.as_slice.ensures.value (c.in-More.ensures.searched refl)));
      aside = c.refill.ensures.aside ∙ i.aside;
      calm = c.in-Ok.ensures.cause.sound ∙ i.calm;
    }
