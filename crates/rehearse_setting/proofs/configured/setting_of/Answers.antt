use Rattle.std.proofs.Common.{arith, ap, subst, [], ◌∷◌, length, length-append}
use Rattle.rehearse_setting.specs.Setting.{IsConfig, Opens, words_of}
use Rattle.rehearse_setting.proofs.Sent.{all_more}
use Rattle.rehearse_setting.proofs.configured.setting_of.Goals as goal

pub loop-preserved : goal.loop-preserved
loop-preserved c =
    let i = c.loop.invariant in
    let e = c.in_ok-push.ensures in
    let own = c.in_ok-new.field-0 in
    let config = c.in_ok-loaded.field-0 in
    record {
      count = omega (arith, ap length e.items, length-append c.loop.routes.items (own ∷ []), i.count);
      files = c.configured-in-loop.ensures.kept;
      opens = all_more (Opens (words_of c.args.plan.count c.args.plan.bays)) _ _ own e.items i.opens (
        config,
        subst (λ words. IsConfig words config) c.in_ok-words.ensures c.in_ok-loaded.ensures.told,
        c.in_ok-new.ensures.opening,
        c.in_ok-new.ensures.seen,
      );
    }
