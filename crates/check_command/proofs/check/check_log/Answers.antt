use Rattle.std.proofs.Common.{◌∙◌, [], refl, subst, sym, arith}
use Rattle.check_command.specs.Checks.{SoFar}
use Rattle.std.proofs.KnownBytes.{Consumes-nil}
use Rattle.check_command.proofs.CheckLemmas.{accepted_by, all_of_them, below, calm_by, keeps_by, rose_earlier, so_far_more, so_far_start, stops_at}
use Rattle.check_command.proofs.check.check_log.Goals as goal

pub returns-in_default-clause-checks : goal.returns-in_default-clause-checks
returns-in_default-clause-checks g c =
    let a = g.S.Source.left c.args.input.now in
    (a, [], record { lines = []; taken = []; consumed = Consumes-nil a; reads = refl; short = tt; conform = tt; count_is = refl; few = omega arith })

pub checking-init : goal.checking-init
checking-init g c = record {
  so_far =
      subst (λ held. SoFar c.args.policy (g.S.Source.left c.args.input.now) (g.S.Source.left c.args.input.now) held 0 c.start-checker.result) (sym c.in-Ok.ensures)
      (so_far_start c.args.policy (g.S.Source.left c.args.input.now) _ c.start-checker.ensures);
  later = omega arith;
  calm = refl;
}

pub checking-smaller : goal.checking-smaller
checking-smaller g c =
    let so = c.checking.invariant.so_far in
    let m = accepted_by c.args.policy so.conformed.lines _ _ _ _ _ _ _ c.check_next-next.result (sym c.in-None.ensures) (c.check_next-next.ensures.checks c.args.policy so.conformed.lines so.accepted) in
    let few = below c.checking.lines so.conformed.few m.few in
    omega (arith, few)

pub checking-preserved : goal.checking-preserved
checking-preserved g c =
    let so = c.checking.invariant.so_far in
    let m = accepted_by c.args.policy so.conformed.lines _ _ _ _ _ _ _ c.check_next-next.result (sym c.in-None.ensures) (c.check_next-next.ensures.checks c.args.policy so.conformed.lines so.accepted) in
    let few = below c.checking.lines so.conformed.few m.few in
    record {
      so_far = so_far_more c.args.policy _ _ _ _ _ c.checking.lines _ _ _ so few m;
      later = omega (arith, c.checking.invariant.later, c.check_next-next.ensures.later);
      calm = calm_by _ _ c.check_next-next.result (sym c.in-None.ensures) c.check_next-next.ensures.told ∙ c.checking.invariant.calm;
    }

pub returns-in-Some-clause-checks : goal.returns-in-Some-clause-checks
returns-in-Some-clause-checks g c =
    let so = c.checking.invariant.so_far in
    let e = c.check_next-next.ensures.checks c.args.policy so.conformed.lines so.accepted in
    stops_at c.args.policy _ _ _ _ _ c.checking.lines _ _ _ _ _ so c.check_next-next.result c.in-Some.end (sym c.in-Some.ensures)
    (rose_earlier _ _ _ c.checking.invariant.later) (all_of_them c.checking.lines) (below c.checking.lines so.conformed.few) e

pub returns-in-Some-clause-told : goal.returns-in-Some-clause-told
returns-in-Some-clause-told g c =
    keeps_by _ _ _ c.check_next-next.result c.in-Some.end (sym c.in-Some.ensures) c.checking.invariant.calm c.check_next-next.ensures.told
