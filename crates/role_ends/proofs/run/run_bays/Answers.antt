use Rattle.role_ends.proofs.Pairs.{pairs_back}
use Rattle.role_ends.proofs.run.run_bays.Goals as goal

pub returns : goal.returns
returns g c =
    pairs_back g.B.Role.ran c.args.bays.items c.as_mut_slice.result.now c.run_each.new.bays c.args.bays.len
    c.as_mut_slice.ensures.value c.run_each.auto.bays c.args.bays.ok.0 c.run_each.ensures
