use Rattle.role_threads.specs.Ran.{RanOne}
use Rattle.role_threads.proofs.RoleLists.{pairs_back, ran_roles}
use Rattle.role_threads.proofs.threads.run_roles.Goals as goal

pub returns : goal.returns
returns g c =
    let all = c.in_ok-all in
    let parts = c.part_roles.ensures in
    ran_roles g.B.Role.ran g.G.Role.ran g.H.Role.ran c.args.roles c.part_roles.result all.all.items _
    (pairs_back (RanOne g.B.Role.ran g.G.Role.ran g.H.Role.ran) all.all.items c.as_mut_slice.result.now c.run_each.new.roles all.all.len
    c.as_mut_slice.ensures.value c.run_each.auto.roles all.all.ok.0 c.run_each.ensures)
    all.ensures.bays all.ensures.log all.ensures.hook parts.bays parts.log parts.hook
