use Rattle.std.proofs.Common.{◌≡◌, drop, arith}
use Rattle.std.proofs.lemmas.List.{at_drop_all}
use Rattle.request_bounds.specs.Bounds as spec
use Rattle.request_bounds.proofs.limit.groups_length.Goals as goal

pub returns : goal.returns
returns c =
    let none : spec.groups_length (drop c.loop-group.group-index c.args.groups.now) ≡ 0 =
    at_drop_all spec.groups_length c.args.groups.now c.loop-group.group-index (omega arith) in
    omega arith
