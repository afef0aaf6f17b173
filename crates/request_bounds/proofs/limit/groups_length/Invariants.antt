use Rattle.std.proofs.Common.{◌≡◌, ◌≤◌, ◌+◌, ◌-◌, ◌^◌, min, drop}
use Rattle.request_bounds.specs.Bounds as spec
use Rattle.request_bounds.proofs.limit.groups_length.Given as goal

-- with the groups that are left
abbrev pub invariant-loop-group : goal.invariant-loop-group
invariant-loop-group l =
    (l.total ≤ 2 ^ 64 - 1)
    × (min (l.total + spec.groups_length (drop l.group-index l.groups)) (2 ^ 64 - 1) ≡ min (spec.groups_length l.groups) (2 ^ 64 - 1))
