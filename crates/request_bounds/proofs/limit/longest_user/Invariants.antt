use Rattle.std.proofs.Common.{◌≡◌, ◌-◌, ◌^◌, min, max, drop}
use Rattle.request_bounds.specs.Bounds as spec
use Rattle.request_bounds.proofs.limit.longest_user.Given as goal

-- with the records that are left
abbrev pub invariant-loop-record : goal.invariant-loop-record
invariant-loop-record l =
    max l.longest (min (spec.longest_user (drop l.record-index l.records)) (2 ^ 64 - 1)) ≡ min (spec.longest_user l.records) (2 ^ 64 - 1)
