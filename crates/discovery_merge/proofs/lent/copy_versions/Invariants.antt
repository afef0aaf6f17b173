use Rattle.std.proofs.Common.{◌≡◌, map, take}
use Rattle.apiservice_rows.specs.Row.{Row}
use Rattle.discovery_merge.proofs.lent.copy_versions.Given as goal

abbrev pub invariant-loop-row : goal.invariant-loop-row
invariant-loop-row l = l.versions.items ≡ map (λ (r : Row). r.version) (map (λ r. r.now) (take l.row-index l.rows))
