use Rattle.std.proofs.Common.{◌≡◌, ◌++◌, map, take}
use Rattle.std.specs.List.{join_with_byte}
use Rattle.discovery_merge.specs.Documents.{version_text}
use Rattle.discovery_merge.proofs.documents.push_versions.Given as goal

abbrev pub invariant-loop-i : goal.invariant-loop-i
invariant-loop-i l = l.out.items ≡ l.fn.out.items
    ++ join_with_byte 44 (map (λ r. version_text l.group r.now.version) (take l.i l.rows))
