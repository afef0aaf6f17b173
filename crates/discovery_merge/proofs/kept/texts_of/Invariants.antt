use Rattle.std.proofs.Common.{◌≡◌, ℕ, List, None, map, take}
use Rattle.std.specs.BTreeMap.{get_by_text}
use Rattle.discovery_merge.specs.Kept.{last_document}
use Rattle.discovery_merge.specs.Lent.{lent_view}
use Rattle.discovery_merge.proofs.kept.texts_of.Given as goal

abbrev pub invariant-loop-group : goal.invariant-loop-group
invariant-loop-group l = (name : List ℕ)
    → get_by_text l.texts name ≡ last_document name None (map lent_view (take l.group-index l.groups))
