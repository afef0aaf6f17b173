use Rattle.std.proofs.Common.{take}
use Rattle.std.specs.List.{AllByRecursion}
use Rattle.event_members.specs.Ranges.{IsUtf8}
use Rattle.fact_ranges.proofs.values.groups_are.Given as goal

abbrev pub invariant-loop-group : goal.invariant-loop-group
invariant-loop-group l = AllByRecursion IsUtf8 (take l.group-index l.group-items)
