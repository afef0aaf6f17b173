use Rattle.std.proofs.Common.{take}
use Rattle.std.specs.List.{AllByRecursion}
use Rattle.event_members.specs.Ranges.{IsUtf8}
use Rattle.audit_reader.proofs.fits.groups_fit.Given as goal

abbrev pub invariant-loop-group : goal.invariant-loop-group
invariant-loop-group l = AllByRecursion IsUtf8 (take l.group-index l.group-items)
