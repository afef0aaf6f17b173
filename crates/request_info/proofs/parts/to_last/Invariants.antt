use Rattle.std.proofs.Common.{◌≡◌, ◌≤◌, take}
use Rattle.request_info.specs.Parts as spec
use Rattle.request_info.proofs.parts.to_last.Given as goal

abbrev pub invariant-loop-i : goal.invariant-loop-i
invariant-loop-i l = record {
  within : l.end ≤ l.i;
  kept : spec.texts_of (take l.end l.parts) ≡ spec.to_last (spec.texts_of (take l.i l.parts));
}
