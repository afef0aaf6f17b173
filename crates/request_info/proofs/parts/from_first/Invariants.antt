use Rattle.std.proofs.Common.{◌≡◌, drop}
use Rattle.request_info.specs.Parts as spec
use Rattle.request_info.proofs.parts.from_first.Given as goal

abbrev pub invariant-loop-i : goal.invariant-loop-i
invariant-loop-i l = spec.from_first (spec.texts_of (drop l.i l.parts)) ≡ spec.from_first (spec.texts_of l.parts)
