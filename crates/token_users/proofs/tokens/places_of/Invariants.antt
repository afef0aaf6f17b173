use Rattle.std.proofs.Common.{take}
use Rattle.token_users.specs.Places.{HasPlaces}
use Rattle.token_users.proofs.tokens.places_of.Given as goal

abbrev pub invariant-loop-i : goal.invariant-loop-i
invariant-loop-i l = HasPlaces l.places (take l.i l.records)
