use Rattle.std.proofs.Common.{◌≡◌, take, ℕ, List}
use Rattle.std.specs.BTreeMap.{get_by_text}
use Rattle.service_endpoints.specs.Find.{last_place}
use Rattle.service_endpoints.proofs.endpoints.Endpoints.new.Given as goal

abbrev pub invariant-loop-i : goal.invariant-loop-i
invariant-loop-i l = (key : List ℕ) → get_by_text l.places key ≡ last_place key (take l.i l.records.items)
