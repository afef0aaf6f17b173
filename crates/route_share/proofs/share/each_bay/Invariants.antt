use Rattle.std.proofs.Common.{◌≡◌, ◌≤◌, ◌+◌, length}
use Rattle.shared_routes.specs.Shared.{AreNew}
use Rattle.route_share.proofs.share.each_bay.Given as goal

-- there are routes for the bays that were passed, and a part for each of the others
abbrev pub invariant-loop : goal.invariant-loop
invariant-loop g l = record {
  room : l.counter ≤ l.bays;
  count : length l.all.items ≡ l.counter;
  fresh : AreNew g.P.Prefix.home g.P.Prefix.opening 0 l.all.items;
  parts : l.rest.parts + l.counter ≡ l.bays;
  none : l.rest.amount ≡ 0;
}
