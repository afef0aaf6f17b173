use Rattle.std.proofs.Common.{◌≡◌, ◌≤◌, ◌++◌, true, All, length, map}
use Rattle.std.specs.Prelude.{vec_capacity}
use Rattle.shared_routes.specs.Makers.{AreNumbered, own_count}
use Rattle.shared_runs.specs.Histories.{SawWhole}
use Rattle.shared_runs.specs.Unnamed.{routes_of, unnamed_end}
use Rattle.shared_runs.proofs.unnamed.unnamed_ends.Given as goal

-- those that were passed have no name any more, their shares are joined, and there is room for the others
abbrev pub invariant-loop-end : goal.invariant-loop-end
invariant-loop-end g l = record {
  walked : l.fn.ends.items ≡ l.yielded ++ l.end-iterator.rest.items;
  left : l.left.items ≡ map unnamed_end l.yielded;
  room : length l.fn.ends.items ≤ vec_capacity l.left;
  parts : l.all.parts ≡ length l.yielded;
  amount : l.all.amount ≡ own_count (map routes_of l.yielded);
  numbered : l.fits ≡ true → AreNumbered 0 (map routes_of l.yielded);
  within : l.fits ≡ true → All (SawWhole g.P.Prefix.home g.P.Prefix.opening (g.P.Prefix.history l.whole).entries) l.yielded;
}
