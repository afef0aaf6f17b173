use Rattle.std.proofs.Common.{◌≡◌}
use Rattle.route_writer.proofs.look_up.look.Given as goal

-- nothing was seen yet
abbrev pub invariant-loop : goal.invariant-loop
invariant-loop g l =
    (goal.iterator-loop g).can_next l.iterator' × (goal.iterator-loop g).is_finite l.iterator' × (l.seen ≡ l.initial.seen)
