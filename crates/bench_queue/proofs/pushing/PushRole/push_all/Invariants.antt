use Rattle.std.proofs.Common.{◌≡◌}
use Rattle.bench_queue.proofs.pushing.PushRole.push_all.Given as goal

abbrev pub invariant-loop-number : goal.invariant-loop-number
invariant-loop-number g l = g.P.Pusher.bay l.self.pusher ≡ g.P.Pusher.bay l.initial.self.pusher
