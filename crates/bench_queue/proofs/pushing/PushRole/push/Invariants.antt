use Rattle.std.proofs.Common.{◌≡◌}
use Rattle.bench_queue.proofs.pushing.PushRole.push.Given as goal

abbrev pub invariant-loop : goal.invariant-loop
invariant-loop g l = record {
  line : l.next.bay ≡ g.P.Pusher.bay l.self.pusher;
  same : g.P.Pusher.bay l.self.pusher ≡ g.P.Pusher.bay l.initial.self.pusher;
}
