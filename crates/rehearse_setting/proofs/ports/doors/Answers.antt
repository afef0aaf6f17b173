use Rattle.std.proofs.Common.{arith, ap, subst, sym, [], ◌∷◌, length, length-append}
use Rattle.front_plants.specs.Unused.{IsUnusedDoor}
use Rattle.front_ports.specs.MemoryDoor.{door_left}
use Rattle.rehearse_setting.specs.Sent.{IsSent}
use Rattle.rehearse_setting.proofs.Sent.{all_more, more_sent}
use Rattle.rehearse_setting.proofs.ports.doors.Goals as goal

pub loop-bay-preserved : goal.loop-bay-preserved
loop-bay-preserved c =
    let i = c.loop-bay.invariant in
    let e = c.in_ok-push.ensures in
    let x = c.in_ok-door.field-0 in
    record {
      count = omega (arith, ap length e.items, length-append c.loop-bay.doors.items (x ∷ []), i.count);
      unused = all_more IsUnusedDoor _ _ x e.items i.unused c.in_ok-door.ensures.unused;
      sent = more_sent c.args.plan.start c.args.plan.count c.args.plan.bays _ _ x e.items i.sent
          (subst (λ bay. IsSent c.args.plan.start c.args.plan.count c.args.plan.bays bay (door_left x)) (sym i.count) c.in_ok-door.ensures.sent);
    }
