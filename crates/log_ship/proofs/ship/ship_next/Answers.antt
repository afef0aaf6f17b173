use Rattle.std.proofs.Common.{◌≡◌, ◌∙◌, ap, subst, sym, ℕ, List, take, arith}
use Rattle.log_lines.specs.Lines.{StartsWithLine}
use Rattle.log_ship.specs.Chains.{Side}
use Rattle.log_ship.specs.Shipped.{Adds}
use Rattle.log_ship.specs.Sides.{side_of}
use Rattle.log_ship.proofs.ShipLemmas.{after_is, text_is}
use Rattle.retry_throttle.specs.Senders.{sender_rules}
use Rattle.log_ship.proofs.ship.ship_next.Goals as goal

pub returns-in-Ok-add_text-clause-ships : goal.returns-in-Ok-add_text-clause-ships
returns-in-Ok-add_text-clause-ships g c =
    let bytes = c.next_text.new.buffer in
    let n = c.in-Ok.size in
    let h = c.in-Ok.ensures.ok in
    let p : Side = side_of g.B.BatchSink.tells g.K.Clock.given g.K.Clock.last g.K.Clock.rests c.args.sender.now in
    let q : Side = side_of g.B.BatchSink.tells g.K.Clock.given g.K.Clock.last g.K.Clock.rests c.add_text.new.sender in
    let e : take n c.as_slice.result.now ≡ h.line = ap (take n) c.as_slice.ensures.value ∙ text_is bytes h.line h.after n h.starts h.size_is in
    let after : c.skip.new.self ≡ h.after = c.skip.ensures ∙ after_is bytes h.line h.after n h.starts h.size_is in
    record {
      bytes = bytes;
      seen = h.seen;
      line = h.line;
      starts = subst (λ (z : List ℕ). StartsWithLine bytes h.line z) (sym after) h.starts;
      short = let a = h.size_is in let b = h.short in omega (arith, a, b);
      shippable = h.shippable;
      few = h.few;
      adds =
          subst
          (λ (z : List ℕ). Adds (sender_rules c.args.sender.now) p c.args.batch.now (record { bay = 0; number = c.args.number; bytes = z }) c.args.tally.now q
          c.add_text.new.batch c.add_text.new.tally)
          e c.in-Ok-add_text.ensures.ok;
    }
