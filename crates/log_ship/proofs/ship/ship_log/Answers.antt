use Rattle.std.proofs.Common.{◌≤◌, ◌+◌, ◌∙◌, nat_eq, ℕ, [], inl, refl, subst, sym, arith}
use Rattle.log_ship.specs.Cuts.{Gathered}
use Rattle.front_base.specs.declared.audit_id.TheConstants.{MOST_REQUESTS}
use Rattle.log_ship.specs.Chains.{Side}
use Rattle.front_ports.specs.Cause.{Rose}
use Rattle.log_ship.specs.Shipped.{Setup, SendsAtEnd, ShipsInput, SoFar, Takes}
use Rattle.log_ship.specs.declared.end.ShipEnd.TheVariants.{NoMemory}
use Rattle.log_ship.specs.Sides.{side_of}
use Rattle.log_ship.specs.declared.tally.Tally.{Tally}
use Rattle.log_ship.proofs.ShipLemmas.{CutLaws, all_of_them, below, ends, not_begun, rose_earlier, so_far_more, so_far_start, stops_before}
use Rattle.retry_throttle.specs.Sendings.{Rules}
use Rattle.retry_throttle.specs.Senders.{sender_rules}
use Rattle.log_ship.proofs.ship.ship_log.Goals as goal

pub returns-in_default-clause-ships : goal.returns-in_default-clause-ships
returns-in_default-clause-ships g c =
    let laws : CutLaws = record {
      clocks = record { none = c.clocks_go_on.ensures.none; more = c.clocks_go_on.ensures.more };
      none = c.gathering_cuts.ensures.none;
      joins = c.gathering_cuts.ensures.joins;
      begins = c.gathering_cuts.ensures.begins;
      ends = c.gathering_cuts.ensures.ends;
      ends_with = c.gathering_cuts.ensures.ends_with;
      numbers = c.gathering_cuts.ensures.numbers;
    } in
    let setup : Setup = record { limits = c.args.limits; rules = sender_rules c.args.sender.now } in
    let p : Side = side_of g.B.BatchSink.tells g.K.Clock.given g.K.Clock.last g.K.Clock.rests c.args.sender.now in
    let a = g.S.Source.left c.args.input.now in
    subst (λ (z : Tally). ShipsInput setup c.args.before p a a (Unit {0}) 0 0 z NoMemory p) (sym c.none-tally.ensures) (not_begun laws setup c.args.before p a a (Unit {0}))

pub returns-in_default-new-clause-ships : goal.returns-in_default-new-clause-ships
returns-in_default-new-clause-ships g c =
    let laws : CutLaws = record {
      clocks = record { none = c.clocks_go_on.ensures.none; more = c.clocks_go_on.ensures.more };
      none = c.gathering_cuts.ensures.none;
      joins = c.gathering_cuts.ensures.joins;
      begins = c.gathering_cuts.ensures.begins;
      ends = c.gathering_cuts.ensures.ends;
      ends_with = c.gathering_cuts.ensures.ends_with;
      numbers = c.gathering_cuts.ensures.numbers;
    } in
    let setup : Setup = record { limits = c.args.limits; rules = sender_rules c.args.sender.now } in
    let p : Side = side_of g.B.BatchSink.tells g.K.Clock.given g.K.Clock.last g.K.Clock.rests c.args.sender.now in
    let a = g.S.Source.left c.args.input.now in
    subst (λ (z : Tally). ShipsInput setup c.args.before p a a (Unit {0}) 0 0 z NoMemory p) (sym c.none-tally.ensures) (not_begun laws setup c.args.before p a a (Unit {0}))

pub returns-in-Err-clause-ships : goal.returns-in-Err-clause-ships
returns-in-Err-clause-ships g c =
    let laws : CutLaws = record {
      clocks = record { none = c.clocks_go_on.ensures.none; more = c.clocks_go_on.ensures.more };
      none = c.gathering_cuts.ensures.none;
      joins = c.gathering_cuts.ensures.joins;
      begins = c.gathering_cuts.ensures.begins;
      ends = c.gathering_cuts.ensures.ends;
      ends_with = c.gathering_cuts.ensures.ends_with;
      numbers = c.gathering_cuts.ensures.numbers;
    } in
    let setup : Setup = record { limits = c.args.limits; rules = sender_rules c.args.sender.now } in
    let left = g.S.Source.left in
    let faults = g.S.Source.read_faults in
    let p : Side = side_of g.B.BatchSink.tells g.K.Clock.given g.K.Clock.last g.K.Clock.rests c.args.sender.now in
    subst
    (λ (z : Tally). ShipsInput setup c.args.before p (left c.args.input.now) (left c.pass_lines.new.input)
    (Rose (faults c.args.input.now) (faults c.pass_lines.new.input)) c.in-Err.stopped.lines 0 z c.in-Err.stopped.end p)
    (sym c.none-tally.ensures)
    (stops_before laws setup c.args.before p (left c.args.input.now) (left c.pass_lines.new.input) c.pass_lines.new.buffer
    (Rose (faults c.args.input.now) (faults c.pass_lines.new.input)) c.in-Err.stopped.lines c.in-Err.stopped.end c.in-Err.ensures.err)

pub shipping-init : goal.shipping-init
shipping-init g c =
    let laws : CutLaws = record {
      clocks = record { none = c.clocks_go_on.ensures.none; more = c.clocks_go_on.ensures.more };
      none = c.gathering_cuts.ensures.none;
      joins = c.gathering_cuts.ensures.joins;
      begins = c.gathering_cuts.ensures.begins;
      ends = c.gathering_cuts.ensures.ends;
      ends_with = c.gathering_cuts.ensures.ends_with;
      numbers = c.gathering_cuts.ensures.numbers;
    } in
    let setup : Setup = record { limits = c.args.limits; rules = sender_rules c.args.sender.now } in
    let left = g.S.Source.left in
    let p : Side = side_of g.B.BatchSink.tells g.K.Clock.given g.K.Clock.last g.K.Clock.rests c.args.sender.now in
    let a = left c.args.input.now in
    let b = left c.pass_lines.new.input in
    let held = c.pass_lines.new.buffer in
    record {
      so_far =
          subst (λ (z : Gathered). SoFar setup p a b c.args.before 0 held z c.none-tally.result p) (sym c.in-Ok-new.ensures)
          (subst (λ (z : Tally). SoFar setup p a b c.args.before 0 held (record { limits = c.args.limits; lines = [] }) z p) (sym c.none-tally.ensures)
          (so_far_start laws setup p a b c.args.before held c.in-Ok-pass_lines.ensures.ok));
      few = omega arith;
      behind = c.requires.behind;
      rules = refl;
      later = c.pass_lines.ensures.later;
      calm = c.in-Ok-pass_lines.ensures.calm;
    }

pub shipping-smaller : goal.shipping-smaller
shipping-smaller g c =
    let so = c.shipping.invariant.so_far.0 in
    let most : c.shipping.lines ≤ MOST_REQUESTS = let n = so.count_is in let f = so.read.few in omega (arith, n, f) in
    let few = below c.shipping.lines most c.in-None.ensures.ships.few in
    omega (arith, few)

pub shipping-preserved : goal.shipping-preserved
shipping-preserved g c =
    let laws : CutLaws = record {
      clocks = record { none = c.clocks_go_on.ensures.none; more = c.clocks_go_on.ensures.more };
      none = c.gathering_cuts.ensures.none;
      joins = c.gathering_cuts.ensures.joins;
      begins = c.gathering_cuts.ensures.begins;
      ends = c.gathering_cuts.ensures.ends;
      ends_with = c.gathering_cuts.ensures.ends_with;
      numbers = c.gathering_cuts.ensures.numbers;
    } in
    let setup : Setup = record { limits = c.args.limits; rules = sender_rules c.args.sender.now } in
    let left = g.S.Source.left in
    let p : Side = side_of g.B.BatchSink.tells g.K.Clock.given g.K.Clock.last g.K.Clock.rests c.args.sender.now in
    let q : Side = side_of g.B.BatchSink.tells g.K.Clock.given g.K.Clock.last g.K.Clock.rests c.shipping.sender in
    let r : Side = side_of g.B.BatchSink.tells g.K.Clock.given g.K.Clock.last g.K.Clock.rests c.ship_next.new.sender in
    let i = c.shipping.invariant in
    let so = i.so_far.0 in
    let m = c.in-None.ensures.ships in
    let most : c.shipping.lines ≤ MOST_REQUESTS = let n = so.count_is in let f = so.read.few in omega (arith, n, f) in
    let few = below c.shipping.lines most m.few in
    record {
      so_far = so_far_more laws setup p (left c.args.input.now) (left c.shipping.input) (left c.ship_next.new.input) c.args.before c.shipping.lines c.shipping.buffer
          c.ship_next.new.buffer c.shipping.batch c.ship_next.new.batch c.shipping.tally c.ship_next.new.tally q r c.requires.some few
          (nat_eq c.shipping.lines MOST_REQUESTS) i.so_far
          (subst
          (λ (z : Rules). Takes z (left c.shipping.input) (left c.ship_next.new.input) c.shipping.buffer c.ship_next.new.buffer (nat_eq c.shipping.lines MOST_REQUESTS)
          (c.args.before + c.shipping.lines) q c.shipping.batch c.shipping.tally r c.ship_next.new.batch c.ship_next.new.tally)
          i.rules m);
      few = omega (arith, few);
      behind = c.ship_next.ensures.behind;
      rules = c.ship_next.ensures.rules ∙ i.rules;
      later = let a = i.later in let b = c.ship_next.ensures.later in omega (arith, a, b);
      calm = c.in-None.ensures.calm ∙ i.calm;
    }

pub returns-in-Some-clause-ships : goal.returns-in-Some-clause-ships
returns-in-Some-clause-ships g c =
    let laws : CutLaws = record {
      clocks = record { none = c.clocks_go_on.ensures.none; more = c.clocks_go_on.ensures.more };
      none = c.gathering_cuts.ensures.none;
      joins = c.gathering_cuts.ensures.joins;
      begins = c.gathering_cuts.ensures.begins;
      ends = c.gathering_cuts.ensures.ends;
      ends_with = c.gathering_cuts.ensures.ends_with;
      numbers = c.gathering_cuts.ensures.numbers;
    } in
    let setup : Setup = record { limits = c.args.limits; rules = sender_rules c.args.sender.now } in
    let left = g.S.Source.left in
    let p : Side = side_of g.B.BatchSink.tells g.K.Clock.given g.K.Clock.last g.K.Clock.rests c.args.sender.now in
    let q : Side = side_of g.B.BatchSink.tells g.K.Clock.given g.K.Clock.last g.K.Clock.rests c.shipping.sender in
    let q1 : Side = side_of g.B.BatchSink.tells g.K.Clock.given g.K.Clock.last g.K.Clock.rests c.ship_next.new.sender in
    let r : Side = side_of g.B.BatchSink.tells g.K.Clock.given g.K.Clock.last g.K.Clock.rests c.end_with.new.sender in
    let i = c.shipping.invariant in
    let so = i.so_far.0 in
    let n = c.in-Some.ensures.ships in
    let most : c.shipping.lines ≤ MOST_REQUESTS = let n = so.count_is in let f = so.read.few in omega (arith, n, f) in
    let end = c.in-Some.end in
    let u = c.end_with.new.tally in
    let w =
    subst (λ (z : Tally). SendsAtEnd end setup.rules q so.pending z r u) n.1.tally
    (subst (λ (z : Gathered). SendsAtEnd end setup.rules q z.lines c.ship_next.new.tally r u) (n.1.batch ∙ i.so_far.1)
    (subst (λ (z : Side). SendsAtEnd end setup.rules z c.ship_next.new.batch.lines c.ship_next.new.tally r u) n.1.side
    (subst (λ (z : Rules). SendsAtEnd end z q1 c.ship_next.new.batch.lines c.ship_next.new.tally r u) (c.ship_next.ensures.rules ∙ i.rules)
    c.end_with.ensures.sends))) in
    ends laws setup p (left c.args.input.now) (left c.shipping.input) (left c.ship_next.new.input) c.args.before c.shipping.lines c.shipping.buffer c.ship_next.new.buffer
    c.shipping.tally u q r c.args.before (inl refl) _ _ so (nat_eq c.shipping.lines MOST_REQUESTS) end (rose_earlier _ _ _ i.later) (all_of_them c.shipping.lines)
    (below c.shipping.lines most) n.0 w
